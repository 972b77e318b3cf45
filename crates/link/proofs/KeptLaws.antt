-- What a link reset and disabling keep and set, and that the field rules go on holding. Assumes nothing.
use mathlib.Core.Path.{◌≡◌, refl, sym, ◌∙◌}
use mathlib.Core.Bool.{Bool, true, ◌||◌}
use Prim.Native.Nat.{ℕ}
use lib.Dec.{eqb}
use lib.ListN.{length}
use borrow.Author.Tests.{eq-eqb}
use Rattle.laws.specs.Choice.{by_bool, either}
use Rattle.phy.specs.declared.Phy.{Phy}
use Rattle.phy.specs.declared.PhyIdentifier.{PhyIdentifier}
use Rattle.phy.specs.Entity.{negotiated_of}
use Rattle.phy.specs.Change.{cleared, raised, negotiated_as}
use Rattle.fields.specs.Rules.{fields_hold}
use Rattle.phy.proofs.KeptLaws.{Kept, Settings, kept_trans, settings_trans}
use Rattle.phy.proofs.ChangedLaws.{kept_cleared, kept_raised, kept_negotiated, settings_cleared, settings_raised, settings_negotiated, negotiated_cleared, negotiated_raised, negotiated_now}
use Rattle.fields.proofs.HoldLaws.{fields_kept}
use Rattle.codes.specs.Codes.{phy_disabled, link_rate_failed}
use Rattle.link.specs.Rule.{plain_rule, rule_of, counted, reset, disabled, negotiated_holds}

pub holds_of : (phy x : Phy) (r : Bool) → x ≡ phy → r ≡ negotiated_holds x → r ≡ negotiated_holds phy
holds_of phy x r e p = rw e at p

-- ---- what a reset and disabling keep

-- the rule goes by what neither changes
rule_kept : (a b : Phy) → Kept a b → Settings a b → rule_of b ≡ rule_of a
unfolding rule_of plain_rule
rule_kept a b k s = cc

-- a rate that is what the rule gives passes
given : (phy : Phy) → negotiated_of phy ≡ rule_of phy → negotiated_holds phy ≡ true
unfolding negotiated_holds
given phy e =
    by_bool (λ (t : Bool). t || eqb (negotiated_of phy) (rule_of phy) ≡ true) refl (eq-eqb (negotiated_of phy) (rule_of phy) e)
    (eqb (negotiated_of phy) phy_disabled)

holds_kept : (a b : Phy) → Kept a b → Settings a b → negotiated_of b ≡ negotiated_of a → negotiated_holds b ≡ negotiated_holds a
unfolding negotiated_holds
holds_kept a b k s e = rw (e, rule_kept a b k s)

pub holds_cleared : (phy : Phy) → negotiated_holds (cleared phy) ≡ negotiated_holds phy
holds_cleared phy = holds_kept phy (cleared phy) (kept_cleared phy) (settings_cleared phy) (negotiated_cleared phy)

-- ---- a link reset

module _ (phy : Phy) where
  -- the phy with the rate that the rule gives, before a failure is counted
  abbrev linked : Phy
  linked = negotiated_as phy (rule_of phy)

  pub kept_reset : Kept phy (reset phy)
  unfolding reset counted
  kept_reset =
      either (λ (b : Phy). Kept phy b) (eqb (rule_of phy) link_rate_failed)
      (kept_trans phy linked (raised linked) (kept_negotiated phy (rule_of phy)) (kept_raised linked))
      (kept_negotiated phy (rule_of phy))

  pub settings_reset : Settings phy (reset phy)
  unfolding reset counted
  settings_reset =
      either (λ (b : Phy). Settings phy b) (eqb (rule_of phy) link_rate_failed)
      (settings_trans phy linked (raised linked) (settings_negotiated phy (rule_of phy)) (settings_raised linked))
      (settings_negotiated phy (rule_of phy))

  negotiated_reset : length phy.entity ≡ 64 → negotiated_of (reset phy) ≡ rule_of phy
  unfolding reset counted
  negotiated_reset e =
      either (λ (b : Phy). negotiated_of b ≡ rule_of phy) (eqb (rule_of phy) link_rate_failed)
      (negotiated_raised linked ∙ negotiated_now phy (rule_of phy) e)
      (negotiated_now phy (rule_of phy) e)

  pub holds_reset : length phy.entity ≡ 64 → negotiated_holds (reset phy) ≡ true
  holds_reset e = given (reset phy) (negotiated_reset e ∙ sym (rule_kept phy (reset phy) kept_reset settings_reset))

  pub fields_reset : (n : PhyIdentifier) (p : ℕ) → fields_hold (reset phy) n p ≡ fields_hold phy n p
  fields_reset n p = fields_kept phy (reset phy) n p kept_reset settings_reset

-- ---- a phy disabled

module _ (phy : Phy) where
  pub kept_disabled : Kept phy (disabled phy)
  unfolding disabled
  kept_disabled = kept_negotiated phy phy_disabled

  pub settings_disabled : Settings phy (disabled phy)
  unfolding disabled
  settings_disabled = settings_negotiated phy phy_disabled

  negotiated_disabled : length phy.entity ≡ 64 → negotiated_of (disabled phy) ≡ phy_disabled
  unfolding disabled
  negotiated_disabled e = negotiated_now phy phy_disabled e

  pub holds_disabled : length phy.entity ≡ 64 → negotiated_holds (disabled phy) ≡ true
  unfolding negotiated_holds
  holds_disabled e = rw (negotiated_disabled e)

  pub fields_disabled : (n : PhyIdentifier) (p : ℕ) → fields_hold (disabled phy) n p ≡ fields_hold phy n p
  fields_disabled n p = fields_kept phy (disabled phy) n p kept_disabled settings_disabled
