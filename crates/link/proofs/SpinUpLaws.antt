-- Where the link rule gives 3, and where the rule of the negotiated rate lets it stand (W-205). Assumes nothing.
use mathlib.Core.Path.{◌≡◌, refl, sym, ◌∙◌, ap}
use mathlib.Core.Logic.{◌≢◌}
use mathlib.Core.Bool.{Bool, true, false, cond}
use Prim.Native.Nat.{ℕ}
use native.Mathlib.Omega.{arith}
use native.Mathlib.Decide.{ℕ_discrete}
use lib.Dec.{eqb}
use borrow.Author.Tests.{eqb-true, eq-eqb, ne_eqb}
use Rattle.laws.specs.Choice.{by_bool, either}
use Rattle.codes.specs.Codes.{phy_disabled, sata_spinup_hold, link_rate_1_5, link_rate_3_0}
use Rattle.phy.specs.declared.Phy.{Phy}
use Rattle.phy.specs.Entity.{attached_type, no_device, negotiated_of, programmed_minimum, programmed_maximum}
use Rattle.phy.specs.Change.{released}
use Rattle.fields.specs.Rules.{is_rate}
use Rattle.link.specs.Rule.{in_both, rates_rule, plain_rule, waiting_rate, rule_of, negotiated_holds}

-- ---- a rate

-- the two ranges never give 3
rates_never : (none : Bool) (minimum maximum lowest highest : ℕ) → rates_rule none minimum maximum lowest highest ≢ sata_spinup_hold
unfolding rates_rule
rates_never none minimum maximum lowest highest =
    let No : (ℕ → Type 0) = λ rate. rate ≢ sata_spinup_hold in
    either No none (λ e. omega arith)
    (either No (in_both link_rate_3_0 minimum maximum lowest highest) (λ e. omega arith)
    (either No (in_both link_rate_1_5 minimum maximum lowest highest) (λ e. omega arith) (λ e. omega arith)))

-- and a rate that waits is none
waiting_none : (rate : ℕ) → is_rate (waiting_rate rate) ≡ false
unfolding waiting_rate is_rate
waiting_none rate = by_bool (λ (t : Bool). is_rate rate ≡ t → is_rate (cond t sata_spinup_hold rate) ≡ false) (λ _. refl) (λ p. p) (is_rate rate) refl

waiting_rate_lem : (rate : ℕ) → rate ≢ sata_spinup_hold → waiting_rate rate ≡ sata_spinup_hold → is_rate rate ≡ true
unfolding waiting_rate
waiting_rate_lem rate n =
    by_bool (λ (t : Bool). is_rate rate ≡ t → cond t sata_spinup_hold rate ≡ sata_spinup_hold → is_rate rate ≡ true) (λ p _. p) (λ _ e. absurd (n e)) (is_rate rate) refl

-- ---- a phy

module _ (phy : Phy) where
  plain_never : plain_rule phy ≢ sata_spinup_hold
  unfolding plain_rule
  plain_never = rates_never (no_device phy) (programmed_minimum phy) (programmed_maximum phy) phy.lowest phy.highest

  -- the rule of a phy that is not held
  rule_released : rule_of (released phy) ≡ plain_rule phy
  unfolding rule_of plain_rule released no_device attached_type programmed_minimum programmed_maximum
  rule_released = refl

  -- of one that is held
  rule_held : phy.spinup_hold ≡ 1 → rule_of phy ≡ waiting_rate (plain_rule phy)
  unfolding rule_of
  rule_held e = ap (λ (t : Bool). cond t (waiting_rate (plain_rule phy)) (plain_rule phy)) (eq-eqb phy.spinup_hold 1 e)

  rule_waits : rule_of phy ≡ sata_spinup_hold → (phy.spinup_hold ≡ 1) × (is_rate (rule_of (released phy)) ≡ true)
  unfolding rule_of
  rule_waits =
      by_bool (λ (t : Bool). eqb phy.spinup_hold 1 ≡ t → cond t (waiting_rate (plain_rule phy)) (plain_rule phy) ≡ sata_spinup_hold
      → (phy.spinup_hold ≡ 1) × (is_rate (rule_of (released phy)) ≡ true))
      (λ p e. (eqb-true phy.spinup_hold 1 p, rw rule_released (waiting_rate_lem (plain_rule phy) plain_never e)))
      (λ _ e. absurd (plain_never e)) (eqb phy.spinup_hold 1) refl

  rule_shows : phy.spinup_hold ≡ 1 → is_rate (rule_of (released phy)) ≡ true → rule_of phy ≡ sata_spinup_hold
  unfolding waiting_rate
  rule_shows e q =
      let h : is_rate (plain_rule phy) ≡ true = rw rule_released at q in
      rule_held e ∙ rw h refl

  rule_rateless : phy.spinup_hold ≡ 1 → is_rate (rule_of phy) ≡ false
  rule_rateless e = rw (rule_held e) (waiting_none (plain_rule phy))

  -- the same of the rate that stands there
  module _ (h : negotiated_holds phy ≡ true) where
    -- 1, or what the rule gives
    rate_by_rule : negotiated_of phy ≢ phy_disabled → negotiated_of phy ≡ rule_of phy
    unfolding negotiated_holds
    rate_by_rule n = eqb-true (negotiated_of phy) (rule_of phy) (rw (ne_eqb (negotiated_of phy) phy_disabled n) at h)

    pub rate_waits : negotiated_of phy ≡ sata_spinup_hold → (phy.spinup_hold ≡ 1) × (is_rate (rule_of (released phy)) ≡ true)
    rate_waits e = rule_waits (sym (rate_by_rule (λ q. omega (arith, e))) ∙ e)

    pub rate_shows : phy.spinup_hold ≡ 1 → is_rate (rule_of (released phy)) ≡ true → negotiated_of phy ≢ phy_disabled → negotiated_of phy ≡ sata_spinup_hold
    rate_shows e q n = rate_by_rule n ∙ rule_shows e q

    pub rate_rateless : phy.spinup_hold ≡ 1 → is_rate (negotiated_of phy) ≡ false
    unfolding is_rate
    rate_rateless e = at (ℕ_discrete (negotiated_of phy) phy_disabled)
      where
        at : Dec (negotiated_of phy ≡ phy_disabled) → is_rate (negotiated_of phy) ≡ false
        at (yes d) = rw d refl
        at (no n) = rw (rate_by_rule n) (rule_rateless e)
