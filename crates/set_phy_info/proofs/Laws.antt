-- What the proofs of this crate cite. Assumes nothing.
use mathlib.Core.Path.{◌≡◌, refl, sym, ◌∙◌, ap}
use mathlib.Core.Bool.{Bool, true, false, ◌&&◌}
use mathlib.Core.List.{List}
use Prim.Native.Nat.{ℕ, ◌<◌}
use Rattle.std.specs.Prelude.{Option, Some, None, ltb, get_or}
use Rattle.laws.specs.Choice.{both_right}
use Rattle.phy.specs.declared.Phy.{Phy}
use Rattle.fields.specs.Rules.{range_holds}
use Rattle.fields.proofs.RulesLaws.{range_below}
use Rattle.adapter.specs.Adapter.{Adapter, phy_in}
use Rattle.adapter.specs.Changed.{Stored, gives, leaves, with_body}
use Rattle.codes.specs.Codes.{phy_does_not_exist}
use Rattle.tables.specs.Tables.{existing_phy}
use Rattle.tables.proofs.Laws.{phy_found, phy_missing}
use Rattle.set_phy_info.specs.declared.PhySetting.{PhySetting}
use Rattle.set_phy_info.specs.SetPhyInfo.{phy_setting, programmable, rates_allowed, set_phy, phy_set, set_info}

-- rates that passed fit the programmed half of a byte
module _ (phy : Phy) (s : PhySetting) (minimum maximum : ℕ) (r : Bool) (e : r ≡ rates_allowed phy s minimum maximum) (q : r ≡ true) where
  below : (minimum < 16) × (maximum < 16)
  unfolding rates_allowed
  below =
      range_below phy minimum maximum true
      (sym (both_right (programmable s.minimum && programmable s.maximum) (range_holds phy minimum maximum) (sym e ∙ q))) refl

  pub minimum_below : minimum < 16
  minimum_below = below.0

  pub maximum_below : maximum < 16
  maximum_below = below.1

-- what follows where the phy exists, and where it does not; the body stays
module _ (ad : Adapter) (body : List ℕ) (r : Option Phy) (e : r ≡ existing_phy ad (get_or body 0 0)) where
  pub info_found : (bd : Adapter) (code : ℕ) (s : PhySetting) (phy : Phy) → r ≡ Some phy → s ≡ phy_setting body
      → gives code bd ≡ set_phy ad (record { 0 = get_or body 0 0 }) phy s → leaves code bd body ≡ set_info ad body
  unfolding set_info phy_set
  info_found bd code s phy f g q =
      let found : (ltb (get_or body 0 0) ad.phy_count ≡ true) × (phy_in ad (get_or body 0 0) ≡ phy) = phy_found ad (get_or body 0 0) r e phy f in
      ap (λ (x : Stored). with_body x body) (rw (found.0, found.1, ← g) q)

  pub info_missing : (code : ℕ) → r ≡ None → code ≡ phy_does_not_exist → leaves code ad body ≡ set_info ad body
  unfolding set_info phy_set
  info_missing code f q =
      let missing : ltb (get_or body 0 0) ad.phy_count ≡ false = phy_missing ad (get_or body 0 0) r e f in
      ap (λ (x : Stored). with_body x body) (rw (missing, q) refl)
