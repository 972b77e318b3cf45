-- What is proved of the definitions in specs/Rules.antt. Assumes nothing.
use mathlib.Core.Path.{◌≡◌, refl, sym, ◌∙◌, ap}
use mathlib.Core.Bool.{Bool, true, false, cond, ◌&&◌, ◌||◌, and_assoc}
use mathlib.Core.List.{List}
use Prim.Native.Nat.{ℕ, ◌%◌, ◌<◌, ◌≤◌}
use native.Mathlib.Omega.{arith}
use lib.Dec.{eqb, leb}
use lib.ListN.{length}
use borrow.Author.Tests.{eqb-true, eqb-false, eq-eqb, ne_eqb, leb-true, le-leb, lt-leb}
use Rattle.laws.specs.All.{all_to}
use Rattle.laws.specs.Choice.{and_true, and_false, both_left, both_right, by_bool}
use Rattle.laws.specs.Splice.{part, part_all}
use Rattle.wire.specs.Number.{number}
use Rattle.wire.specs.Same.{same_bytes, all_zero}
use Rattle.phy.specs.declared.Phy.{Phy}
use Rattle.phy.specs.declared.PhyIdentifier.{PhyIdentifier}
use Rattle.phy.specs.Block.{counters_at, phy_of, zero_phy}
use Rattle.codes.specs.Codes.{end_device}
use Rattle.phy.specs.Entity.{byte_of, protocols_place, attached_of, attached_type, no_device, is_sata}
use Rattle.fields.specs.Rules.{is_rate, in_range, range_holds, identify_holds, rates_hold, empty_holds, device_holds, attached_hold, held_signature_holds, spinup_allowed, fields_hold, phy_zero}

-- ---- what the code finds

-- what a look through all n bytes of a field tells
pub zero_all : (s : List ℕ) (n : ℕ) (r : Bool) → length s ≡ n → r ≡ all_zero (part s 0 n) → r ≡ all_zero s
zero_all s n r h e = e ∙ ap all_zero (ap (part s 0) (sym h) ∙ part_all s)

-- the phy of a block of zeros is all zero
pub zero_phy_lem : phy_zero zero_phy ≡ true
unfolding phy_zero all_to zero_phy phy_of counters_at number part all_zero same_bytes
zero_phy_lem = refl

-- ---- rates in order

-- a test that holds exactly where another does
same_truth : (a b : Bool) → (a ≡ true → b ≡ true) → (b ≡ true → a ≡ true) → a ≡ b
same_truth true b f g = sym (f refl)
same_truth false true f g = g refl
same_truth false false f g = refl

rate_by : (code : ℕ) → 8 ≤ code → code ≤ 9 → is_rate code ≡ true
unfolding is_rate
rate_by code h k =
    by_bool (λ (t : Bool). eqb code 8 ≡ t → t || eqb code 9 ≡ true) (λ p. refl)
    (λ p. let d : (code ≡ 8 → ⊥) = eqb-false code 8 p in
    eq-eqb code 9 (omega arith)) (eqb code 8) refl

rate_bounds : (code : ℕ) → is_rate code ≡ true → (8 ≤ code) × (code ≤ 9)
unfolding is_rate
rate_bounds code h =
    by_bool (λ (t : Bool). eqb code 8 ≡ t → (8 ≤ code) × (code ≤ 9))
    (λ p. (omega (arith, eqb-true code 8 p), omega (arith, eqb-true code 8 p)))
    (λ p. let q : code ≡ 9 = eqb-true code 9 (rw p at h) in
    (omega arith, omega arith)) (eqb code 8) refl

-- what four tests say together, and five
four_hold : (a b c d : Bool) → a && b && c && d ≡ true → (a ≡ true) × (b ≡ true) × (c ≡ true) × (d ≡ true)
four_hold a b c d h =
    let x : a && b && c ≡ true = both_left (a && b && c) d h in
    let y : a && b ≡ true = both_left (a && b) c x in
    (both_left a b y, both_right a b y, both_right (a && b) c x, both_right (a && b && c) d h)

five_hold : (a b c d e : Bool) → a && b && c && d && e ≡ true → (a ≡ true) × (b ≡ true) × (c ≡ true) × (d ≡ true) × (e ≡ true)
five_hold a b c d e h =
    let x = four_hold a b c d (both_left (a && b && c && d) e h) in
    (x.0, x.1, x.2, x.3, both_right (a && b && c && d) e h)

-- four numbers
pub rates_in_order : (a b c d : ℕ) → leb 8 a && leb a b && leb b c && leb c d && leb d 9 ≡ is_rate a && is_rate d && in_range a b c d
unfolding in_range
rates_in_order a b c d =
    same_truth (leb 8 a && leb a b && leb b c && leb c d && leb d 9) (is_rate a && is_rate d && in_range a b c d)
    (λ h. let t = five_hold (leb 8 a) (leb a b) (leb b c) (leb c d) (leb d 9) h in
    let v : 8 ≤ a = leb-true 8 a t.0 in
    let w : a ≤ b = leb-true a b t.1 in
    let x : b ≤ c = leb-true b c t.2 in
    let y : c ≤ d = leb-true c d t.3 in
    let z : d ≤ 9 = leb-true d 9 t.4 in
    rw (
      rate_by a v (omega arith),
      rate_by b (omega arith) (omega arith),
      rate_by c (omega arith) (omega arith),
      rate_by d (omega arith) z,
      t.1,
      t.2,
      t.3,
    )
    refl)
    (λ h. let e : is_rate a && is_rate d ≡ true = both_left (is_rate a && is_rate d) (in_range a b c d) h in
    let t = five_hold (is_rate b) (is_rate c) (leb a b) (leb b c) (leb c d) (both_right (is_rate a && is_rate d) (in_range a b c d) h) in
    let x = rate_bounds a (both_left (is_rate a) (is_rate d) e) in
    let y = rate_bounds d (both_right (is_rate a) (is_rate d) e) in
    rw (le-leb 8 a x.0, t.2, t.3, t.4, le-leb d 9 y.1) refl)

-- and two
pub device_in_order : (l h : ℕ) → leb 8 l && leb l h && leb h 9 ≡ is_rate l && is_rate h && leb l h
device_in_order l h =
    same_truth (leb 8 l && leb l h && leb h 9) (is_rate l && is_rate h && leb l h)
    (λ e. let t = four_hold true (leb 8 l) (leb l h) (leb h 9) e in
    let x : 8 ≤ l = leb-true 8 l t.1 in
    let y : l ≤ h = leb-true l h t.2 in
    let z : h ≤ 9 = leb-true h 9 t.3 in
    rw (rate_by l x (omega arith), rate_by h (omega arith) z, t.2) refl)
    (λ e. let t = four_hold true (is_rate l) (is_rate h) (leb l h) e in
    rw (le-leb 8 l (rate_bounds l t.1).0, t.3, le-leb h 9 (rate_bounds h t.2).1) refl)

-- behind another test
behind : (s a b c : Bool) → s && (a && b && c) ≡ s && a && b && c
behind true a b c = refl
behind false a b c = refl

-- ---- one group of rules behind the other

module _ (phy : Phy) where
  -- whether a signature is held, and what that asks
  pub signature_held : (r : Bool) → phy.held ≡ 1 → r ≡ is_sata phy → r ≡ leb phy.held 1 && held_signature_holds phy
  unfolding held_signature_holds
  signature_held r e q = rw (eq-eqb phy.held 1 e, le-leb phy.held 1 (omega arith)) q

  pub signature_none : (r : Bool) → (phy.held ≡ 1 → ⊥) → r ≡ all_zero phy.signature → eqb phy.held 0 && r ≡ leb phy.held 1 && held_signature_holds phy
  unfolding held_signature_holds
  signature_none r d q =
      by_bool (λ (t : Bool). eqb phy.held 0 ≡ t → t && r ≡ leb phy.held 1 && cond (eqb phy.held 1) (is_sata phy) (all_zero phy.signature))
      (λ p. rw (eqb-true phy.held 0 p) q)
      (λ p. let k : (phy.held ≡ 0 → ⊥) = eqb-false phy.held 0 p in
      rw (lt-leb phy.held 1 (omega arith)) refl)
      (eqb phy.held 0) refl

  -- whether the device is held at spin_up
  pub spinup_none : phy.spinup_hold ≡ 0 → true ≡ spinup_allowed phy
  unfolding spinup_allowed
  spinup_none e = rw e refl

  pub spinup_some : (r : Bool) → (phy.spinup_hold ≡ 0 → ⊥) → r ≡ is_sata phy → eqb phy.spinup_hold 1 && r ≡ spinup_allowed phy
  unfolding spinup_allowed
  spinup_some r d q = rw (ne_eqb phy.spinup_hold 0 d, q) refl

  -- where nothing is attached the rest follows, but for bytes 101 and 104
  empty_rest : empty_holds phy && leb phy.held 1 && held_signature_holds phy ≡ empty_holds phy
  unfolding empty_holds held_signature_holds
  empty_rest =
      same_truth (empty_holds phy && leb phy.held 1 && held_signature_holds phy) (empty_holds phy)
      (λ h. both_left (empty_holds phy) (leb phy.held 1) (both_left (empty_holds phy && leb phy.held 1) (held_signature_holds phy) h))
      (λ h. let t = five_hold (all_zero (attached_of phy)) (all_zero phy.signature) (eqb phy.held 0) (eqb phy.lowest 0) (eqb phy.highest 0) h in
      rw (h, eqb-true phy.held 0 t.2, t.1) refl)

  -- nothing attached, and a device attached
  pub nothing_attached : (r : Bool) → no_device phy ≡ true → r ≡ empty_holds phy → r ≡ attached_hold phy && leb phy.held 1 && held_signature_holds phy
  unfolding attached_hold
  nothing_attached r e q = q ∙ rw e (sym empty_rest)

  pub device_attached : (r : Bool) → no_device phy ≡ false → r ≡ device_holds phy && (leb phy.held 1 && held_signature_holds phy)
      → r ≡ attached_hold phy && leb phy.held 1 && held_signature_holds phy
  unfolding attached_hold
  device_attached r e q = q ∙ rw e (sym (and_assoc (device_holds phy) (leb phy.held 1) (held_signature_holds phy)))

  -- a signature held: a SATA device is one, and of a device its rates are left
  sata_rest : attached_hold phy && is_sata phy ≡ is_sata phy && is_rate phy.lowest && is_rate phy.highest && leb phy.lowest phy.highest
  unfolding is_sata attached_hold no_device device_holds
  sata_rest =
      by_bool (λ (t : Bool). is_sata phy ≡ t → attached_hold phy && t ≡ t && is_rate phy.lowest && is_rate phy.highest && leb phy.lowest phy.highest)
      (λ p. let e : attached_type phy ≡ end_device =
      eqb-true (attached_type phy) end_device (both_left (eqb (attached_type phy) end_device) (eqb (byte_of phy protocols_place % 2) 1) p) in
      rw (e, and_true) refl)
      (λ _. rw and_false refl) (is_sata phy) refl

  pub signed_rates : (r : Bool) → phy.held ≡ 1 → is_sata phy ≡ true → r ≡ is_rate phy.lowest && is_rate phy.highest && leb phy.lowest phy.highest
      → r ≡ attached_hold phy && leb phy.held 1 && held_signature_holds phy
  unfolding held_signature_holds
  signed_rates r h e q =
      let t : attached_hold phy && true ≡ is_rate phy.lowest && is_rate phy.highest && leb phy.lowest phy.highest = rw e at sata_rest in
      q ∙ sym t ∙ rw (e, le-leb phy.held 1 (omega arith), eq-eqb phy.held 1 h, and_true (attached_hold phy && true)) refl

  pub sata_rates : (x r : Bool) → x ≡ is_sata phy → r ≡ is_rate phy.lowest && is_rate phy.highest && leb phy.lowest phy.highest
      → x && r ≡ is_sata phy && is_rate phy.lowest && is_rate phy.highest && leb phy.lowest phy.highest
  sata_rates x r e q = rw (e, q) (behind (is_sata phy) (is_rate phy.lowest) (is_rate phy.highest) (leb phy.lowest phy.highest))

  -- the same with byte 101
  pub signed : (r : Bool) → leb phy.fixed 1 ≡ true → phy.held ≡ 1 → r ≡ is_sata phy && is_rate phy.lowest && is_rate phy.highest && leb phy.lowest phy.highest
      → r ≡ attached_hold phy && leb phy.held 1 && leb phy.fixed 1 && held_signature_holds phy
  unfolding held_signature_holds
  signed r e h q = q ∙ sym sata_rest ∙ rw (e, le-leb phy.held 1 (omega arith), eq-eqb phy.held 1 h, and_true, and_true) refl

  -- byte 101
  pub fixed_failed : leb phy.fixed 1 ≡ false → false ≡ attached_hold phy && leb phy.held 1 && leb phy.fixed 1 && held_signature_holds phy
  fixed_failed e = rw (e, and_false) refl

  pub fixed_passed : (r : Bool) → leb phy.fixed 1 ≡ true → r ≡ attached_hold phy && leb phy.held 1 && held_signature_holds phy
      → r ≡ attached_hold phy && leb phy.held 1 && leb phy.fixed 1 && held_signature_holds phy
  fixed_passed r e q = q ∙ rw (e, and_true) refl

module _ (phy : Phy) (n : PhyIdentifier) (p : ℕ) where
  pub identify_failed : identify_holds phy n p ≡ false → false ≡ fields_hold phy n p
  unfolding fields_hold
  identify_failed e = rw e refl

  pub rates_failed : identify_holds phy n p ≡ true → rates_hold phy ≡ false → false ≡ fields_hold phy n p
  unfolding fields_hold
  rates_failed e f = rw (e, f) refl

  pub rates_passed : (r : Bool) → identify_holds phy n p ≡ true → rates_hold phy ≡ true
      → r ≡ attached_hold phy && leb phy.held 1 && leb phy.fixed 1 && held_signature_holds phy && spinup_allowed phy → r ≡ fields_hold phy n p
  unfolding fields_hold
  rates_passed r e f q = rw (e, f) q

-- ---- rates that passed fit the programmed half of a byte

-- where a callee's answer r says so, as `configured` asks it
pub range_below : (phy : Phy) (minimum maximum : ℕ) (r : Bool) → r ≡ range_holds phy minimum maximum → r ≡ true → (minimum < 16) × (maximum < 16)
unfolding range_holds in_range
range_below phy minimum maximum r e q =
    let h : is_rate minimum && is_rate maximum ≡ true = both_left _ _ (both_left _ _ (both_left _ _ (sym e ∙ q))) in
    let x = rate_bounds minimum (both_left (is_rate minimum) (is_rate maximum) h) in
    let y = rate_bounds maximum (both_right (is_rate minimum) (is_rate maximum) h) in
    (omega (arith, x.1), omega (arith, y.1))
