-- What is proved of the definitions in specs/Ranges.antt. Assumes nothing.
use mathlib.Core.Path.{◌≡◌, refl, sym, ◌∙◌, ap}
use mathlib.Core.Bool.{Bool, true, ◌&&◌}
use mathlib.Core.List.{List, [], ◌∷◌}
use mathlib.Core.Logic.{inl, inr}
use Prim.Native.Nat.{ℕ, zero, suc, ◌<◌, ◌≤◌, zero-le}
use native.Mathlib.Omega.{arith}
use lib.Dec.{eqb, leb}
use lib.ListN.{get_or}
use borrow.Author.Tests.{le-leb, lt-leb, leb-true, leb-false, eqb-true}
use Rattle.laws.specs.All.{all_to, all_at}
use Rattle.laws.specs.Cases.{All}
use Rattle.laws.specs.Choice.{by_bool, both_left, both_right, and_false}
use Rattle.level.specs.declared.Level.{Level}
use Rattle.level.specs.Text.{full}
use Rattle.level.specs.Need.{among, need_of}
use Rattle.level.specs.Ranges.{Range, In, Arm, formula, by_range, ranges, Follow, Some, OneNeed, CanDo}

-- ---- the need of the range that a code is in

here : (a : Arm) (rest : List Arm) (c : ℕ) → In c a.range → by_range (a ∷ rest) c ≡ a.need
unfolding by_range
here a rest c h = rw (le-leb a.range.first c h.0, le-leb c a.range.last h.1)

behind : (a : Arm) (rest : List Arm) (c : ℕ) → a.range.last < c → by_range (a ∷ rest) c ≡ by_range rest c
unfolding by_range
behind a rest c h = rw (lt-leb c a.range.last h, and_false)

-- the range at a place of a list; past its end one that has no code
abbrev nowhere : Arm
nowhere = record { range = record { first = 1; last = 0 }; need = full }

abbrev at : List Arm → ℕ → Arm
at arms k = get_or arms k nowhere

-- ranges that follow one another from a code have none below it
from_next : (next k c : ℕ) (arms : List Arm) → Follow next (ranges arms) → In c (at arms k).range → next ≤ c
from_next next k c [] f i = absurd (omega (i.0, i.1, arith))
from_next next zero c (a ∷ rest) f i = omega (f.0, i.0, arith)
from_next next (suc k) c (a ∷ rest) f i = omega (f.0, f.1, from_next (suc a.range.last) k c rest f.2 i, arith)

in_arm : (next k c : ℕ) (arms : List Arm) → Follow next (ranges arms) → In c (at arms k).range → (at arms k).need ≡ by_range arms c
in_arm next k c [] f i = absurd (omega (i.0, i.1, arith))
in_arm next zero c (a ∷ rest) f i = sym (here a rest c i)
in_arm next (suc k) c (a ∷ rest) f i =
    in_arm (suc a.range.last) k c rest f.2 i ∙ sym (behind a rest c (from_next (suc a.range.last) k c rest f.2 i))

-- ---- the formula's ranges follow one another, and its answers are document 01's, by computation

follow_test : ℕ → List Range → Bool
follow_test next [] = eqb next 256
follow_test next (r ∷ rs) = (eqb r.first next && leb r.first r.last) && follow_test (suc r.last) rs

follow_by : (next : ℕ) (rs : List Range) → follow_test next rs ≡ true → Follow next rs
unfolding follow_test
follow_by next [] t = eqb-true next 256 t
follow_by next (r ∷ rs) t =
    let starts : Bool = eqb r.first next in
    let ends : Bool = leb r.first r.last in
    let more : Bool = follow_test (suc r.last) rs in
    let it : starts && ends ≡ true = both_left (starts && ends) more t in (
      eqb-true r.first next (both_left starts ends it),
      leb-true r.first r.last (both_right starts ends it),
      follow_by (suc r.last) rs (both_right (starts && ends) more t),
    )

pub formula_follows : Follow 0x00 (ranges formula)
unfolding follow_test
formula_follows = follow_by 0x00 (ranges formula) refl

agree : ℕ → Bool
agree c = eqb (by_range formula c).0 (need_of c).0

formula_agrees : all_to agree 256 ≡ true
unfolding all_to agree by_range need_of among
formula_agrees = refl

of_number : (l m : Level) → l.0 ≡ m.0 → l ≡ m
of_number l m e = ap (λ (n : ℕ). record { 0 = n }) e

pub formula_answers : (c : ℕ) → c < 256 → by_range formula c ≡ need_of c
unfolding agree
formula_answers c h = of_number (by_range formula c) (need_of c) (eqb-true (by_range formula c).0 (need_of c).0 (all_at agree 256 c formula_agrees h))

-- the need of a range, by its place in the formula
pub formula_at : (k : ℕ) {first last c : ℕ} {need : Level} → at formula k ≡ record { range = record { first = first; last = last }; need = need }
    → first ≤ c → c ≤ last → need ≡ by_range formula c
formula_at k {c = c} e h i = sym (ap (λ (a : Arm). a.need) e) ∙ in_arm 0x00 k c formula formula_follows (rw e (h, i))

-- and so of a code: what the formula says is what document 01 lists
pub formula_need : (r : Level) (c : ℕ) → c < 256 → r ≡ by_range formula c → r ≡ need_of c
formula_need r c h e = e ∙ formula_answers c h

-- a code from n on that is not n is past n
pub past : (n : ℕ) {c : ℕ} → n ≤ c → (c ≡ n → ⊥) → suc n ≤ c
past n {c} h e = omega arith

-- ---- ranges that follow one another cover the codes, and those of a formula with the right answers are of one need

cover_by : (next : ℕ) (rs : List Range) → Follow next rs → (c : ℕ) → next ≤ c → c < 256 → Some (In c) rs
cover_by next [] f c n h = absurd (omega (f, n, h, arith))
cover_by next (r ∷ rs) f c n h =
    by_bool (λ (b : Bool). leb c r.last ≡ b → Some (In c) (r ∷ rs))
    (λ e. inl (omega (f.0, n, arith), leb-true c r.last e))
    (λ e. inr (cover_by (suc r.last) rs f.2 c (leb-false c r.last e) h)) (leb c r.last) refl

one_by : (next : ℕ) (arms : List Arm) → Follow next (ranges arms) → ((c : ℕ) → next ≤ c → c < 256 → by_range arms c ≡ need_of c)
    → All OneNeed (ranges arms)
one_by next [] f g = tt
one_by next (a ∷ rest) f g = (
  λ c d h k i j. sym (of_here c h i) ∙ of_here d k j,
  one_by (suc a.range.last) rest f.2 (λ c n h. sym (behind a rest c n) ∙ g c (omega (f.0, f.1, n, arith)) h),
)
  where
    of_here : (c : ℕ) → c < 256 → In c a.range → a.need ≡ need_of c
    of_here c h i = sym (here a rest c i) ∙ g c (omega (f.0, i.0, arith)) h

pub formula_can_do : CanDo (ranges formula)
formula_can_do =
    (λ c h. cover_by 0x00 (ranges formula) formula_follows c zero-le h, one_by 0x00 formula formula_follows (λ c n h. formula_answers c h))
