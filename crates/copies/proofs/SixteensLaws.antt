-- A copy of 16 bytes at a time. Assumes nothing.
use mathlib.Core.Path.{◌≡◌, refl, sym, ◌∙◌, ap}
use mathlib.Core.List.{List}
use Prim.Native.Nat.{ℕ, ◌+◌, ◌*◌, ◌/◌, ◌%◌, ◌<◌, ◌≤◌}
use native.Mathlib.Nat.{le_antisymm}
use native.Mathlib.Omega.{arith}
use lib.ListN.{length, replicate}
use borrow.Author.Rules.{rules}
use Rattle.laws.specs.Copy.{copy_none}
use Rattle.laws.specs.Splice.{part, splice, splice_next, splice_all, length_part, part_all, part_add}

-- through an array
pub sixteen_moved : (d s b t : List ℕ) (at from : ℕ) → from + 16 ≤ length s → b ≡ splice (replicate 16 0) 0 (part s from 16) → t ≡ splice d at (part b 0 16)
    → t ≡ splice d at (part s from 16)
sixteen_moved d s b t at from h p q =
    let l : length (part s from 16) ≡ 16 = length_part s from 16 h in
    let e : b ≡ part s from 16 = splice_all (replicate 16 0) (part s from 16) b l p in
    q ∙ ap (splice d at) (ap (λ (x : List ℕ). part x 0 16) e ∙ ap (part (part s from 16) 0) (sym l) ∙ part_all (part s from 16))

-- a copy, and one right behind it
beside : (d : List ℕ) (at : ℕ) (s : List ℕ) (from n m : ℕ) → from + (n + m) ≤ length s → at + n ≤ length d
    → splice (splice d at (part s from n)) (at + n) (part s (from + n) m) ≡ splice d at (part s from (n + m))
beside d at s from n m h k =
    splice_next d at (at + n) (part s from n) (part s (from + n) m) (rw (length_part s from n (omega arith)) refl) k
    ∙ ap (splice d at) (sym (part_add s from n m))

-- the loop: its start, a turn, its end, and the length on the way
pub sixteens_none : (d : List ℕ) (at : ℕ) (s : List ℕ) (from n : ℕ) → from + 16 * n ≤ length s → d ≡ splice d at (part s from (16 * 0))
sixteens_none d at s from n h = copy_none d at s from (16 * n) h

pub sixteens_more : (d d₀ t s : List ℕ) (at from j n : ℕ) → j < n → at + 16 * n ≤ length d₀ → from + 16 * n ≤ length s → d ≡ splice d₀ at (part s from (16 * j))
    → t ≡ splice d (at + 16 * j) (part s (from + 16 * j) 16) → t ≡ splice d₀ at (part s from (16 * (j + 1)))
sixteens_more d d₀ t s at from j n l h k e q =
    let m : 16 * (j + 1) ≡ 16 * j + 16 = omega arith in
    q ∙ rw (e, m) (beside d₀ at s from (16 * j) 16 (omega arith) (omega arith))

pub sixteens_done : (d d₀ s : List ℕ) (at from j n : ℕ) → j ≤ n → n ≤ j → d ≡ splice d₀ at (part s from (16 * j)) → d ≡ splice d₀ at (part s from (16 * n))
sixteens_done d d₀ s at from j n h k e = e ∙ ap (λ (i : ℕ). splice d₀ at (part s from (16 * i))) (le_antisymm h k)

pub ruleset sixteens_loop = (sixteens_none, sixteens_more, sixteens_done, rules)

-- the sixteens, and what is left
pub parted_copy : (d b t s : List ℕ) (at from n : ℕ) → at + n ≤ length d → from + n ≤ length s → b ≡ splice d at (part s from (16 * (n / 16)))
    → t ≡ splice b (at + 16 * (n / 16)) (part s (from + 16 * (n / 16)) (n % 16)) → t ≡ splice d at (part s from n)
parted_copy d b t s at from n h k p q =
    let e : 16 * (n / 16) + n % 16 ≡ n = omega arith in
    q ∙ rw p (beside d at s from (16 * (n / 16)) (n % 16) (omega arith) (omega arith)) ∙ ap (λ (m : ℕ). splice d at (part s from m)) e
