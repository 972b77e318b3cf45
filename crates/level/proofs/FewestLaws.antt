-- No list of ranges of one need that covers the codes has fewer than 39: 39 codes, no two of which fit in one range. Assumes nothing.
use mathlib.Core.Path.{◌≡◌, refl, ap}
use mathlib.Core.Bool.{true}
use mathlib.Core.List.{List, [], ◌∷◌}
use mathlib.Core.Logic.{inl, inr}
use Prim.Native.Nat.{ℕ, suc, ◌≤◌, zero-le, suc-le-suc}
use lib.ListN.{length, drop}
use Rattle.laws.specs.Cases.{All}
use Rattle.level.specs.Ranges.{Range, In, formula, ranges, Some, OneNeed, CanDo}
use Rattle.level.proofs.ApartLaws.{alternate, alternate_rest, firsts, formula_alternates, all_map, all_both, From, all_from, Apart, all_apart}

-- a list without the element that was found in it
module _ {A : Type 0} (P : A → Type 0) where
  without : (xs : List A) → Some P xs → List A
  without [] s = []
  without (x ∷ xs) (inl p) = xs
  without (x ∷ xs) (inr s) = x ∷ without xs s

  without_length : (xs : List A) (s : Some P xs) → suc (length (without xs s)) ≡ length xs
  unfolding without
  without_length [] s = absurd s
  without_length (x ∷ xs) (inl p) = refl
  without_length (x ∷ xs) (inr s) = ap suc (without_length xs s)

  without_all : (Q : A → Type 0) (xs : List A) (s : Some P xs) → All Q xs → All Q (without xs s)
  unfolding without
  without_all Q [] s a = tt
  without_all Q (x ∷ xs) (inl p) a = a.1
  without_all Q (x ∷ xs) (inr s) a = (a.0, without_all Q xs s a.1)

  -- what is found elsewhere stands
  without_some : (Q R : A → Type 0) (xs : List A) (s : Some P xs) → All R xs → ((x : A) → R x → P x → Q x → ⊥)
      → Some Q xs → Some Q (without xs s)
  unfolding without
  without_some Q R [] s a h t = absurd s
  without_some Q R (x ∷ xs) (inl p) a h (inl q) = absurd (h x a.0 p q)
  without_some Q R (x ∷ xs) (inl p) a h (inr t) = t
  without_some Q R (x ∷ xs) (inr s) a h (inl q) = inl q
  without_some Q R (x ∷ xs) (inr s) a h (inr t) = inr (without_some Q R xs s a.1 h t)

-- so each of them takes a range of its own
a_range_each : (cs : List ℕ) (rs : List Range) → alternate cs ≡ true → All (λ (c : ℕ). Some (In c) rs) cs → All OneNeed rs → length cs ≤ length rs
unfolding Apart
a_range_each [] rs a s o = zero-le
a_range_each (c ∷ cs) rs a s o =
    let rest : List Range = without (In c) rs s.0 in
    rw (← without_length (In c) rs s.0)
    (suc-le-suc
    (a_range_each cs rest (alternate_rest c cs a)
    (all_both (Apart c) (λ (d : ℕ). Some (In d) rs) (λ (d : ℕ). Some (In d) rest) cs
    (λ d n t. without_some (In c) (In d) OneNeed rs s.0 o n t) (all_apart c cs a) s.1)
    (without_all (In c) OneNeed rs s.0 o)))

pub fewest_ranges : (rs : List Range) → CanDo rs → 39 ≤ length rs
unfolding firsts From
fewest_ranges rs d =
    a_range_each (firsts (ranges formula)) rs formula_alternates
    (all_map (From 0x00) (λ (c : ℕ). Some (In c) rs) (firsts (ranges formula)) (λ c h. d.0 c h.1)
    (all_from 0x00 (firsts (ranges (drop 1 formula))) formula_alternates)) d.1
