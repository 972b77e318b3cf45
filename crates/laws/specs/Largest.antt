-- A loop that takes the largest value over the numbers below n:
--
--     let mut l = 0;
--     let mut k = 0;
--     while k < n {
--         l = larger(l, value(k));
--         k += 1;
--     }
--     l
--
-- Its result is `largest_to f n` and its invariant `(k ≤ n) × (l ≡ largest_to f k)`. Assumes nothing.
use Rattle.std.specs.Prelude.{◌≡◌, refl, Bool, true, false, cond, ◌&&◌, ℕ, zero, suc, ◌+◌, ◌≤◌, eqb, ltb}
use Rattle.std.proofs.Common.{◌∙◌, ap, add-one, le_antisymm, arith, rules, eq-eqb, ne_eqb, eqb-true, ltb-true, ltb-false}
use Rattle.laws.specs.Choice.{by_bool}
use Rattle.laws.specs.All.{all_to}

-- the larger of two numbers
unfoldable pub larger : ℕ → ℕ → ℕ
larger a b = cond (ltb a b) b a

unfoldable pub largest_to : (ℕ → ℕ) → ℕ → ℕ
largest_to f zero = 0
largest_to f (suc n) = larger (largest_to f n) (f n)

pub largest_none : (f : ℕ → ℕ) → 0 ≡ largest_to f 0
unfolding largest_to
largest_none f = refl

-- a turn, where v is what a callee made of the last one and this value
pub largest_more : (f : ℕ → ℕ) (k l v : ℕ) → l ≡ largest_to f k → v ≡ larger l (f k) → v ≡ largest_to f (k + 1)
unfolding largest_to
largest_more f k l v p q = q ∙ rw (add-one, p)

pub largest_done : (f : ℕ → ℕ) (n k l : ℕ) → k ≤ n → n ≤ k → l ≡ largest_to f k → l ≡ largest_to f n
largest_done f n k l h m p = p ∙ ap (largest_to f) (le_antisymm h m)

pub ruleset largest_loop = (largest_none, largest_more, largest_done, rules)

-- the larger of two is 0 where both are
larger_zero : (a b : ℕ) → eqb (larger a b) 0 ≡ eqb a 0 && eqb b 0
unfolding larger
larger_zero a b =
    by_bool (λ (t : Bool). ltb a b ≡ t → eqb (cond t b a) 0 ≡ eqb a 0 && eqb b 0)
    (λ p. let h : (b ≡ 0 → ⊥) = λ z. absurd (below p z) in
    rw (ne_eqb b 0 h) (by_bool (λ (t : Bool). false ≡ t && false) refl refl (eqb a 0)))
    (λ p. by_bool (λ (t : Bool). eqb a 0 ≡ t → t ≡ t && eqb b 0) (λ q. rw (eq-eqb b 0 (least p (eqb-true a 0 q))) refl) (λ _. refl) (eqb a 0) refl)
    (ltb a b) refl
  where
    below : ltb a b ≡ true → b ≡ 0 → ⊥
    below p z = let h = ltb-true a b p in omega arith

    least : ltb a b ≡ false → a ≡ 0 → b ≡ 0
    least p z = let h = ltb-false a b p in omega arith

-- the largest is 0 where each is
pub largest_zero : (f : ℕ → ℕ) (n : ℕ) → eqb (largest_to f n) 0 ≡ all_to (λ (i : ℕ). eqb (f i) 0) n
unfolding largest_to all_to
largest_zero f zero = refl
largest_zero f (suc n) = larger_zero (largest_to f n) (f n) ∙ ap (λ (t : Bool). t && eqb (f n) 0) (largest_zero f n)
