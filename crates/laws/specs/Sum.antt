-- A loop that sums a value over the numbers below n:
--
--     let mut s = 0;
--     let mut k = 0;
--     while k < n {
--         s += value(k);
--         k += 1;
--     }
--     s
--
-- Its result is `sum_to f n` and its invariant `(k ≤ n) × (s ≡ sum_to f k)`. Assumes nothing.
use Rattle.std.specs.Prelude.{◌≡◌, refl, ℕ, zero, suc, ◌+◌, ◌*◌, ◌≤◌}
use Rattle.std.proofs.Common.{◌∙◌, ap, zero-le, add-one, le_antisymm, arith, rules}

unfoldable pub sum_to : (ℕ → ℕ) → ℕ → ℕ
sum_to f zero = 0
sum_to f (suc n) = sum_to f n + f n

pub sum_none : (f : ℕ → ℕ) → 0 ≡ sum_to f 0
unfolding sum_to
sum_none f = refl

-- a turn, where v is the value that a callee answered
pub sum_more : (f : ℕ → ℕ) (k s v : ℕ) → s ≡ sum_to f k → v ≡ f k → s + v ≡ sum_to f (k + 1)
unfolding sum_to
sum_more f k s v p q = rw (add-one, p, q)

pub sum_done : (f : ℕ → ℕ) (n k s : ℕ) → k ≤ n → n ≤ k → s ≡ sum_to f k → s ≡ sum_to f n
sum_done f n k s l m p = p ∙ ap (sum_to f) (le_antisymm l m)

-- a bound on each value bounds the sum
pub sum_bound : (f : ℕ → ℕ) (b n : ℕ) → ((i : ℕ) → f i ≤ b) → sum_to f n ≤ n * b
unfolding sum_to
sum_bound f b zero h = zero-le
sum_bound f b (suc n) h = omega (arith, sum_bound f b n h, h n)

pub ruleset sum_loop = (sum_none, sum_more, sum_done, rules)
