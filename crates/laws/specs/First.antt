-- A loop that looks for the first number below n that passes a test:
--
--     let mut i = 0;
--     while i < n {
--         if ok(i) { return i; }
--         i += 1;
--     }
--     n
--
-- Its result is `first f n`, its invariant `(i ≤ n) × (first f n ≡ first_from f i (n - i))`, and its goals follow by
-- `first_loop`. Assumes nothing.
use Rattle.std.specs.Prelude.{◌≡◌, refl, Bool, true, false, cond, ℕ, zero, suc, ◌+◌, ◌-◌, ◌<◌, ◌≤◌}
use Rattle.std.proofs.Common.{sym, ◌∙◌, add-one, le_antisymm, arith, rules, eq-eqb, ne_eqb}
use Rattle.std.proofs.Math.Nat.{sub_self, sub-zero}
use Rattle.laws.specs.Choice.{by_bool}

-- the first number from i on, of the k that stand there, of which f holds; past them where it holds of none
unfoldable pub first_from : (ℕ → Bool) → ℕ → ℕ → ℕ
first_from f i zero = i
first_from f i (suc k) = cond (f i) i (first_from f (suc i) k)

-- the first number below n of which f holds, or n
abbrev pub first : (ℕ → Bool) → ℕ → ℕ
first f n = first_from f 0 n

-- while i is below n, one number less is left after it
left_more : (n i : ℕ) → i < n → n - i ≡ suc (n - suc i)
left_more n i h = omega arith

pub first_start : (f : ℕ → Bool) (n : ℕ) → first f n ≡ first_from f 0 (n - 0)
first_start f n = rw sub-zero

pub first_hit : (f : ℕ → Bool) (n i : ℕ) → i < n → first f n ≡ first_from f i (n - i) → f i ≡ true → i ≡ first f n
unfolding first_from
first_hit f n i h e q = sym (e ∙ rw (left_more n i h, q))

pub first_hit_by : (f : ℕ → Bool) (n i : ℕ) (r : Bool) → i < n → first f n ≡ first_from f i (n - i) → r ≡ f i → r ≡ true → i ≡ first f n
first_hit_by f n i r h e p q = first_hit f n i h e (sym p ∙ q)

pub first_miss : (f : ℕ → Bool) (n i : ℕ) → i < n → first f n ≡ first_from f i (n - i) → f i ≡ false → first f n ≡ first_from f (i + 1) (n - (i + 1))
unfolding first_from
first_miss f n i h e q = rw add-one (e ∙ rw (left_more n i h, q))

pub first_miss_by : (f : ℕ → Bool) (n i : ℕ) (r : Bool) → i < n → first f n ≡ first_from f i (n - i) → r ≡ f i → r ≡ false
    → first f n ≡ first_from f (i + 1) (n - (i + 1))
first_miss_by f n i r h e p q = first_miss f n i h e (sym p ∙ q)

pub first_none : (f : ℕ → Bool) (n i : ℕ) → i ≤ n → n ≤ i → first f n ≡ first_from f i (n - i) → n ≡ first f n
unfolding first_from
first_none f n i h k e =
    let s : i ≡ n = le_antisymm h k in
    sym (e ∙ rw (s, sub_self))

-- ---- what upper crates cite: a number that was found passes the test, and one that passes where none before it does is found

pub from_at : (f : ℕ → Bool) (i k : ℕ) → first_from f i k < i + k → f (first_from f i k) ≡ true
unfolding first_from
from_at f i zero h = absurd (omega arith)
from_at f i (suc k) h =
    by_bool (λ (b : Bool). f i ≡ b → cond b i (first_from f (suc i) k) < i + suc k → f (cond b i (first_from f (suc i) k)) ≡ true)
    (λ e l. e) (λ e l. from_at f (suc i) k (omega arith)) (f i) refl h

pub first_at : (f : ℕ → Bool) (n : ℕ) → first f n < n → f (first f n) ≡ true
first_at f n h = from_at f 0 n (omega arith)

passed : (f : ℕ → Bool) (n i j : ℕ) → j ≤ i → i < n → ((m : ℕ) → m < i → f m ≡ false) → first f n ≡ first_from f j (n - j)
passed f n i zero l h q = first_start f n
passed f n i (suc j) l h q =
    rw add-one at (first_miss f n j (omega arith) (passed f n i j (omega arith) h q) (q j (omega arith)))

pub first_only : (f : ℕ → Bool) (n i : ℕ) → i < n → f i ≡ true → ((m : ℕ) → m < i → f m ≡ false) → first f n ≡ i
first_only f n i h e q = sym (first_hit f n i h (passed f n i i (omega arith) h q) e)

-- two tests that agree from i on, for k numbers
from_same : (f g : ℕ → Bool) (i k : ℕ) → ((j : ℕ) → i ≤ j → j < i + k → f j ≡ g j) → first_from f i k ≡ first_from g i k
unfolding first_from
from_same f g i zero h = refl
from_same f g i (suc k) h = rw (h i (omega arith) (omega arith), from_same f g (suc i) k (λ j l m. h j (omega arith) (omega arith)))

pub first_same : (f g : ℕ → Bool) (n : ℕ) → ((i : ℕ) → i < n → f i ≡ g i) → first f n ≡ first g n
first_same f g n h = from_same f g 0 n (λ j l m. h j (omega arith))

pub ruleset first_loop = (first_start, first_hit, first_hit_by, first_miss, first_miss_by, first_none, eq-eqb, ne_eqb, rules)
