-- A loop that tests every number below n:
--
--     let mut k = 0;
--     while k < n {
--         if ok(k) { k += 1; } else { return false; }
--     }
--     true
--
-- Its result is `all_to f n`, its invariant `(k ≤ n) × (all_to f k ≡ true)`, and its goals follow by `all_loop`.
-- A loop within a loop is two of these: the inner one is the function `ok`. Assumes nothing.
use Rattle.std.specs.Prelude.{◌≡◌, refl, Bool, true, false, ◌&&◌, ℕ, zero, suc, ◌+◌, ◌<◌, ◌≤◌}
use Rattle.std.proofs.Common.{sym, ◌∙◌, ap, true≢false, add-one, le_antisymm, not-suc-le-zero, rules, below_more, eq-eqb, ne_eqb}
use Rattle.laws.specs.Choice.{both, both_left, both_right, by_bool}

-- f holds of each number below n
unfoldable pub all_to : (ℕ → Bool) → ℕ → Bool
all_to f zero = true
all_to f (suc n) = all_to f n && f n

pub all_none : (f : ℕ → Bool) → all_to f 0 ≡ true
unfolding all_to
all_none f = refl

pub all_more : (f : ℕ → Bool) (k : ℕ) → all_to f k ≡ true → f k ≡ true → all_to f (k + 1) ≡ true
unfolding all_to
all_more f k p q = rw add-one (both (all_to f k) (f k) p q)

-- the same where the test is a callee's answer r
pub all_more_by : (f : ℕ → Bool) (k : ℕ) (r : Bool) → all_to f k ≡ true → r ≡ f k → r ≡ true → all_to f (k + 1) ≡ true
all_more_by f k r p e q = all_more f k p (sym e ∙ q)

-- what `all_to` says of each number
pub all_at : (f : ℕ → Bool) (n i : ℕ) → all_to f n ≡ true → i < n → f i ≡ true
unfolding all_to
all_at f zero i p h = absurd (not-suc-le-zero h)
all_at f (suc n) i p h =
    below_more (λ (j : ℕ). f j ≡ true) n (λ j. all_at f n j (both_left (all_to f n) (f n) p)) (both_right (all_to f n) (f n) p) i
    (rw add-one h)

-- and the other way
pub all_by : (f : ℕ → Bool) (n : ℕ) → ((i : ℕ) → i < n → f i ≡ true) → all_to f n ≡ true
unfolding all_to
all_by f zero h = refl
all_by f (suc n) h = both (all_to f n) (f n) (all_by f n (λ i l. h i (search rules))) (h n (search rules))

pub all_bad : (f : ℕ → Bool) (n k : ℕ) → k < n → f k ≡ false → false ≡ all_to f n
all_bad f n k l q =
    by_bool (λ (b : Bool). all_to f n ≡ b → false ≡ b) (λ p. absurd (true≢false (sym (all_at f n k p l) ∙ q))) (λ p. refl) (all_to f n) refl

pub all_bad_by : (f : ℕ → Bool) (n k : ℕ) (r : Bool) → k < n → r ≡ f k → r ≡ false → false ≡ all_to f n
all_bad_by f n k r l e q = all_bad f n k l (sym e ∙ q)

pub all_done : (f : ℕ → Bool) (n k : ℕ) → k ≤ n → n ≤ k → all_to f k ≡ true → true ≡ all_to f n
all_done f n k l m p = sym p ∙ ap (all_to f) (le_antisymm l m)

-- two tests that agree below n
pub all_same : (f g : ℕ → Bool) (n : ℕ) → ((i : ℕ) → i < n → f i ≡ g i) → all_to f n ≡ all_to g n
unfolding all_to
all_same f g zero h = refl
all_same f g (suc n) h = rw (all_same f g n (λ i l. h i (search rules)), h n (search rules))

pub ruleset all_loop = (all_none, all_more, all_more_by, all_bad, all_bad_by, all_done, eq-eqb, ne_eqb, rules)
