-- A choice by tests: the definition is a nest of `cond t a b`, in the order of the code's tests,
--
--     if early(x) { return a; }          cond (early x) a
--     if n < 8 { return g(x); }          (cond (ltb n 8) (g x)
--     b                                  b)
--
-- and each `return` is proved by `search picks`, with the definition opened. Assumes nothing.
use Rattle.std.specs.Prelude.{◌≡◌, refl, Bool, true, false, cond, ◌&&◌, not, ℕ, eqb}
use Rattle.std.proofs.Common.{sym, ◌∙◌, subst, lt-ltb, le-ltb, le-leb, eq-eqb, ne_eqb, eqb-true}
use Rattle.std.proofs.lemmas.Bool.{false≢true, lt-leb, eqb-false}

-- the test held: the choice is its first answer
pub if_true {ℓ} : {A : Type ℓ} (t : Bool) (x a b : A) → t ≡ true → x ≡ a → x ≡ cond t a b
if_true t x a b e p = p ∙ subst (λ (s : Bool). a ≡ cond s a b) (sym e) refl

-- the test failed: the choice is its second answer
pub if_false {ℓ} : {A : Type ℓ} (t : Bool) (x a b : A) → t ≡ false → x ≡ b → x ≡ cond t a b
if_false t x a b e p = p ∙ subst (λ (s : Bool). b ≡ cond s a b) (sym e) refl

-- a test that is a callee's answer r, which the callee's contract says is t
pub flag : (r t b : Bool) → r ≡ t → r ≡ b → t ≡ b
flag r t b p q = sym p ∙ q

-- the same of a number that a callee answered, compared with another
pub eq_by : (r n k : ℕ) → r ≡ n → r ≡ k → eqb n k ≡ true
eq_by r n k p q = eq-eqb n k (sym p ∙ q)

pub ne_by : (r n k : ℕ) → r ≡ n → (r ≡ k → ⊥) → eqb n k ≡ false
ne_by r n k p h = ne_eqb n k (λ q. h (p ∙ q))

pub ruleset picks = (if_true, if_false, flag, eq_by, ne_by, lt-ltb, le-ltb, le-leb, lt-leb, eq-eqb, ne_eqb)

-- a test and then another
pub and_then : (t b r : Bool) → t ≡ true → r ≡ b → r ≡ t && b
and_then t b r e p = rw e p

pub and_not : (t b : Bool) → t ≡ false → false ≡ t && b
and_not t b e = rw e refl

-- a test and then one that came out
pub and_true : (a : Bool) → a && true ≡ a
and_true true = refl
and_true false = refl

pub and_false : (a : Bool) → a && false ≡ false
and_false true = refl
and_false false = refl

-- two tests that both hold
pub both : (a b : Bool) → a ≡ true → b ≡ true → a && b ≡ true
both a b p q = rw p q

pub both_left : (a b : Bool) → a && b ≡ true → a ≡ true
both_left true b p = refl
both_left false b p = p

pub both_right : (a b : Bool) → a && b ≡ true → b ≡ true
both_right true b p = p
both_right false b p = absurd (false≢true p)

pub not_false : (b : Bool) → not b ≡ false → b ≡ true
not_false true h = refl
not_false false h = absurd (false≢true (sym h))

-- by cases on a test whose value the goal mentions
pub by_bool {ℓ} : (P : Bool → Type ℓ) → P true → P false → (b : Bool) → P b
by_bool P t f true = t
by_bool P t f false = f

-- what holds of both answers holds of the choice
pub either {ℓ κ} : {A : Type ℓ} (P : A → Type κ) (t : Bool) {a b : A} → P a → P b → P (cond t a b)
either P true p q = p
either P false p q = q

-- the same, where each answer may use how the test came out
pub either_by {ℓ κ} : {A : Type ℓ} (P : A → Type κ) (t : Bool) {a b : A} → (t ≡ true → P a) → (t ≡ false → P b) → P (cond t a b)
either_by P true p q = p refl
either_by P false p q = q refl

-- a choice of which P holds, where P holds of only one of the answers
pub came_then {ℓ κ} : {A : Type ℓ} (P : A → Type κ) (t : Bool) {a b : A} → (P b → ⊥) → P (cond t a b) → (t ≡ true) × P a
came_then P true h p = (refl, p)
came_then P false h p = absurd (h p)

pub came_else {ℓ κ} : {A : Type ℓ} (P : A → Type κ) (t : Bool) {a b : A} → (P a → ⊥) → P (cond t a b) → (t ≡ false) × P b
came_else P true h p = absurd (h p)
came_else P false h p = (refl, p)

-- of two numbers in order, the first that is not 0: it is 0 where both are
pub both_zero : (n m : ℕ) → cond (eqb n 0) m n ≡ 0 → (n ≡ 0) × (m ≡ 0)
both_zero n m h = by_bool (λ (b : Bool). eqb n 0 ≡ b → cond b m n ≡ 0 → (n ≡ 0) × (m ≡ 0)) (λ e p. (eqb-true n 0 e, p)) (λ e p. absurd (eqb-false n 0 e p)) (eqb n 0) refl h
