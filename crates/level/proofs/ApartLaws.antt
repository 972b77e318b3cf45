-- 39 codes, no two of which fit in one range of one need. Assumes nothing.
use mathlib.Core.Path.{◌≡◌, refl, ap}
use mathlib.Core.Bool.{Bool, true, ◌&&◌, not}
use mathlib.Core.List.{List, [], ◌∷◌}
use Prim.Native.Nat.{ℕ, ◌<◌, ◌≤◌}
use native.Mathlib.Omega.{arith}
use lib.Dec.{eqb, ltb}
use borrow.Author.Tests.{ltb-true, eqb-false, not-true}
use Rattle.laws.specs.Cases.{All}
use Rattle.laws.specs.Choice.{both_left, both_right}
use Rattle.level.specs.declared.Level.{Level}
use Rattle.level.specs.Need.{among, need_of}
use Rattle.level.specs.Ranges.{Range, In, formula, ranges, OneNeed}

-- codes that rise, none above FFh, each of another need than the next
differ : ℕ → ℕ → Bool
differ c d = not (eqb (need_of c).0 (need_of d).0)

pub alternate : List ℕ → Bool
alternate [] = true
alternate (c ∷ []) = ltb c 256
alternate (c ∷ d ∷ cs) = (ltb c d && differ c d) && alternate (d ∷ cs)

pub alternate_rest : (c : ℕ) (cs : List ℕ) → alternate (c ∷ cs) ≡ true → alternate cs ≡ true
unfolding alternate
alternate_rest c [] a = refl
alternate_rest c (d ∷ cs) a = both_right (ltb c d && differ c d) (alternate (d ∷ cs)) a

alternate_rise : (c d : ℕ) (cs : List ℕ) → alternate (c ∷ d ∷ cs) ≡ true → c < d
unfolding alternate
alternate_rise c d cs a = ltb-true c d (both_left (ltb c d) (differ c d) (both_left (ltb c d && differ c d) (alternate (d ∷ cs)) a))

alternate_differ : (c d : ℕ) (cs : List ℕ) → alternate (c ∷ d ∷ cs) ≡ true → need_of c ≡ need_of d → ⊥
unfolding alternate differ
alternate_differ c d cs a e =
    let n : differ c d ≡ true = both_right (ltb c d) (differ c d) (both_left (ltb c d && differ c d) (alternate (d ∷ cs)) a) in
    eqb-false (need_of c).0 (need_of d).0 (not-true (eqb (need_of c).0 (need_of d).0) n) (ap (λ (l : Level). l.0) e)

-- the first codes of the formula's ranges are 39 such
unfoldable pub firsts : List Range → List ℕ
firsts [] = []
firsts (r ∷ rs) = r.first ∷ firsts rs

pub formula_alternates : alternate (firsts (ranges formula)) ≡ true
unfolding alternate differ firsts need_of among
formula_alternates = refl

pub all_map : {A : Type 0} (P Q : A → Type 0) (xs : List A) → ((x : A) → P x → Q x) → All P xs → All Q xs
all_map P Q [] f a = tt
all_map P Q (x ∷ xs) f a = (f x a.0, all_map P Q xs f a.1)

pub all_both : {A : Type 0} (P Q R : A → Type 0) (xs : List A) → ((x : A) → P x → Q x → R x) → All P xs → All Q xs → All R xs
all_both P Q R [] f a b = tt
all_both P Q R (x ∷ xs) f a b = (f x a.0 b.0, all_both P Q R xs f a.1 b.1)

-- they stand from the first of them on
unfoldable pub From : ℕ → ℕ → Type 0
From c d = (c ≤ d) × (d < 256)

pub all_from : (c : ℕ) (cs : List ℕ) → alternate (c ∷ cs) ≡ true → All (From c) (c ∷ cs)
unfolding alternate From
all_from c [] a = ((omega arith, ltb-true c 256 a), tt)
all_from c (d ∷ cs) a =
    let h : All (From d) (d ∷ cs) = all_from d cs (alternate_rest c (d ∷ cs) a) in
    let l : c < d = alternate_rise c d cs a in
    ((omega arith, omega (l, h.0.1, arith)), all_map (From d) (From c) (d ∷ cs) (λ e i. (omega (l, i.0, arith), i.1)) h)

-- two codes that no range of one need has
unfoldable pub Apart : ℕ → ℕ → Type 0
Apart c d = (r : Range) → OneNeed r → In c r → In d r → ⊥

-- such are the first of them and any other: a range with both has the second of them too, which is of another need
pub all_apart : (c : ℕ) (cs : List ℕ) → alternate (c ∷ cs) ≡ true → All (Apart c) cs
unfolding Apart From
all_apart c [] a = tt
all_apart c (d ∷ cs) a =
    let h : All (From d) (d ∷ cs) = all_from d cs (alternate_rest c (d ∷ cs) a) in
    let l : c < d = alternate_rise c d cs a in
    all_map (From d) (Apart c) (d ∷ cs)
    (λ e i r o p q. alternate_differ c d cs a (o c d (omega (l, h.0.1, arith)) h.0.1 p (omega (l, p.0, arith), omega (i.0, q.1, arith))))
    h
