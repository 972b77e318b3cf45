-- What is proved of the definitions in specs/Same.antt. Assumes nothing.
use mathlib.Core.Path.{◌≡◌, refl, sym, ◌∙◌, ap, ap₂}
use mathlib.Core.Bool.{Bool, true, false, ◌&&◌, false≢true}
use mathlib.Core.List.{List, [], ◌∷◌}
use Prim.Native.Nat.{ℕ, ◌<◌}
use native.Mathlib.Omega.{arith}
use lib.Pointwise.{pointwise}
use lib.Dec.{eqb, eqb-suc-zero}
use lib.ListN.{length, take, drop, drop_of_length-le}
use lib.Seq.{take-nil}
use borrow.Author.Tests.{eq-eqb, ne_eqb, eqb-true, eqb-false}
use Rattle.laws.specs.Choice.{both, both_left, both_right, by_bool}
use Rattle.std.specs.Prelude.{slice_range}
use Rattle.laws.specs.Splice.{part, rest}
use Rattle.compare.specs.Same.{same_bytes}

pub same_refl : (l : List ℕ) → same_bytes l l ≡ true
unfolding same_bytes
same_refl [] = refl
same_refl (x ∷ l) = both (eqb x x) (same_bytes l l) (eq-eqb x x refl) (same_refl l)

pub same_eq : (a b : List ℕ) → same_bytes a b ≡ true → a ≡ b
unfolding same_bytes
same_eq [] [] p = refl
same_eq [] (y ∷ ys) p = absurd (false≢true p)
same_eq (x ∷ xs) [] p = absurd (false≢true p)
same_eq (x ∷ xs) (y ∷ ys) p =
    ap₂ (λ (h : ℕ) (t : List ℕ). h ∷ t) (eqb-true x y (both_left (eqb x y) (same_bytes xs ys) p)) (same_eq xs ys (both_right (eqb x y) (same_bytes xs ys) p))

eq_same : (a b : List ℕ) → a ≡ b → same_bytes a b ≡ true
eq_same a b p = rw p (same_refl b)

pub ne_same : (a b : List ℕ) → (a ≡ b → ⊥) → same_bytes a b ≡ false
ne_same a b h = by_bool (λ (t : Bool). same_bytes a b ≡ t → same_bytes a b ≡ false) (λ p. absurd (h (same_eq a b p))) (λ p. p) (same_bytes a b) refl

empty_same : (text : List ℕ) → eqb (length text) 0 ≡ same_bytes [] text
unfolding same_bytes
empty_same [] = refl
empty_same (y ∷ ys) = eqb-suc-zero (length ys)

-- ---- what std says of two slices

pub same_pointwise : (a b : List ℕ) → pointwise eqb a b ≡ same_bytes a b
unfolding same_bytes
same_pointwise [] [] = refl
same_pointwise [] (y ∷ b) = refl
same_pointwise (x ∷ a) [] = refl
same_pointwise (x ∷ a) (y ∷ b) = ap (λ (t : Bool). eqb x y && t) (same_pointwise a b)

eqb_sym : (x y : ℕ) → eqb x y ≡ eqb y x
eqb_sym x y =
    by_bool (λ (t : Bool). eqb x y ≡ t → eqb x y ≡ eqb y x) (λ p. p ∙ sym (eq-eqb y x (sym (eqb-true x y p))))
    (λ p. p ∙ sym (ne_eqb y x (λ z. eqb-false x y p (sym z)))) (eqb x y) refl

same_sym : (a b : List ℕ) → same_bytes a b ≡ same_bytes b a
unfolding same_bytes
same_sym [] [] = refl
same_sym [] (y ∷ b) = refl
same_sym (x ∷ a) [] = refl
same_sym (x ∷ a) (y ∷ b) = ap₂ (λ (s t : Bool). s && t) (eqb_sym x y) (same_sym a b)

-- a text in front of the rest of the bytes, as that is lent
pub same_front : (s l : List ℕ) (at : ℕ) (text : List ℕ) → l ≡ slice_range s at (length s) → pointwise eqb text (take (length text) l) ≡ same_bytes (part s at (length text)) text
unfolding part
same_front s l at text e =
    let d : l ≡ drop at s = e ∙ rest s at in
    rw d (same_pointwise text (take (length text) (drop at s)) ∙ same_sym text (take (length text) (drop at s)))

-- past the end only the empty text stands
pub same_past : (s : List ℕ) (at : ℕ) (text : List ℕ) → length s < at → eqb (length text) 0 ≡ same_bytes (part s at (length text)) text
unfolding part
same_past s at text h = rw (drop_of_length-le s {i = at} (omega arith), take-nil) (empty_same text)
