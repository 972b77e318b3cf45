-- Bytes compared by the words that they are. Assumes nothing.
use mathlib.Core.Path.{◌≡◌, refl, sym, ◌∙◌, ap}
use mathlib.Core.Bool.{Bool, ◌&&◌, and_assoc}
use mathlib.Core.List.{List, [], ◌∷◌, ◌++◌}
use Prim.Native.Nat.{ℕ, suc, ◌+◌, ◌*◌, ◌<◌, ◌≤◌}
use native.Mathlib.Omega.{arith}
use lib.Dec.{eqb}
use lib.ListN.{length, get_or}
use mir.Syntax.{w8}
use mir.Val.{Fits}
use borrow.Author.Tests.{eq-eqb, ne_eqb, eqb-true, eqb-false}
use Rattle.laws.specs.Choice.{by_bool}
use Rattle.laws.specs.Splice.{part, length_part, part_add}
use Rattle.numbers.specs.Number.{number}
use Rattle.numbers.proofs.NumberLaws.{Bytes, bytes_part}
use Rattle.compare.specs.Same.{same_bytes}

-- two numbers are the same where their lowest bytes and what is above them are
digit_same : (x y m n : ℕ) → x < 256 → y < 256 → eqb (x + 256 * m) (y + 256 * n) ≡ eqb x y && eqb m n
digit_same x y m n h k =
    by_bool (λ (t : Bool). eqb x y ≡ t → eqb (x + 256 * m) (y + 256 * n) ≡ t && eqb m n)
    (λ p. by_bool (λ (u : Bool). eqb m n ≡ u → eqb (x + 256 * m) (y + 256 * n) ≡ u)
    (λ q. eq-eqb (x + 256 * m) (y + 256 * n) (omega (arith, eqb-true x y p, eqb-true m n q)))
    (λ q. ne_eqb (x + 256 * m) (y + 256 * n) (λ z. eqb-false m n q (omega (arith, eqb-true x y p)))) (eqb m n) refl)
    (λ p. ne_eqb (x + 256 * m) (y + 256 * n) (λ z. eqb-false x y p (omega arith))) (eqb x y) refl

number_same : (a b : List ℕ) → length a ≡ length b → Bytes a → Bytes b → eqb (number a) (number b) ≡ same_bytes a b
unfolding number same_bytes
number_same [] [] e h k = refl
number_same [] (y ∷ b) e h k = absurd (omega arith)
number_same (x ∷ a) [] e h k = absurd (omega arith)
number_same (x ∷ a) (y ∷ b) e h k =
    digit_same x y (number a) (number b) (h 0) (k 0)
    ∙ ap (λ (t : Bool). eqb x y && t) (number_same a b (omega arith) (λ i. h (suc i)) (λ i. k (suc i)))

-- as the code's need asks it, with what is known of a slice's elements
pub words_same : (s t : List ℕ) (at from m n : ℕ) → ((i : ℕ) → Fits w8 (get_or s i 0)) → ((i : ℕ) → Fits w8 (get_or t i 0)) → at + 4 ≤ length s → from + 4 ≤ length t
    → m ≡ number (part s at 4) → n ≡ number (part t from 4) → eqb m n ≡ same_bytes (part s at 4) (part t from 4)
words_same s t at from m n h k p q e f =
    rw (e, f)
    (number_same (part s at 4) (part t from 4) (length_part s at 4 p ∙ sym (length_part t from 4 q))
    (bytes_part s at 4 (λ i. (h i).fits) p) (bytes_part t from 4 (λ i. (k i).fits) q))

-- ---- parts side by side

same_append : (a b c d : List ℕ) → length a ≡ length c → same_bytes (a ++ b) (c ++ d) ≡ same_bytes a c && same_bytes b d
unfolding same_bytes
same_append [] b [] d e = refl
same_append [] b (y ∷ c) d e = absurd (omega arith)
same_append (x ∷ a) b [] d e = absurd (omega arith)
same_append (x ∷ a) b (y ∷ c) d e =
    ap (λ (t : Bool). eqb x y && t) (same_append a b c d (omega arith)) ∙ sym (and_assoc (eqb x y) (same_bytes a c) (same_bytes b d))

same_split : (s t : List ℕ) (at from n m : ℕ) → at + (n + m) ≤ length s → from + (n + m) ≤ length t
    → same_bytes (part s at (n + m)) (part t from (n + m)) ≡ same_bytes (part s at n) (part t from n) && same_bytes (part s (at + n) m) (part t (from + n) m)
same_split s t at from n m h k =
    rw (part_add s at n m, part_add t from n m)
    (same_append (part s at n) (part s (at + n) m) (part t from n) (part t (from + n) m) (length_part s at n (omega arith) ∙ sym (length_part t from n (omega arith))))

pub sixteen_same : (s t : List ℕ) (at from : ℕ) (w x y z : Bool) → at + 16 ≤ length s → from + 16 ≤ length t → w ≡ same_bytes (part s at 4) (part t from 4)
    → x ≡ same_bytes (part s (at + 4) 4) (part t (from + 4) 4) → y ≡ same_bytes (part s (at + 8) 4) (part t (from + 8) 4)
    → z ≡ same_bytes (part s (at + 12) 4) (part t (from + 12) 4) → w && x && y && z ≡ same_bytes (part s at 16) (part t from 16)
sixteen_same s t at from w x y z h k p q u v =
    let a = same_split s t at from 12 4 (omega arith) (omega arith) in
    let b = same_split s t at from 8 4 (omega arith) (omega arith) in
    let c = same_split s t at from 4 4 (omega arith) (omega arith) in
    cc
