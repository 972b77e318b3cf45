-- What the comparison of parts says of two arrays, in the words of the rows' definitions. Assumes nothing.
use Rattle.std.proofs.Common.{◌≡◌, ℕ, List, Bool, false, sym, ◌∙◌, ap, ap₂, length, get_or}
use Rattle.laws.specs.Splice.{part, part_all}
use Rattle.wire.specs.Same.{same_bytes}
use Rattle.wire.proofs.SameLaws.{ne_same}

-- two of n bytes are the same where their parts of n bytes are
pub same_parts : (a b : List ℕ) (n : ℕ) (r : Bool) → length a ≡ n → length b ≡ n → r ≡ same_bytes (part a 0 n) (part b 0 n) → r ≡ same_bytes a b
same_parts a b n r p q e =
    e ∙ ap₂ same_bytes (ap (part a 0) (sym p) ∙ part_all a) (ap (part b 0) (sym q) ∙ part_all b)

-- two that differ in a byte
pub byte_differs : (a b : List ℕ) (i : ℕ) → (get_or a i 0 ≡ get_or b i 0 → ⊥) → same_bytes a b ≡ false
byte_differs a b i h = ne_same a b (λ e. h (ap (λ (l : List ℕ). get_or l i 0) e))
