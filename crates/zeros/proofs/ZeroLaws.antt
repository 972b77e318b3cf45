-- Bytes that are 0, part by part and byte by byte. Assumes nothing.
use mathlib.Core.Path.{◌≡◌, refl, sym, ◌∙◌, ap, ap₂}
use mathlib.Core.Bool.{Bool, true, ◌&&◌, and_assoc, and-true}
use mathlib.Core.List.{List, [], ◌∷◌, ◌++◌}
use Prim.Native.Nat.{ℕ, zero, suc, ◌+◌, ◌*◌, ◌/◌, ◌%◌, ◌<◌, ◌≤◌}
use native.Mathlib.Nat.{mul-suc, mul-zero, le_antisymm}
use native.Mathlib.Omega.{arith}
use lib.Dec.{eqb}
use lib.ListN.{length, get_or, take}
use lib.Seq.{drop-cons, take_all}
use borrow.Author.Rules.{rules}
use borrow.Author.Tests.{eq-eqb, ne_eqb, eqb-true, eqb-false}
use Rattle.std.specs.Prelude.{slice_range}
use Rattle.std.specs.Int.Bits.{bit_or, or_zero_l}
use Rattle.std.proofs.lemmas.Nat.{le_or_l}
use Rattle.laws.specs.All.{all_to}
use Rattle.laws.specs.Choice.{by_bool}
use Rattle.laws.specs.Splice.{part, part_add}
use Rattle.laws.specs.Lent.{lent_part}
use Rattle.numbers.specs.Number.{number}
use Rattle.compare.specs.Same.{same_bytes, all_zero}

zero_append : (a b : List ℕ) → all_zero (a ++ b) ≡ all_zero a && all_zero b
unfolding all_zero same_bytes
zero_append [] b = refl
zero_append (x ∷ a) b = ap (λ (t : Bool). eqb x 0 && t) (zero_append a b) ∙ sym (and_assoc (eqb x 0) (all_zero a) (all_zero b))

-- a part is 0 where both of its parts are
pub zero_split : (l : List ℕ) (at a b : ℕ) → all_zero (part l at (a + b)) ≡ all_zero (part l at a) && all_zero (part l (at + a) b)
zero_split l at a b = ap all_zero (part_add l at a b) ∙ zero_append (part l at a) (part l (at + a) b)

pub zero_none : (l : List ℕ) (at : ℕ) → all_zero (part l at 0) ≡ true
unfolding part all_zero same_bytes
zero_none l at = refl

pub zero_one : (l : List ℕ) (at : ℕ) → at < length l → all_zero (part l at 1) ≡ eqb (get_or l at 0) 0
unfolding part all_zero same_bytes
zero_one l at h = rw (drop-cons l at 0 h) (and-true (eqb (get_or l at 0) 0))

-- a sum is 0 where both of its terms are
both_zero : (a b : ℕ) → eqb (a + b) 0 ≡ eqb a 0 && eqb b 0
both_zero a b =
    by_bool (λ (t : Bool). eqb a 0 ≡ t → eqb (a + b) 0 ≡ t && eqb b 0)
    (λ p. by_bool (λ (s : Bool). eqb b 0 ≡ s → eqb (a + b) 0 ≡ s)
    (λ q. eq-eqb (a + b) 0 (omega (arith, eqb-true a 0 p, eqb-true b 0 q)))
    (λ q. ne_eqb (a + b) 0 (λ z. eqb-false b 0 q (omega arith))) (eqb b 0) refl)
    (λ p. ne_eqb (a + b) 0 (λ z. eqb-false a 0 p (omega arith))) (eqb a 0) refl

product_zero : (n : ℕ) → eqb (256 * n) 0 ≡ eqb n 0
product_zero n =
    by_bool (λ (s : Bool). eqb n 0 ≡ s → eqb (256 * n) 0 ≡ s) (λ q. eq-eqb (256 * n) 0 (omega (arith, eqb-true n 0 q)))
    (λ q. ne_eqb (256 * n) 0 (λ z. eqb-false n 0 q (omega arith))) (eqb n 0) refl

-- a number is 0 where its bytes are
pub zero_number : (l : List ℕ) → all_zero l ≡ eqb (number l) 0
unfolding number all_zero same_bytes
zero_number [] = refl
zero_number (x ∷ l) =
    ap (λ (t : Bool). eqb x 0 && t) (zero_number l ∙ sym (product_zero (number l))) ∙ sym (both_zero x (256 * number l))

-- records of w bytes one behind the other: a test of all their bytes is a test of each
pub zero_run : (f : ℕ → Bool) (l : List ℕ) (at w m : ℕ) → at + w * m ≤ length l
    → ((i : ℕ) → i < m → all_zero (part l (at + w * i) w) ≡ f i) → all_zero (part l at (w * m)) ≡ all_to f m
unfolding all_to
zero_run f l at w zero h k = rw mul-zero (zero_none l at)
zero_run f l at w (suc m) h k =
    rw mul-suc (zero_split l at (w * m) w ∙ rw (zero_run f l at w m (omega (arith, mul-suc w m)) (λ i j. k i (omega arith)), k m (omega arith)))

-- ---- the loop that looks at each byte

pub turn_none : true ≡ all_zero []
unfolding all_zero same_bytes
turn_none = refl

take_more : (l : List ℕ) (i : ℕ) → i < length l → all_zero (take (i + 1) l) ≡ all_zero (take i l) && eqb (get_or l i 0) 0
unfolding part
take_more l i h =
    let a : all_zero (take (i + 1) l) ≡ all_zero (take i l) && all_zero (part l (0 + i) 1) = zero_split l 0 i 1 in
    let b : 0 + i ≡ i = omega arith in
    a ∙ ap (λ (k : ℕ). all_zero (take i l) && all_zero (part l k 1)) b ∙ ap (λ (t : Bool). all_zero (take i l) && t) (zero_one l i h)

zero_or : (a b : ℕ) → eqb (bit_or a b) 0 ≡ eqb a 0 && eqb b 0
zero_or a b =
    by_bool (λ (t : Bool). eqb a 0 ≡ t → eqb (bit_or a b) 0 ≡ t && eqb b 0)
    (λ p. let z : a ≡ 0 = eqb-true a 0 p in ap (λ (n : ℕ). eqb (bit_or n b) 0) z ∙ ap (λ (n : ℕ). eqb n 0) (or_zero_l b))
    (λ p. ne_eqb (bit_or a b) 0 (λ z. eqb-false a 0 p (omega (arith, le_or_l a b)))) (eqb a 0) refl

-- a turn, where m has what the bytes so far have
pub turn_more : (l : List ℕ) (i m : ℕ) → i < length l → eqb m 0 ≡ all_zero (take i l) → eqb (bit_or m (get_or l i 0)) 0 ≡ all_zero (take (i + 1) l)
turn_more l i m h e = zero_or m (get_or l i 0) ∙ ap (λ (t : Bool). t && eqb (get_or l i 0) 0) e ∙ sym (take_more l i h)

pub turns_done : (s : List ℕ) (at n i m : ℕ) → at + n ≤ length s → eqb m 0 ≡ all_zero (take i (slice_range s at (at + n))) → length (slice_range s at (at + n)) ≤ i
    → eqb m 0 ≡ all_zero (part s at n)
turns_done s at n i m h e k = e ∙ ap all_zero (take_all i (slice_range s at (at + n)) k ∙ lent_part s at n)

pub ruleset zero_loop = (turn_none, turn_more, turns_done, rules)

-- ---- the loop that looks at each word

pub words_none : (s : List ℕ) (at : ℕ) → true ≡ all_zero (part s at (4 * 0))
words_none s at = sym (zero_none s at)

pub words_more : (s : List ℕ) (at i m w : ℕ) → eqb m 0 ≡ all_zero (part s at (4 * i)) → w ≡ number (part s (at + 4 * i) 4)
    → eqb (bit_or m w) 0 ≡ all_zero (part s at (4 * (i + 1)))
words_more s at i m w e p =
    let a : 4 * (i + 1) ≡ 4 * i + 4 = omega arith in
    zero_or m w ∙ ap₂ (λ (t u : Bool). t && u) e (ap (λ (x : ℕ). eqb x 0) p ∙ sym (zero_number (part s (at + 4 * i) 4)))
    ∙ sym (ap (λ (x : ℕ). all_zero (part s at x)) a ∙ zero_split s at (4 * i) 4)

pub words_done : (s : List ℕ) (at i n m : ℕ) → i ≤ n → n ≤ i → eqb m 0 ≡ all_zero (part s at (4 * i)) → eqb m 0 ≡ all_zero (part s at (4 * n))
words_done s at i n m h k e = e ∙ ap (λ (x : ℕ). all_zero (part s at (4 * x))) (le_antisymm h k)

pub ruleset words_loop = (words_none, words_more, words_done, rules)

-- the words, and the bytes that are left
pub zero_by_words : (s : List ℕ) (at n : ℕ) (a b : Bool) → a ≡ all_zero (part s at (4 * (n / 4))) → b ≡ all_zero (part s (at + 4 * (n / 4)) (n % 4))
    → a && b ≡ all_zero (part s at n)
zero_by_words s at n a b p q =
    let e : 4 * (n / 4) + n % 4 ≡ n = omega arith in
    ap₂ (λ (t u : Bool). t && u) p q ∙ sym (zero_split s at (4 * (n / 4)) (n % 4)) ∙ ap (λ (x : ℕ). all_zero (part s at x)) e
