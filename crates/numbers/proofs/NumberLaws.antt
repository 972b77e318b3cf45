-- What is proved of the definitions in specs/Number.antt. Assumes nothing.
use mathlib.Core.Path.{◌≡◌, refl, sym, ◌∙◌, ap}
use mathlib.Core.Bool.{Bool}
use mathlib.Core.List.{List, [], ◌∷◌}
use Prim.Native.Nat.{ℕ, zero, suc, ◌+◌, ◌-◌, ◌*◌, ◌/◌, ◌%◌, ◌^◌, ◌<◌, ◌≤◌}
use native.Mathlib.Nat.{add-zero}
use native.Mathlib.Numerals.{towards_suc}
use native.Mathlib.Omega.{arith}
use lib.Dec.{ltb}
use lib.ListN.{length, get_or, set, get_or-eq_default}
use lib.Seq.{drop-cons}
use borrow.Author.Tests.{ltb-true, ltb-false}
use Rattle.std.specs.Int.{w16, w32, from_le_bytes, to_le_bytes}
use Rattle.laws.specs.Choice.{by_bool}
use borrow.Rule.Slice.PartMut.{put_mid}
use Rattle.laws.specs.Lent.{lent_put}
use Rattle.laws.specs.Splice.{part, splice, stores, length_part, get_or_part}
use Rattle.numbers.specs.Number.{bytes, number}

pub length_bytes : (k n : ℕ) → length (bytes k n) ≡ k
unfolding bytes
length_bytes zero n = refl
length_bytes (suc k) n = ap suc (length_bytes k (n / 256))

-- a number that k bytes hold is read back as it was written
pub number_bytes : (k n : ℕ) → n < 256 ^ k → number (bytes k n) ≡ n
unfolding number bytes
number_bytes zero n h = omega arith
number_bytes (suc k) n h =
    let l : n / 256 < 256 ^ k = omega arith in
    rw (number_bytes k (n / 256) l) (omega arith)

-- the number at an index: its lowest byte, and 256 times the number behind that
number_part : (s : List ℕ) (at k : ℕ) → at < length s → number (part s at (suc k)) ≡ get_or s at 0 + 256 * number (part s (suc at) k)
unfolding number part
number_part s at k h = rw (drop-cons s at 0 h)

-- the same for two bytes and for four, byte by byte
pub number_two : (s : List ℕ) (at r : ℕ) → at + 2 ≤ length s → r ≡ get_or s at 0 + 256 * get_or s (at + 1) 0 → r ≡ number (part s at 2)
unfolding number part
number_two s at r h e =
    rw (number_part s at 1 (omega arith), number_part s (suc at) 0 (omega arith), add-zero) (simp towards_suc at e)

pub number_four : (s : List ℕ) (at r : ℕ) → at + 4 ≤ length s
    → r ≡ get_or s at 0 + 256 * (get_or s (at + 1) 0 + 256 * (get_or s (at + 2) 0 + 256 * get_or s (at + 3) 0)) → r ≡ number (part s at 4)
unfolding number part
number_four s at r h e =
    rw (number_part s at 3 (omega arith), number_part s (suc at) 2 (omega arith), number_part s (suc (suc at)) 1 (omega arith), number_part s (suc (suc (suc at))) 0 (omega arith), add-zero)
    (simp towards_suc at e)

-- what stores of the bytes leave
pub bytes_two : (d : List ℕ) (at n : ℕ) → at + 2 ≤ length d → set (set d at (n % 256)) (at + 1) (n / 256 % 256) ≡ splice d at (bytes 2 n)
unfolding bytes
bytes_two d at n h = simp towards_suc (stores d at (n % 256 ∷ n / 256 % 256 ∷ []) h)

pub bytes_four : (d : List ℕ) (at n : ℕ) → at + 4 ≤ length d
    → set (set (set (set d at (n % 256)) (at + 1) (n / 256 % 256)) (at + 2) (n / 65536 % 256)) (at + 3) (n / 16777216 % 256) ≡ splice d at (bytes 4 n)
unfolding bytes
bytes_four d at n h =
    let p : n / 256 / 256 ≡ n / 65536 = omega arith in
    let q : n / 65536 / 256 ≡ n / 16777216 = omega arith in
    rw (p, q) (simp towards_suc (stores d at (n % 256 ∷ n / 256 % 256 ∷ n / 65536 % 256 ∷ n / 16777216 % 256 ∷ []) h))

-- what std reads little-endian, of two bytes and of four
from_two : (l : List ℕ) → length l ≡ 2 → from_le_bytes w16 l ≡ number l
unfolding number
from_two [] e = absurd (omega arith)
from_two (a ∷ []) e = absurd (omega arith)
from_two (a ∷ b ∷ []) e = omega arith
from_two (a ∷ b ∷ c ∷ l) e = absurd (omega arith)

from_four : (l : List ℕ) → length l ≡ 4 → from_le_bytes w32 l ≡ number l
unfolding number
from_four [] e = absurd (omega arith)
from_four (a ∷ []) e = absurd (omega arith)
from_four (a ∷ b ∷ []) e = absurd (omega arith)
from_four (a ∷ b ∷ c ∷ []) e = absurd (omega arith)
from_four (a ∷ b ∷ c ∷ d ∷ []) e = omega arith
from_four (a ∷ b ∷ c ∷ d ∷ f ∷ l) e = absurd (omega arith)

pub read_two : (s l : List ℕ) (at r : ℕ) → at + 2 ≤ length s → l ≡ part s at 2 → r ≡ from_le_bytes w16 l → r ≡ number (part s at 2)
read_two s l at r h e q = q ∙ from_two l (ap length e ∙ length_part s at 2 h) ∙ ap number e

pub read_four : (s l : List ℕ) (at r : ℕ) → at + 4 ≤ length s → l ≡ part s at 4 → r ≡ from_le_bytes w32 l → r ≡ number (part s at 4)
read_four s l at r h e q = q ∙ from_four l (ap length e ∙ length_part s at 4 h) ∙ ap number e

-- and what it writes
to_two : (n : ℕ) → to_le_bytes w16 n ≡ bytes 2 n
unfolding bytes
to_two n = refl

to_four : (n : ℕ) → to_le_bytes w32 n ≡ bytes 4 n
unfolding bytes
to_four n =
    let p : n / 256 / 256 ≡ n / 65536 = omega arith in
    let q : n / 65536 / 256 ≡ n / 16777216 = omega arith in
    rw (p, q)

pub put_two : (d l t : List ℕ) (at n : ℕ) → l ≡ to_le_bytes w16 n → t ≡ l → put_mid at (at + 2 - at) d t ≡ splice d at (bytes 2 n)
put_two d l t at n p q = lent_put d t (bytes 2 n) at 2 (q ∙ p ∙ to_two n) (length_bytes 2 n)

pub put_four : (d l t : List ℕ) (at n : ℕ) → l ≡ to_le_bytes w32 n → t ≡ l → put_mid at (at + 4 - at) d t ≡ splice d at (bytes 4 n)
put_four d l t at n p q = lent_put d t (bytes 4 n) at 4 (q ∙ p ∙ to_four n) (length_bytes 4 n)

-- ---- bytes read as a number and written back

-- each element is a byte
abbrev pub Bytes : List ℕ → Type 0
Bytes l = (i : ℕ) → get_or l i 0 < 256

bytes_number : (l : List ℕ) → Bytes l → bytes (length l) (number l) ≡ l
unfolding bytes number
bytes_number [] h = refl
bytes_number (x ∷ l) h =
    let b : x < 256 = h 0 in
    let p : (x + 256 * number l) % 256 ≡ x = omega arith in
    let q : (x + 256 * number l) / 256 ≡ number l = omega arith in
    rw (p, q, bytes_number l (λ i. h (suc i)))

-- a part of bytes is bytes
pub bytes_part : (l : List ℕ) (at n : ℕ) → Bytes l → at + n ≤ length l → Bytes (part l at n)
bytes_part l at n h k i =
    by_bool (λ (t : Bool). ltb i n ≡ t → get_or (part l at n) i 0 < 256) (λ p. rw (get_or_part l at n i 0 (ltb-true i n p)) (h (at + i)))
    (λ p. rw (get_or-eq_default (part l at n) 0 {n = i} (rw (length_part l at n k) (ltb-false i n p))) (omega arith)) (ltb i n) refl

-- the four bytes at an index
pub word_back : (l : List ℕ) (at : ℕ) → Bytes l → at + 4 ≤ length l → bytes 4 (number (part l at 4)) ≡ part l at 4
word_back l at h k =
    ap (λ (n : ℕ). bytes n (number (part l at 4))) (sym (length_part l at 4 k)) ∙ bytes_number (part l at 4) (bytes_part l at 4 h k)
