-- What is proved of the definitions in specs/Patch.antt. Assumes nothing.
use mathlib.Core.Path.{◌≡◌, refl, sym, ◌∙◌, ap}
use mathlib.Core.Bool.{Bool, cond}
use mathlib.Core.List.{List, [], ◌∷◌, ◌++◌}
use Prim.Native.Nat.{ℕ, ◌+◌, ◌-◌, ◌*◌, ◌/◌, ◌<◌, ◌≤◌}
use native.Mathlib.Numerals.{add-one}
use native.Mathlib.Nat.{add-zero, zero-add}
use native.Mathlib.Omega.{arith}
use lib.Dec.{ltb}
use lib.ListN.{length, length-append, get_or, take, drop, set, take-append-drop}
use Rattle.std.specs.Prelude.{min}
use lib.Seq.{ext_get_or, length-take-le, take_all, get_or-take, get_or-drop, take-append_seam, drop-append-add}
use Rattle.std.proofs.lemmas.List.{length-take}
use borrow.Author.Rules.{rules}
use borrow.Author.Tests.{ltb-true, ltb-false, lt-ltb, le-ltb}
use Rattle.std.specs.Simd.{first_chunks}
use Rattle.laws.specs.Choice.{by_bool}
use Rattle.laws.specs.Splice.{splice, length_splice, stores, splice_next}
use Rattle.laws.specs.Fill.{list_to, length_list_to, get_or_list_to}
use Rattle.case_words.specs.Fields.{number_of, pieces, behind, from_word}
use Rattle.case_words.proofs.Chunks.{length_first_chunks, chunk_at}
use Rattle.case_words.proofs.FieldsLaws.{words_from, pieces_words}
use Rattle.case_words.specs.Patch.{hex_byte, byte_at, bytes_of, put, put_word, put_all, patched, fits}

-- ---- how many fit

pub fit_none : (l at n : ℕ) → l < at → 0 ≡ fits (l - at) n
unfolding fits
fit_none l at n h =
    let e : l - at ≡ 0 = omega arith in
    rw e (by_bool (λ (t : Bool). ltb 0 n ≡ t → 0 ≡ cond t 0 n) (λ p. refl) (λ p. omega (arith, ltb-false 0 n p)) (ltb 0 n) refl)

pub fit_room : (m n : ℕ) → m < n → m ≡ fits m n
unfolding fits
fit_room m n h = rw (lt-ltb m n h)

pub fit_all : (m n : ℕ) → n ≤ m → n ≡ fits m n
unfolding fits
fit_all m n h = rw (le-ltb m n h)

take_to : (f : ℕ → ℕ) (m n : ℕ) → m ≤ n → take m (list_to f n) ≡ list_to f m
take_to f m n h =
    let e : length (take m (list_to f n)) ≡ m = length-take-le m (list_to f n) (rw (length_list_to f n) h) in
    ext_get_or 0 (take m (list_to f n)) (list_to f m) (e ∙ sym (length_list_to f m))
    (λ i l. let b : i < m = rw e at l in
    get_or-take m (list_to f n) i 0 b ∙ get_or_list_to f n i 0 (omega arith) ∙ sym (get_or_list_to f m i 0 b))

-- those that fit
take_fits : (f : ℕ → ℕ) (m n k : ℕ) → k ≡ min m n → take m (list_to f n) ≡ list_to f k
take_fits f m n k e =
    by_bool (λ (t : Bool). ltb m n ≡ t → take m (list_to f n) ≡ list_to f k)
    (λ p. let q : k ≡ m = omega (arith, e, ltb-true m n p) in rw q (take_to f m n (omega (arith, ltb-true m n p))))
    (λ p. let q : k ≡ n = omega (arith, e, ltb-false m n p) in rw q (take_all m (list_to f n) (rw (length_list_to f n) (ltb-false m n p)))) (ltb m n) refl

-- ---- a loop that puts them, each a value of f

pub put_none : (d : List ℕ) (at : ℕ) (f : ℕ → ℕ) → d ≡ splice d at (list_to f 0)
unfolding splice list_to
put_none d at f = rw add-zero (sym (take-append-drop at d))

-- one more, where n fit
pub put_more : (d d₀ : List ℕ) (at j n x : ℕ) (f : ℕ → ℕ) → j < n → n ≤ length d₀ - at → x ≡ f j → d ≡ splice d₀ at (list_to f j)
    → set d (at + j) x ≡ splice d₀ at (list_to f (j + 1))
unfolding list_to
put_more d d₀ at j n x f h l p e =
    let k : at + length (list_to f j) ≡ at + j = rw (length_list_to f j) in
    let m : length (splice d₀ at (list_to f j)) ≡ length d₀ = length_splice d₀ at (list_to f j) (omega arith) in
    rw (e, p, add-one)
    (stores (splice d₀ at (list_to f j)) (at + j) (f j ∷ []) (omega arith)
    ∙ splice_next d₀ at (at + j) (list_to f j) (f j ∷ []) k (omega arith))

-- ---- a loop that puts bytes, two digits each

pub put_zero : (room h : List ℕ) → room ≡ splice room 0 (list_to (byte_at h) 0)
put_zero room h = put_none room 0 (byte_at h)

in_room : (d front room s : List ℕ) (at : ℕ) → d ≡ front ++ room → length front ≡ at → front ++ splice room 0 s ≡ splice d at s
unfolding splice
in_room d front room s at e q =
    rw (e, sym q, take-append_seam front room, drop-append-add front room (length s), zero-add) refl

behind_end : (d front room : List ℕ) (f : ℕ → ℕ) (at j : ℕ) → d ≡ front ++ room → j ≡ 0 → front ++ splice room 0 (list_to f j) ≡ splice d at (list_to f j)
unfolding splice list_to
behind_end d front room f at j e z = rw (z, add-zero) (sym e ∙ sym (take-append-drop at d))

module _ (h : List ℕ) (chunks : List (List ℕ)) (fit j : ℕ) (cut : chunks ≡ first_chunks 2 (length h / 2) h) where
  within : j < length (take fit chunks) → (j < fit) × (j < length h / 2)
  within l =
      let e : length (take fit chunks) ≡ min fit (length chunks) = length-take fit chunks in
      let n : length chunks ≡ length h / 2 = ap length cut ∙ length_first_chunks 2 (length h / 2) h in
      (omega (arith, e, n, l), omega (arith, e, n, l))

  digit_in : (i : ℕ) → i < 2 → j < length (take fit chunks) → get_or (get_or (take fit chunks) j []) i 0 ≡ get_or h (2 * j + i) 0
  digit_in i b l =
      ap (λ (pair : List ℕ). get_or pair i 0) (get_or-take fit chunks j [] (within l).0 ∙ ap (λ (all : List (List ℕ)). get_or all j []) cut ∙ chunk_at 2 (length h / 2) j h (within l).1)
      ∙ get_or-take 2 (drop (2 * j) h) i 0 b ∙ get_or-drop (2 * j) h i 0

  pub pair_put : (d d₀ : List ℕ) (x : ℕ) → j < length (take fit chunks) → fit ≡ min (length d₀) (length chunks)
      → x ≡ hex_byte (get_or (get_or (take fit chunks) j []) 0 0) (get_or (get_or (take fit chunks) j []) 1 0)
      → d ≡ splice d₀ 0 (list_to (byte_at h) j) → set d j x ≡ splice d₀ 0 (list_to (byte_at h) (j + 1))
  pair_put d d₀ x l f p e =
      let low : get_or (get_or (take fit chunks) j []) 0 0 ≡ get_or h (2 * j) 0 = digit_in 0 (omega arith) l ∙ ap (λ (n : ℕ). get_or h n 0) (add-zero (2 * j)) in
      let high : get_or (get_or (take fit chunks) j []) 1 0 ≡ get_or h (2 * j + 1) 0 = digit_in 1 (omega arith) l in
      ap (λ (k : ℕ). set d k x) (sym (zero-add j))
      ∙ put_more d d₀ 0 j (length d₀) x (byte_at h) (omega (arith, f, (within l).0)) (omega arith) (p ∙ rw (low, high) refl) e

  -- the front that stays, and the bytes in the room behind it
  pub pairs_put : (d front room d₁ : List ℕ) (at m : ℕ) → d ≡ front ++ room → length front ≡ m → m ≡ min at (length d) → fit ≡ min (length room) (length chunks)
      → length (take fit chunks) ≤ j → j ≤ length (take fit chunks) → d₁ ≡ splice room 0 (list_to (byte_at h) j) → front ++ d₁ ≡ put d at (bytes_of h)
  unfolding put bytes_of
  pairs_put d front room d₁ at m e q b f l k p =
      let n : length chunks ≡ length h / 2 = ap length cut ∙ length_first_chunks 2 (length h / 2) h in
      let t : length (take fit chunks) ≡ min fit (length chunks) = length-take fit chunks in
      let all : length d ≡ length front + length room = ap length e ∙ length-append front room in
      let fit_here : j ≡ min (length d - at) (length h / 2) = omega (arith, n, t, all, q, b, f, l, k) in
      ap (λ (x : List ℕ). front ++ x) p
      ∙ by_bool (λ (r : Bool). ltb (length d) at ≡ r → front ++ splice room 0 (list_to (byte_at h) j) ≡ splice d at (list_to (byte_at h) j))
      (λ y. let g : length d < at = ltb-true (length d) at y in behind_end d front room (byte_at h) at j e (omega (arith, fit_here, g)))
      (λ y. let g : at ≤ length d = ltb-false (length d) at y in in_room d front room (list_to (byte_at h) j) at e (omega (arith, q, b, g))) (ltb (length d) at) refl
      ∙ ap (splice d at) (sym (take_fits (byte_at h) (length d - at) (length h / 2) j fit_here))

-- ---- a word, and a loop that puts words

pub word_by : (d d₀ w h : List ℕ) (at : ℕ) → at ≡ number_of w → h ≡ behind 58 w → d ≡ put d₀ at (bytes_of h) → d ≡ put_word d₀ w
unfolding put_word
word_by d d₀ w h at p q e = e ∙ rw (p, q)

pub puts_none : (d s l : List ℕ) (k : ℕ) → l ≡ from_word s k → patched d s k ≡ put_all d (pieces 32 l)
unfolding patched
puts_none d s l k e = ap (put_all d) (sym (ap (pieces 32) e ∙ pieces_words (from_word s k) ∙ words_from s k))

pub puts_more : (x d t w : List ℕ) (ws vs : List (List ℕ)) → t ≡ put_word d w → ws ≡ w ∷ vs → x ≡ put_all d ws → x ≡ put_all t vs
unfolding put_all
puts_more x d t w ws vs p q y = y ∙ rw (q, p)

pub puts_done : (x d : List ℕ) (ws : List (List ℕ)) → ws ≡ [] → x ≡ put_all d ws → d ≡ x
unfolding put_all
puts_done x d ws h e = sym (e ∙ rw h)

pub ruleset puts_loop = (puts_none, puts_more, puts_done, rules)
