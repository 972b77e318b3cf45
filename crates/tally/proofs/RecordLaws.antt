-- What is proved of a record's lines and of the bytes of totals. Assumes nothing.
use mathlib.Core.Path.{◌≡◌, refl, sym, ◌∙◌, ap}
use mathlib.Core.List.{List, [], ◌∷◌, ◌++◌, append_assoc, append-nil}
use Prim.Native.Nat.{ℕ, zero, suc, ◌+◌, ◌-◌, ◌*◌, ◌/◌, ◌<◌, ◌≤◌}
use native.Mathlib.Nat.{le_antisymm, add-zero, zero-add}
use native.Mathlib.Numerals.{add-one}
use native.Mathlib.Omega.{arith}
use lib.ListN.{length, get_or, take, drop, length-append}
use borrow.Author.Rules.{rules}
use borrow.Author.Tests.{lt-ltb, le-ltb}
use Rattle.std.specs.Int.{w64, to_le_bytes}
use Rattle.std.specs.List.{flat_map}
use Rattle.std.specs.Simd.{first_chunks}
use Rattle.std.proofs.lemmas.List.{flat_map_more, take_more, length-take-le}
use lib.Seq.{take_all}
use borrow.Rule.Slice.PartMut.{put_mid}
use Rattle.tally.proofs.Chunks.{length_first_chunks, chunk_at}
use Rattle.codes.specs.Codes.{short_buffer}
use Rattle.laws.specs.Fill.{list_to, length_list_to, list_to_same}
use Rattle.laws.specs.Splice.{part, splice, splice_next, splice_all, lent_filled, part_part, part_first, part_behind}
use Rattle.wire.specs.Number.{number, bytes}
use Rattle.wire.proofs.NumberLaws.{length_bytes, number_bytes}
use Rattle.tally.specs.declared.Line.{Line}
use Rattle.tally.specs.Kinds.{line}
use Rattle.tally.specs.Totals.{Totals, no_totals, number_of, tally_of, counted}
use Rattle.tally.specs.Record.{line_bytes, line_at, lines_in, totals_bytes, wrote, tallied}
use Rattle.tally.proofs.TotalsLaws.{tally_more}

-- ---- a line

pub line_by : (lines : List ℕ) (k call code : ℕ) → call ≡ number (part lines (8 * k) 4) → code ≡ number (part lines (8 * k + 4) 4) → line call code ≡ line_at lines k
line_by lines k call code p q = rw (p, q)

-- ---- the loop over a record's lines

pub record_none : (lines : List ℕ) (t : Totals) → t ≡ no_totals → t ≡ tally_of (list_to (line_at lines) 0)
unfolding tally_of number_of list_to
record_none lines t e = e

-- line k is within
pub line_within : (lines : List ℕ) (n k : ℕ) → k < n → n ≡ length lines / 8 → 8 * k + 8 ≤ length lines
line_within lines n k h e = omega arith

-- as many requests as lines before it
pub record_room : (lines : List ℕ) (t : Totals) (k n m : ℕ) → t ≡ tally_of (list_to (line_at lines) k) → k < n → n ≤ m → t.requests < m
unfolding tally_of
record_room lines t k n m e h l = rw (e, length_list_to (line_at lines) k) (omega arith)

part_is : (l : List ℕ) (at n : ℕ) → part l at n ≡ take n (drop at l)
unfolding part
part_is l at n = refl

module _ (lines : List ℕ) (chunks : List (List ℕ)) (k : ℕ) (cut : chunks ≡ first_chunks 8 (length lines / 8) lines) where
  -- line k is chunk k
  line_is : k < length chunks → line (number (part (get_or chunks k []) 0 4)) (number (part (get_or chunks k []) 4 4)) ≡ line_at lines k
  line_is h =
      let n : length chunks ≡ length lines / 8 = ap length cut ∙ length_first_chunks 8 (length lines / 8) lines in
      let e : get_or chunks k [] ≡ part lines (8 * k) 8 =
      ap (λ (all : List (List ℕ)). get_or all k []) cut ∙ chunk_at 8 (length lines / 8) k lines (omega (arith, n, h)) ∙ sym (part_is lines (8 * k) 8) in
      let p : part (part lines (8 * k) 8) 0 4 ≡ part lines (8 * k) 4 = part_part lines (8 * k) 8 0 4 (omega arith) ∙ ap (λ (at : ℕ). part lines at 4) (add-zero (8 * k)) in
      let q : part (part lines (8 * k) 8) 4 4 ≡ part lines (8 * k + 4) 4 = part_part lines (8 * k) 8 4 4 (omega arith) in
      rw (e, p, q) refl

  pub record_more : (s t : Totals) (l : Line) → t ≡ tally_of (list_to (line_at lines) k) → k < length chunks
      → l ≡ line (number (part (get_or chunks k []) 0 4)) (number (part (get_or chunks k []) 4 4)) → s ≡ counted t l → s ≡ tally_of (list_to (line_at lines) (k + 1))
  unfolding list_to
  record_more s t l e h p q = q ∙ rw (e, p ∙ line_is h, add-one k) (tally_more (list_to (line_at lines) k) (line_at lines k))

  pub record_done : (t : Totals) → k ≤ length chunks → length chunks ≤ k → t ≡ tally_of (list_to (line_at lines) k) → t ≡ tally_of (lines_in lines)
  unfolding lines_in
  record_done t h j p =
      p ∙ ap (λ (m : ℕ). tally_of (list_to (line_at lines) m)) (le_antisymm h j ∙ ap length cut ∙ length_first_chunks 8 (length lines / 8) lines)

pub ruleset record_loop = (record_none, record_room, record_more, record_done, rules)

-- ---- lines as bytes

-- both numbers are of 32 bits
abbrev pub Fits : Line → Type 0
Fits l = (l.call < 4294967296) × (l.code < 4294967296)

pub length_line : (l : Line) → length (line_bytes l) ≡ 8
length_line l = length-append (bytes 4 l.call) (bytes 4 l.code) ∙ rw (length_bytes 4 l.call, length_bytes 4 l.code) refl

-- f 0, and then f 1, f 2, ..
list_to_front : {A : Type 0} (f : ℕ → A) (n : ℕ) → list_to f (suc n) ≡ f 0 ∷ list_to (λ (i : ℕ). f (suc i)) n
unfolding list_to
list_to_front f zero = refl
list_to_front f (suc n) = ap (λ (l : List _). l ++ (f (suc n) ∷ [])) (list_to_front f n)

module _ (l : Line) (lines : List ℕ) where
  first_line : Fits l → line_at (line_bytes l ++ lines) 0 ≡ l
  first_line h =
      let a : List ℕ = bytes 4 l.call in
      let b : List ℕ = bytes 4 l.code in
      let p : part (line_bytes l ++ lines) 0 4 ≡ a = rw (append_assoc a b lines) (part_first a (b ++ lines) 4 (length_bytes 4 l.call)) in
      let q : part (line_bytes l ++ lines) 4 4 ≡ b = rw (append_assoc a b lines) (part_behind a (b ++ lines) 4 0 4 (length_bytes 4 l.call) ∙ part_first b lines 4 (length_bytes 4 l.code)) in
      rw (p, q, number_bytes 4 l.call h.0, number_bytes 4 l.code h.1) refl

  next_line : (k : ℕ) → line_at (line_bytes l ++ lines) (suc k) ≡ line_at lines k
  next_line k =
      let e : 8 * suc k ≡ 8 + 8 * k = omega arith in
      let f : 8 * suc k + 4 ≡ 8 + (8 * k + 4) = omega arith in
      rw (f, e, part_behind (line_bytes l) lines 8 (8 * k) 4 (length_line l), part_behind (line_bytes l) lines 8 (8 * k + 4) 4 (length_line l)) refl

  -- a line before a record is its first
  pub lines_more : (n : ℕ) → Fits l → length lines ≡ 8 * n → lines_in (line_bytes l ++ lines) ≡ l ∷ lines_in lines
  unfolding lines_in
  lines_more n h e =
      let q : length lines / 8 ≡ n = omega (arith, e) in
      let m : length (line_bytes l ++ lines) / 8 ≡ suc n = rw (length-append (line_bytes l) lines, length_line l) (omega (arith, e)) in
      rw (q, m) (list_to_front (line_at (line_bytes l ++ lines)) n ∙ rw (first_line h, list_to_same (λ (i : ℕ). line_at (line_bytes l ++ lines) (suc i)) (line_at lines) n (λ i _. next_line i)) refl)

-- ---- totals as bytes

-- eight bytes, as std writes them
to_eight : (n : ℕ) → to_le_bytes w64 n ≡ bytes 8 n
unfolding bytes
to_eight n =
    let p2 : n / 256 / 256 ≡ n / 65536 = omega arith in
    let p3 : n / 65536 / 256 ≡ n / 16777216 = omega arith in
    let p4 : n / 16777216 / 256 ≡ n / 4294967296 = omega arith in
    let p5 : n / 4294967296 / 256 ≡ n / 1099511627776 = omega arith in
    let p6 : n / 1099511627776 / 256 ≡ n / 281474976710656 = omega arith in
    let p7 : n / 281474976710656 / 256 ≡ n / 72057594037927936 = omega arith in
    rw (p2, p3, p4, p5, p6, p7)

-- ---- the loop over five totals

length_eights : (ns : List ℕ) → length (flat_map (bytes 8) ns) ≡ 8 * length ns
length_eights [] = refl
length_eights (n ∷ ns) = length-append (bytes 8 n) (flat_map (bytes 8) ns) ∙ rw (length_bytes 8 n, length_eights ns) (omega arith)

pub totals_none : (d : List ℕ) → d ≡ splice d 0 []
unfolding splice
totals_none d = refl

pub totals_more : (d d₀ ns eight written : List ℕ) (t : Totals) (i : ℕ) → i < 5 → length d₀ ≡ 40 → ns ≡ t.requests ∷ t.granted ∷ t.denied ∷ t.otherwise ∷ t.short ∷ []
    → written ≡ to_le_bytes w64 (get_or ns i 0) → eight ≡ written → d ≡ splice d₀ 0 (flat_map (bytes 8) (take i ns))
    → put_mid (8 * i) (8 * i + 8 - 8 * i) d eight ≡ splice d₀ 0 (flat_map (bytes 8) (take (i + 1) ns))
totals_more d d₀ ns eight written t i l room five p q e =
    let n : length ns ≡ 5 = ap length five in
    let h : i < length ns = omega (arith, n, l) in
    let w : 8 * i + 8 - 8 * i ≡ 8 = omega arith in
    let x : eight ≡ bytes 8 (get_or ns i 0) = q ∙ p ∙ to_eight (get_or ns i 0) in
    let k : length (take i ns) ≡ i = length-take-le i ns (omega arith) in
    let m : length (flat_map (bytes 8) (take i ns)) ≡ 8 * i = length_eights (take i ns) ∙ ap (λ (c : ℕ). 8 * c) k in
    rw w
    (lent_filled d eight (bytes 8 (get_or ns i 0)) (8 * i) 8 (ap length x ∙ length_bytes 8 (get_or ns i 0)) x
    ∙ rw e (splice_next d₀ 0 (8 * i) (flat_map (bytes 8) (take i ns)) (bytes 8 (get_or ns i 0)) (zero-add (length (flat_map (bytes 8) (take i ns))) ∙ m) (omega arith))
    ∙ ap (splice d₀ 0) (flat_map_more (bytes 8) [] (take i ns) (get_or ns i 0) ∙ ap (flat_map (bytes 8)) (sym (take_more ns i 0 h))))

pub totals_done : (d d₀ ns : List ℕ) (t : Totals) (i : ℕ) → length d₀ ≡ 40 → ns ≡ t.requests ∷ t.granted ∷ t.denied ∷ t.otherwise ∷ t.short ∷ [] → 5 ≤ i
    → d ≡ splice d₀ 0 (flat_map (bytes 8) (take i ns)) → d ≡ totals_bytes t
totals_done d d₀ ns t i w e h p =
    let all : flat_map (bytes 8) (take i ns) ≡ flat_map (bytes 8) ns = ap (flat_map (bytes 8)) (take_all i ns (let n : length ns ≡ 5 = ap length e in omega (arith, n, h))) in
    splice_all d₀ (flat_map (bytes 8) ns) d (length_eights ns ∙ rw e (sym w)) (p ∙ ap (splice d₀ 0) all)
    ∙ ap (flat_map (bytes 8)) e
    ∙ rw (append-nil (bytes 8 t.short)) refl

-- ---- the call

pub tally_short : (lines lent : List ℕ) → length lent < 40 → wrote short_buffer lent ≡ tallied lines lent
unfolding tallied
tally_short lines lent h = rw (lt-ltb (length lent) 40 h) refl

length_totals : (t : Totals) → length (totals_bytes t) ≡ 40
length_totals t =
    ap length (ap (λ (l : List ℕ). bytes 8 t.requests ++ (bytes 8 t.granted ++ (bytes 8 t.denied ++ (bytes 8 t.otherwise ++ l)))) (sym (append-nil (bytes 8 t.short))))
    ∙ length_eights (t.requests ∷ t.granted ∷ t.denied ∷ t.otherwise ∷ t.short ∷ [])

pub tally_wrote : (lines lent front : List ℕ) (t : Totals) → 40 ≤ length lent → t ≡ tally_of (lines_in lines) → front ≡ totals_bytes t
    → wrote 0 (front ++ drop 40 lent) ≡ tallied lines lent
unfolding tallied splice
tally_wrote lines lent front t h e p =
    rw (le-ltb (length lent) 40 h, p, e, length_totals (tally_of (lines_in lines))) refl
