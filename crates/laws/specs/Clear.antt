-- A loop that sets the n bytes of d from index at on to 0:
--
--     let mut j = 0;
--     while j < n {
--         d[at + j] = 0;
--         j += 1;
--     }
--
-- It makes d `splice d₀ at (zeros n)`. It is a copy from a list of zeros, so its invariant is
-- `(j ≤ n) × (d ≡ splice d₀ at (part (zeros n) 0 j))`. Assumes nothing.
use Rattle.std.specs.Prelude.{◌≡◌, List, [], ◌++◌, ℕ, ◌+◌, ◌-◌, ◌<◌, ◌≤◌, length, set, replicate, drop, slice_range}
use Rattle.std.proofs.Common.{sym, ◌∙◌, ap, append-nil, arith, length-append, length-drop, drop_of_length-le, rules}
use Rattle.std.proofs.lemmas.List.{length-replicate, get_or-replicate}
use Rattle.std.proofs.lemmas.List.Edits.{fill_more}
use borrow.Rule.Slice.PartMut.{put_mid}
use Rattle.laws.specs.Lent.{lent_part, lent_put}
use Rattle.laws.specs.Splice.{part, splice, part_all, length_part, splice_all}
use Rattle.laws.specs.Copy.{copy_none, copy_more, copy_done}

-- n bytes that are 0
abbrev pub zeros : ℕ → List ℕ
zeros n = replicate n 0

all_zeros : (n : ℕ) → part (zeros n) 0 n ≡ zeros n
all_zeros n = ap (part (zeros n) 0) (sym (length-replicate n 0)) ∙ part_all (zeros n)

pub clear_none : (d : List ℕ) (at n : ℕ) → d ≡ splice d at (part (zeros n) 0 0)
clear_none d at n =
    let k : length (zeros n) ≡ n = length-replicate n 0 in
    copy_none d at (zeros n) 0 n (omega arith)

pub clear_more : (d d₀ : List ℕ) (at j n : ℕ) → j < n → at + n ≤ length d₀ → d ≡ splice d₀ at (part (zeros n) 0 j)
    → set d (at + j) 0 ≡ splice d₀ at (part (zeros n) 0 (j + 1))
clear_more d d₀ at j n l h e =
    let k : length (zeros n) ≡ n = length-replicate n 0 in
    ap (set d (at + j)) (sym (get_or-replicate n (0 + j) 0 0 (omega arith))) ∙ copy_more d d₀ at (zeros n) 0 j n 0 l h (omega arith) e

pub clear_done : (d d₀ : List ℕ) (at j n : ℕ) → j ≤ n → n ≤ j → d ≡ splice d₀ at (part (zeros n) 0 j) → d ≡ splice d₀ at (zeros n)
clear_done d d₀ at j n h k e = copy_done d d₀ at (zeros n) 0 j n h k e ∙ ap (splice d₀ at) (all_zeros n)

pub ruleset clear_loop = (clear_none, clear_more, clear_done, rules)

-- all of a list set to 0
pub cleared_all : (d s : List ℕ) (m : ℕ) → length d ≡ m → s ≡ splice d 0 (zeros m) → s ≡ zeros m
cleared_all d s m e q = splice_all d (zeros m) s (length-replicate m 0 ∙ sym e) q

-- a loop `for byte in &mut d[at..at + n] { *byte = 0; }`: what a turn leaves of the part x that is lent, and what the loop leaves
pub turn_cleared : (l x : List ℕ) (i : ℕ) → l ≡ zeros i ++ drop i x → i < length x → set l i 0 ≡ zeros (i + 1) ++ drop (i + 1) x
turn_cleared l x i e h = ap (λ (k : List ℕ). set k i 0) e ∙ fill_more i 0 x h

pub part_cleared : (d l : List ℕ) (at n i : ℕ) → at + n ≤ length d → l ≡ zeros i ++ drop i (slice_range d at (at + n)) → length l ≡ length (slice_range d at (at + n))
    → length (slice_range d at (at + n)) ≤ i → put_mid at (at + n - at) d l ≡ splice d at (zeros n)
part_cleared d l at n i h e g k =
    let m : length (slice_range d at (at + n)) ≡ n = ap length (lent_part d at n) ∙ length_part d at n h in
    let b : length l ≡ i + (length (slice_range d at (at + n)) - i) = ap length e ∙ length-append (zeros i) (drop i (slice_range d at (at + n))) ∙ rw (length-replicate {A = ℕ} i 0, length-drop) in
    let j : i ≡ n = omega arith in
    let o : drop i (slice_range d at (at + n)) ≡ [] = drop_of_length-le (slice_range d at (at + n)) {i = i} k in
    lent_put d l (zeros n) at n (e ∙ rw (o, append-nil, j)) (length-replicate n 0)

pub ruleset cleared = (turn_cleared, part_cleared, rules)
