-- A part of a list, and a list with one part replaced: what a store into bytes does, and what a slice lent from the middle
-- of another is. Assumes nothing.
use Rattle.std.specs.Prelude.{◌≡◌, get_or, replicate}
use Rattle.std.proofs.Math.Path.{refl, sym, ap}
use Rattle.std.proofs.Common.{◌∙◌, add-zero, drop_of_length-le, ext_get_or, drop_at, get_or-append-add}
use mathlib.Core.List.{List, [], ◌∷◌, ◌++◌, append_assoc, append-nil}
use Prim.Native.Nat.{ℕ, zero, suc, ◌+◌, ◌-◌, ◌<◌, ◌≤◌}
use Rattle.std.proofs.Math.Nat.{sub-zero, zero-sub, suc-sub-suc, add-sub_cancel_left}
use native.Mathlib.Omega.{arith}
use Rattle.std.proofs.Math.ListN.{length, take, drop, length-append, length-drop, take-append-drop, get_or-append}
use Rattle.std.proofs.lemmas.List.{length-replicate, get_or-replicate, drop-append-le}
use Rattle.std.proofs.Math.Seq.{take-add, length-take-le, take_at, take_all, take-take, take-length, take-append-le, take-nil, drop-drop, drop-append-add, get_or-take, get_or-drop, sets-eq}
use Rattle.std.proofs.lemmas.List.Edits.{sets}

module _ {A : Type 0} where
  -- the n elements from index at on
  unfoldable pub part : List A → ℕ → ℕ → List A
  part l at n = take n (drop at l)

  -- d, with the elements from index at on replaced by s
  unfoldable pub splice : List A → ℕ → List A → List A
  splice d at s = take at d ++ (s ++ drop (at + length s) d)

  -- ---- a part

  pub drop_take : (b n : ℕ) (l : List A) → drop b (take n l) ≡ take (n - b) (drop b l)
  drop_take zero n l = rw sub-zero
  drop_take (suc b) zero l = rw zero-sub refl
  drop_take (suc b) (suc n) [] = sym (take-nil (suc n - suc b))
  drop_take (suc b) (suc n) (x ∷ l) = rw suc-sub-suc (drop_take b n l)

  pub length_part : (l : List A) (at n : ℕ) → at + n ≤ length l → length (part l at n) ≡ n
  unfolding part
  length_part l at n h = length-take-le n (drop at l) (rw length-drop (omega arith))

  pub get_or_part : (l : List A) (at n i : ℕ) (z : A) → i < n → get_or (part l at n) i z ≡ get_or l (at + i) z
  unfolding part
  get_or_part l at n i z h = get_or-take n (drop at l) i z h ∙ get_or-drop at l i z

  pub part_all : (l : List A) → part l 0 (length l) ≡ l
  unfolding part
  part_all l = take-length l

  -- the rest of a list, as it is lent
  pub rest : (l : List A) (k : ℕ) → take (length l - k) (drop k l) ≡ drop k l
  rest l k = ap (λ (n : ℕ). take n (drop k l)) (sym (length-drop k l)) ∙ take-length (drop k l)

  -- and nothing stands behind it
  pub rest_end : (l : List A) (k : ℕ) → drop (length l - k) (drop k l) ≡ []
  rest_end l k = drop_of_length-le (drop k l) {i = length l - k} (rw length-drop (omega arith))

  -- a part of a part
  pub part_part : (l : List A) (a n b m : ℕ) → b + m ≤ n → part (part l a n) b m ≡ part l (a + b) m
  unfolding part
  part_part l a n b m h =
      ap (take m) (drop_take b n (drop a l))
      ∙ take-take m (n - b) (drop b (drop a l)) (omega arith)
      ∙ ap (take m) (drop-drop b a l)

  -- ---- a list with a part replaced

  pub length_splice : (d : List A) (at : ℕ) (s : List A) → at + length s ≤ length d → length (splice d at s) ≡ length d
  unfolding splice
  length_splice d at s h =
      length-append (take at d) (s ++ drop (at + length s) d)
      ∙ rw (length-append s (drop (at + length s) d), length-drop, length-take-le at d (omega arith)) (omega arith)

  pub part_splice : (d : List A) (at : ℕ) (s : List A) → at ≤ length d → part (splice d at s) at (length s) ≡ s
  unfolding part splice
  part_splice d at s h =
      ap (take (length s)) (drop_at (take at d) (s ++ drop (at + length s) d) at (length-take-le at d h))
      ∙ take_at s (drop (at + length s) d) (length s) refl

  -- a part of what was spliced in
  pub part_in : (d : List A) (at : ℕ) (s : List A) (i n : ℕ) → at ≤ length d → i + n ≤ length s → part (splice d at s) (at + i) n ≡ part s i n
  part_in d at s i n h k = sym (part_part (splice d at s) at (length s) i n k) ∙ ap (λ (l : List A). part l i n) (part_splice d at s h)

  -- a splice over the whole
  pub splice_all : (d s l : List A) → length s ≡ length d → l ≡ splice d 0 s → l ≡ s
  unfolding splice
  splice_all d s l e p = p ∙ rw (drop_of_length-le d {i = 0 + length s} (omega arith), append-nil)

  pub get_in : (d : List A) (at : ℕ) (s : List A) (i : ℕ) (z : A) → at ≤ length d → i < length s → get_or (splice d at s) (at + i) z ≡ get_or s i z
  get_in d at s i z h k = sym (get_or_part (splice d at s) at (length s) i z k) ∙ ap (λ (l : List A). get_or l i z) (part_splice d at s h)

  pub get_below : (d : List A) (at : ℕ) (s : List A) (i : ℕ) (z : A) → at ≤ length d → i < at → get_or (splice d at s) i z ≡ get_or d i z
  unfolding splice
  get_below d at s i z h k =
      get_or-append (take at d) (s ++ drop (at + length s) d) z i (rw (length-take-le at d h) k) ∙ get_or-take at d i z k

  -- what stands behind a splice
  pub drop_splice : (d : List A) (at : ℕ) (s : List A) (i : ℕ) → at ≤ length d → at + length s ≤ i → drop i (splice d at s) ≡ drop i d
  unfolding splice
  drop_splice d at s i h k =
      let e : length (take at d ++ s) ≡ at + length s = length-append (take at d) s ∙ rw (length-take-le at d h) in
      let j : length (take at d ++ s) + (i - (at + length s)) ≡ i = rw e (omega arith) in
      let r : at + length s + (i - (at + length s)) ≡ i = omega arith in
      ap (drop i) (sym (append_assoc (take at d) s (drop (at + length s) d)))
      ∙ ap (λ (n : ℕ). drop n ((take at d ++ s) ++ drop (at + length s) d)) (sym j)
      ∙ drop-append-add (take at d ++ s) (drop (at + length s) d) (i - (at + length s))
      ∙ drop-drop (i - (at + length s)) (at + length s) d
      ∙ ap (λ (n : ℕ). drop n d) r

  -- a part as the end of what is taken
  part_front : (l : List A) (i n : ℕ) → take n (drop i l) ≡ drop i (take (i + n) l)
  part_front l i n = sym (drop_take i (i + n) l ∙ rw add-sub_cancel_left)

  -- a part that ends before the splice, and one that begins after it
  pub part_below : (d : List A) (at : ℕ) (s : List A) (i n : ℕ) → at ≤ length d → i + n ≤ at → part (splice d at s) i n ≡ part d i n
  unfolding part splice
  part_below d at s i n h k =
      part_front (splice d at s) i n
      ∙ ap (drop i) (take-append-le (i + n) (take at d) (s ++ drop (at + length s) d) (rw (length-take-le at d h) k) ∙ take-take (i + n) at d k)
      ∙ sym (part_front d i n)

  pub part_above : (d : List A) (at : ℕ) (s : List A) (i n : ℕ) → at ≤ length d → at + length s ≤ i → part (splice d at s) i n ≡ part d i n
  unfolding part splice
  part_above d at s i n h k = ap (take n) (drop_splice d at s i h k)

  -- one element is a part, and one that stands behind a splice
  pub get_one : (l : List A) (i : ℕ) (z : A) → get_or l i z ≡ get_or (part l i 1) 0 z
  get_one l i z = sym (get_or_part l i 1 0 z (omega arith) ∙ rw add-zero refl)

  pub get_above : (d : List A) (at : ℕ) (s : List A) (i : ℕ) (z : A) → at ≤ length d → at + length s ≤ i → get_or (splice d at s) i z ≡ get_or d i z
  get_above d at s i z h k = get_one (splice d at s) i z ∙ ap (λ (l : List A). get_or l 0 z) (part_above d at s i 1 h k) ∙ sym (get_one d i z)

  -- a slice lent as `&mut m[at..at + n]` and given back as s
  pub lent_back : (m : List A) (at n : ℕ) (s : List A) → length s ≡ n → take at m ++ (s ++ drop n (drop at m)) ≡ splice m at s
  unfolding splice
  lent_back m at n s e = rw (drop-drop, ← e)

  -- what a run of stores, `d[at] = a; d[at + 1] = b; ..`, leaves
  pub stores : (d : List A) (at : ℕ) (s : List A) → at + length s ≤ length d → sets d at s ≡ splice d at s
  unfolding splice
  stores d at s h = sets-eq s d at h ∙ append_assoc (take at d) s (drop (at + length s) d)

  -- a splice, and one right behind it
  pub splice_next : (d : List A) (at k : ℕ) (s t : List A) → at + length s ≡ k → k ≤ length d → splice (splice d at s) k t ≡ splice d at (s ++ t)
  unfolding splice
  splice_next d at k s t e h =
      let l : length (take at d ++ s) ≡ k = length-append (take at d) s ∙ rw (length-take-le at d (omega arith)) e in
      let a : take at d ++ (s ++ drop (at + length s) d) ≡ (take at d ++ s) ++ drop k d =
      rw (sym e) (sym (append_assoc (take at d) s (drop (at + length s) d))) in
      let b : k + length t ≡ length (take at d ++ s) + length t = rw l in
      let c : drop (k + length t) ((take at d ++ s) ++ drop k d) ≡ drop (k + length t) d =
      ap (λ (n : ℕ). drop n ((take at d ++ s) ++ drop k d)) b ∙ drop-append-add (take at d ++ s) (drop k d) (length t) ∙ drop-drop (length t) k d in
      let f : at + length (s ++ t) ≡ k + length t = rw (length-append s t) (omega arith) in
      rw (a, take_at (take at d ++ s) (drop k d) k l, c, f, append_assoc (take at d) s (t ++ drop (k + length t) d), append_assoc s t (drop (k + length t) d))

  -- a part put back as it was
  pub splice_own : (d : List A) (at n : ℕ) → at + n ≤ length d → splice d at (part d at n) ≡ d
  unfolding part
  splice_own d at n h = sym (lent_back d at n (part d at n) (length_part d at n h)) ∙ rw (take-append-drop n (drop at d), take-append-drop at d) refl

  -- a part that was lent and given back as x
  pub lent_filled : (m s x : List A) (at n : ℕ) → length s ≡ n → s ≡ x → take at m ++ (s ++ drop n (drop at m)) ≡ splice m at x
  lent_filled m s x at n h q = lent_back m at n s h ∙ ap (splice m at) q

  -- ---- parts of lists joined, side by side, and of one element

  -- the first n elements, a part of the first list, and a part of what is joined on
  pub part_first : (a b : List A) (n : ℕ) → length a ≡ n → part (a ++ b) 0 n ≡ a
  unfolding part
  part_first a b n e = take_at a b n e

  pub part_behind : (a b : List A) (k i n : ℕ) → length a ≡ k → part (a ++ b) (k + i) n ≡ part b i n
  unfolding part
  part_behind a b k i n e = ap (take n) (rw (← e) (drop-append-add a b i))

  pub get_behind : (a b : List A) (k i : ℕ) (z : A) → length a ≡ k → get_or (a ++ b) (k + i) z ≡ get_or b i z
  get_behind a b k i z e = rw (← e) (get_or-append-add a b i z)

  pub part_left : (a b : List A) (at n : ℕ) → at + n ≤ length a → part (a ++ b) at n ≡ part a at n
  unfolding part
  part_left a b at n h =
      let l : n ≤ length (drop at a) = simp length-drop (omega arith) in
      ap (take n) (drop-append-le at a b (omega arith)) ∙ take-append-le n (drop at a) b l

  pub part_replicate : (m k w : ℕ) (z : A) → k + w ≤ m → part (replicate m z) k w ≡ replicate w z
  part_replicate m k w z h =
      let e : length (part (replicate m z) k w) ≡ w = length_part (replicate m z) k w (rw (length-replicate m z) h) in
      ext_get_or z (part (replicate m z) k w) (replicate w z) (e ∙ sym (length-replicate w z))
      (λ i j. let b : i < w = rw e at j in
      get_or_part (replicate m z) k w i z b ∙ get_or-replicate m (k + i) z z (omega arith) ∙ sym (get_or-replicate w i z z b))

  pub part_last : (a b : List A) (at w : ℕ) → length a ≡ at → length b ≡ w → part (a ++ b) at w ≡ b
  unfolding part
  part_last a b at w e k = ap (take w) (drop_at a b at e) ∙ take_all w b (omega arith)

  -- two parts side by side
  pub part_add : (l : List A) (at a b : ℕ) → part l at (a + b) ≡ part l at a ++ part l (at + a) b
  unfolding part
  part_add l at a b = take-add a b (drop at l) ∙ rw drop-drop

  -- the front of a part, and what stands behind its first j elements
  take_part : (d : List A) (at i n : ℕ) → i ≤ n → take i (part d at n) ≡ part d at i
  unfolding part
  take_part d at i n h = take-take i n (drop at d) h

  drop_part : (d : List A) (at j k n : ℕ) → j + k ≡ n → drop j (part d at n) ≡ part d (at + j) k
  unfolding part
  drop_part d at j k n h =
      let e : n - j ≡ k = omega arith in
      drop_take j n (drop at d) ∙ rw (e, drop-drop j at d)

  -- a splice inside a part: i elements before it, k behind it
  pub part_inside : (d s : List A) (at i m k : ℕ) → length s ≡ m → at + (i + (m + k)) ≤ length d
      → part (splice d (at + i) s) at (i + (m + k)) ≡ splice (part d at (i + (m + k))) i s
  unfolding splice
  part_inside d s at i m k e h =
      let n : ℕ = i + (m + k) in
      let u : List A = splice d (at + i) s in
      let before : part u at i ≡ take i (part d at n) = part_below d (at + i) s at i (omega arith) (omega arith) ∙ sym (take_part d at i n (omega arith)) in
      let here : part u (at + i) m ≡ s = ap (part u (at + i)) (sym e) ∙ part_splice d (at + i) s (omega arith) in
      let j : at + (i + length s) ≡ at + i + m = omega arith in
      let behind : part u (at + i + m) k ≡ drop (i + length s) (part d at n) =
      part_above d (at + i) s (at + i + m) k (omega arith) (omega arith) ∙ sym (drop_part d at (i + length s) k n (omega arith) ∙ rw j) in
      part_add u at i (m + k)
      ∙ ap (λ (x : List A). part u at i ++ x) (part_add u (at + i) m k)
      ∙ rw (before, here, behind)
