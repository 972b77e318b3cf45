-- A loop that writes pieces of w elements one behind the other into an array of N × w, whose other elements stay z:
--
--     let mut l = [z; 2048];
--     let mut i = 0;
--     while i < n {
--         copy(&mut l, w * i, piece(i));
--         i += 1;
--     }
--     l
--
-- Its result is `pieces f n w N z`, its invariant
-- `(i ≤ n) × (l ≡ pieces f i w N z) × (length (flat_to f i) ≡ w * i)`. Assumes nothing.
use Rattle.std.specs.Prelude.{◌≡◌, List, [], ◌++◌}
use Rattle.std.proofs.Math.Path.{refl, ap}
use Rattle.std.proofs.Common.{sym, ◌∙◌, append_assoc, le_antisymm, le_trans, zero-add, suc-add, add_comm, mul-suc, mul-le-mul_left, not-suc-le-zero, rules}
use Prim.Native.Nat.{ℕ, zero, suc, ◌+◌, ◌-◌, ◌*◌, ◌<◌, ◌≤◌}
use Rattle.std.proofs.Math.Numerals.{add-one}
use Rattle.std.proofs.Math.Nat.{sub-zero, mul-add}
use native.Mathlib.Omega.{arith}
use Rattle.std.proofs.Math.ListN.{length, drop, replicate, length-append, length-replicate}
use Rattle.std.proofs.Math.Seq.{take_at, drop-append-add}
use borrow.Author.Count.{below_more}
use Rattle.laws.specs.Splice.{part, splice, splice_next, splice_all, length_splice, part_left, part_behind, part_last, part_replicate}
use Rattle.laws.specs.Clear.{zeros}

module _ {A : Type 0} where
  -- f 0, f 1, .. , n of them, one behind the other
  unfoldable pub flat_to : (ℕ → List A) → ℕ → List A
  flat_to f zero = []
  flat_to f (suc n) = flat_to f n ++ f n

  -- the same, and z behind them up to N pieces of w
  unfoldable pub pieces : (ℕ → List A) → ℕ → ℕ → ℕ → A → List A
  pieces f n w N z = flat_to f n ++ replicate (w * (N - n)) z

  drop_replicate : (k m : ℕ) (z : A) → drop k (replicate (k + m) z) ≡ replicate m z
  drop_replicate zero m z = rw zero-add refl
  drop_replicate (suc k) m z = rw suc-add (drop_replicate k m z)

  pub pieces_none : (f : ℕ → List A) (w N m : ℕ) (z : A) → m ≡ w * N → replicate m z ≡ pieces f 0 w N z
  unfolding pieces flat_to
  pieces_none f w N m z e = rw (e, sub-zero)

  -- a turn of the loop, where a callee left s
  pub pieces_more : (f : ℕ → List A) (l s : List A) (i n w N : ℕ) (z : A) → i < n → n ≤ N → length (flat_to f i) ≡ w * i → length (f i) ≡ w
      → l ≡ pieces f i w N z → s ≡ splice l (w * i) (f i) → s ≡ pieces f (i + 1) w N z
  unfolding pieces flat_to splice
  pieces_more f l s i n w N z h k m e p q =
      let r : N - i ≡ suc (N - suc i) = omega arith in
      let t : w * (N - i) ≡ w + w * (N - suc i) = rw (r, mul-suc) (add_comm (w * (N - suc i)) w) in
      let d : drop (w * i + length (f i)) (flat_to f i ++ replicate (w * (N - i)) z) ≡ replicate (w * (N - suc i)) z =
      rw (e, ← m, t) (drop-append-add (flat_to f i) (replicate (w + w * (N - suc i)) z) w ∙ drop_replicate w (w * (N - suc i)) z) in
      q ∙ rw (p, d, take_at (flat_to f i) (replicate (w * (N - i)) z) (w * i) m, add-one)
      (sym (append_assoc (flat_to f i) (f i) (replicate (w * (N - suc i)) z)))

  -- the pieces so far are as long as they should be
  pub flat_none : (f : ℕ → List A) (w : ℕ) → length (flat_to f 0) ≡ w * 0
  unfolding flat_to
  flat_none f w = omega arith

  pub flat_more : (f : ℕ → List A) (i w : ℕ) → length (flat_to f i) ≡ w * i → length (f i) ≡ w → length (flat_to f (i + 1)) ≡ w * (i + 1)
  unfolding flat_to
  flat_more f i w h e = rw add-one (length-append (flat_to f i) (f i) ∙ rw (h, e, mul-suc))

  pub pieces_done : (f : ℕ → List A) (n i w N : ℕ) (z : A) (l : List A) → i ≤ n → n ≤ i → l ≡ pieces f i w N z → l ≡ pieces f n w N z
  pieces_done f n i w N z l h k e = e ∙ ap (λ (j : ℕ). pieces f j w N z) (le_antisymm h k)

  -- ---- a piece taken out again

  module _ (f : ℕ → List A) (w : ℕ) where
    pub flat_length : (n : ℕ) → ((i : ℕ) → i < n → length (f i) ≡ w) → length (flat_to f n) ≡ w * n
    flat_length zero h = flat_none f w
    flat_length (suc n) h = rw add-one at (flat_more f n w (flat_length n (λ i l. h i (omega arith))) (h n (omega arith)))

    -- piece i ends where the pieces end, at the latest
    within : (i n : ℕ) → i < n → w * i + w ≤ w * n
    within i n h = rw mul-suc at (mul-le-mul_left w h)

    part_flat : (n i : ℕ) → ((i : ℕ) → i < n → length (f i) ≡ w) → i < n → part (flat_to f n) (w * i) w ≡ f i
    unfolding flat_to
    part_flat zero i h l = absurd (not-suc-le-zero l)
    part_flat (suc n) i h l =
        let e : length (flat_to f n) ≡ w * n = flat_length n (λ j k. h j (omega arith)) in
        below_more (λ (j : ℕ). part (flat_to f n ++ f n) (w * j) w ≡ f j) n
        (λ j k. part_left (flat_to f n) (f n) (w * j) w (rw e (within j n k)) ∙ part_flat n j (λ j k. h j (omega arith)) k)
        (part_last (flat_to f n) (f n) (w * n) w e (h n (omega arith))) i (rw add-one l)

    module _ (n N : ℕ) (z : A) (h : (i : ℕ) → i < n → length (f i) ≡ w) (k : n ≤ N) where
      pub length_pieces : length (pieces f n w N z) ≡ w * N
      unfolding pieces
      length_pieces =
          let e : n + (N - n) ≡ N = omega arith in
          length-append (flat_to f n) (replicate (w * (N - n)) z)
          ∙ rw (flat_length n h, length-replicate, ← mul-add, e)

      -- piece i below n, and z from n on
      pub piece_at : (i : ℕ) → i < n → part (pieces f n w N z) (w * i) w ≡ f i
      unfolding pieces
      piece_at i l =
          part_left (flat_to f n) (replicate (w * (N - n)) z) (w * i) w (rw (flat_length n h) (within i n l)) ∙ part_flat n i h l

      pub piece_past : (i : ℕ) → n ≤ i → i < N → part (pieces f n w N z) (w * i) w ≡ replicate w z
      unfolding pieces
      piece_past i l m =
          let e : n + (i - n) ≡ i = omega arith in
          let d : length (flat_to f n) + w * (i - n) ≡ w * i = rw (flat_length n h, ← mul-add, e) in
          ap (λ (at : ℕ). part (flat_to f n ++ replicate (w * (N - n)) z) at w) (sym d)
          ∙ part_behind (flat_to f n) (replicate (w * (N - n)) z) (length (flat_to f n)) (w * (i - n)) w refl
          ∙ part_replicate (w * (N - n)) (w * (i - n)) w z (within (i - n) (N - n) (omega arith))

pub ruleset flat_loop = (pieces_none, pieces_more, pieces_done, flat_none, flat_more, rules)

-- the same over bytes that a callee cleared and that a callee writes: the loop's start, the place of piece i, and the length after a turn.
-- The invariant has `length l ≡ w * N` besides
pub pieces_start : (f : ℕ → List ℕ) (s : List ℕ) (m w N : ℕ) → m ≡ w * N → s ≡ zeros m → s ≡ pieces f 0 w N 0
pieces_start f s m w N h q = q ∙ pieces_none f w N m 0 h

pub piece_within : (l : List ℕ) (w i n N m : ℕ) → i < n → n ≤ N → m ≡ w * N → length l ≡ m → w * i + w ≤ length l
piece_within l w i n N m h k q e = rw (e, q) (rw mul-suc at (mul-le-mul_left w (le_trans h k)))

pub piece_length : (s d x : List ℕ) (w i n N m : ℕ) → s ≡ splice d (w * i) x → length x ≡ w → i < n → n ≤ N → m ≡ w * N → length d ≡ m → length s ≡ m
piece_length s d x w i n N m q l h k g e =
    ap length q ∙ length_splice d (w * i) x (rw l (piece_within d w i n N m h k g e)) ∙ e

pub ruleset put_loop = (pieces_start, piece_within, piece_length, flat_loop)

-- the same over any bytes, of which only those behind the pieces are then cleared. The invariant is
-- `(i ≤ n) × (l ≡ splice l₀ 0 (flat_to f i)) × (length (flat_to f i) ≡ w * i) × (length l ≡ w * N)`
pub over_none : (f : ℕ → List ℕ) (l : List ℕ) → l ≡ splice l 0 (flat_to f 0)
unfolding flat_to splice
over_none f l = refl

pub over_more : (f : ℕ → List ℕ) (l l₀ s : List ℕ) (i n w N m : ℕ) → i < n → n ≤ N → m ≡ w * N → length l₀ ≡ m → length (flat_to f i) ≡ w * i
    → l ≡ splice l₀ 0 (flat_to f i) → s ≡ splice l (w * i) (f i) → s ≡ splice l₀ 0 (flat_to f (i + 1))
unfolding flat_to
over_more f l l₀ s i n w N m h k g e t p q =
    let r : w * i ≤ length l₀ = rw (e, g) (mul-le-mul_left w (le_trans (le_suc_of i n h) k)) in
    q ∙ rw (p, add-one) (splice_next l₀ 0 (w * i) (flat_to f i) (f i) (rw (zero-add, t) refl) r)
  where
    le_suc_of : (a b : ℕ) → a < b → a ≤ b
    le_suc_of a b l = omega arith

pub over_done : (f : ℕ → List ℕ) (n i : ℕ) (l l₀ : List ℕ) → i ≤ n → n ≤ i → l ≡ splice l₀ 0 (flat_to f i) → l ≡ splice l₀ 0 (flat_to f n)
over_done f n i l l₀ h k e = e ∙ ap (λ (j : ℕ). splice l₀ 0 (flat_to f j)) (le_antisymm h k)

pub length_done : (f : ℕ → List ℕ) (n i w : ℕ) → i ≤ n → n ≤ i → length (flat_to f i) ≡ w * i → length (flat_to f n) ≡ w * n
length_done f n i w h k e = ap (λ (j : ℕ). length (flat_to f j)) (le_antisymm k h) ∙ e ∙ ap (λ (j : ℕ). w * j) (le_antisymm h k)

pub ruleset over_loop = (over_none, over_more, over_done, length_done, piece_within, piece_length, flat_none, flat_more, rules)

pub over_cleared : (f : ℕ → List ℕ) (l₀ l s : List ℕ) (n w N m : ℕ) → n ≤ N → m ≡ w * N → length l₀ ≡ m → length (flat_to f n) ≡ w * n → l ≡ splice l₀ 0 (flat_to f n)
    → s ≡ splice l (w * n) (zeros (w * (N - n))) → s ≡ pieces f n w N 0
unfolding pieces
over_cleared f l₀ l s n w N m k g e t p q =
    let r : w * n ≤ length l₀ = rw (e, g) (mul-le-mul_left w k) in
    let z : n + (N - n) ≡ N = omega arith in
    let size : length (flat_to f n ++ zeros (w * (N - n))) ≡ length l₀ =
    length-append (flat_to f n) (zeros (w * (N - n))) ∙ rw (t, length-replicate, ← mul-add, z, e, g) refl in
    splice_all l₀ (flat_to f n ++ zeros (w * (N - n))) s size
    (q ∙ rw p (splice_next l₀ 0 (w * n) (flat_to f n) (zeros (w * (N - n))) (rw (zero-add, t) refl) r))
