-- A loop that copies the n elements of s from index from on over those of d from index at on:
--
--     let mut j = 0;
--     while j < n {
--         d[at + j] = s[from + j];
--         j += 1;
--     }
--
-- It makes d `splice d₀ at (part s from n)`, and its invariant is `(j ≤ n) × (d ≡ splice d₀ at (part s from j))`.
-- Assumes nothing.
use Rattle.std.specs.Prelude.{◌≡◌, List, ℕ, ◌+◌, ◌<◌, ◌≤◌, length, get_or, set, take, drop}
use Rattle.std.proofs.Common.{sym, ◌∙◌, ap, append_assoc, add-one, le_antisymm, arith, length-drop, get_or-drop, rules}
use Rattle.std.proofs.Math.Seq.{paste, paste-zero, paste-suc}
use Rattle.laws.specs.Splice.{part, splice, part_all, length_part}

module _ {A : Type 0} where
  -- a splice of a part, as the copy of n elements
  as_paste : (d : List A) (at : ℕ) (s : List A) (from n : ℕ) → from + n ≤ length s → splice d at (part s from n) ≡ paste d at (drop from s) n
  unfolding part splice
  as_paste d at s from n h =
      rw (length_part s from n h) (sym (append_assoc (take at d) (take n (drop from s)) (drop (at + n) d)))

  pub copy_none : (d : List A) (at : ℕ) (s : List A) (from n : ℕ) → from + n ≤ length s → d ≡ splice d at (part s from 0)
  copy_none d at s from n h = paste-zero d at (drop from s) ∙ sym (as_paste d at s from 0 (omega arith))

  pub copy_more : (d d₀ : List A) (at : ℕ) (s : List A) (from j n : ℕ) (z : A) → j < n → at + n ≤ length d₀ → from + n ≤ length s
      → d ≡ splice d₀ at (part s from j) → set d (at + j) (get_or s (from + j) z) ≡ splice d₀ at (part s from (j + 1))
  copy_more d d₀ at s from j n z l h k e =
      rw (e, as_paste d₀ at s from j (omega arith), as_paste d₀ at s from (j + 1) (omega arith), add-one, ← get_or-drop)
      (paste-suc d₀ at (drop from s) j z (omega arith) (rw length-drop (omega arith)))

  pub copy_done : (d d₀ : List A) (at : ℕ) (s : List A) (from j n : ℕ) → j ≤ n → n ≤ j → d ≡ splice d₀ at (part s from j)
      → d ≡ splice d₀ at (part s from n)
  copy_done d d₀ at s from j n h k e = e ∙ ap (λ (i : ℕ). splice d₀ at (part s from i)) (le_antisymm h k)

  -- a copy of all of s
  pub copy_all : (d d₀ : List A) (at : ℕ) (s : List A) → d ≡ splice d₀ at (part s 0 (length s)) → d ≡ splice d₀ at s
  copy_all d d₀ at s e = e ∙ ap (splice d₀ at) (part_all s)

pub ruleset copy_loop = (copy_none, copy_more, copy_done, rules)
