-- A part of a list as std lends it, `s[at..at + n]`, and what `s[at..at + n].copy_from_slice(..)` leaves. Assumes nothing.
use Rattle.std.specs.Prelude.{◌≡◌, List, ℕ, ◌+◌, ◌-◌, length, replicate, slice_range}
use Rattle.std.proofs.Common.{◌∙◌, ap, arith}
use Rattle.std.proofs.lemmas.List.{length-replicate}
use borrow.Rule.Slice.PartMut.{put_mid}
use Rattle.laws.specs.Splice.{part, splice, lent_back}

module _ {A : Type 0} where
  pub lent_part : (l : List A) (at n : ℕ) → slice_range l at (at + n) ≡ part l at n
  unfolding part
  lent_part l at n =
      let e : at + n - at ≡ n = omega arith in
      rw e

  pub lent_put : (d s t : List A) (at n : ℕ) → s ≡ t → length t ≡ n → put_mid at (at + n - at) d s ≡ splice d at t
  lent_put d s t at n p h =
      let e : at + n - at ≡ n = omega arith in
      rw (e, p) (lent_back d at n t h)

  -- what `s[at..at + n].fill(x)` leaves, where m is the length that it finds
  pub lent_fill : (d s : List A) (at n m : ℕ) (x : A) → s ≡ replicate m x → m ≡ n → put_mid at (at + n - at) d s ≡ splice d at (replicate n x)
  lent_fill d s at n m x p e = lent_put d s (replicate n x) at n (p ∙ ap (λ (k : ℕ). replicate k x) e) (length-replicate n x)
