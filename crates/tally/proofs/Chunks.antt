-- A chunk of some bytes, by its place. Assumes nothing.
use Rattle.std.proofs.Common.{◌≡◌, ℕ, zero, suc, ◌+◌, ◌*◌, ◌<◌, List, [], length, take, drop, get_or, ap, ◌∙◌, refl, arith, not-suc-le-zero}
use Rattle.std.specs.Simd.{first_chunks}
use Rattle.std.proofs.Math.Nat.{mul-zero}
use Rattle.std.proofs.Math.Seq.{drop-drop}

module _ {A : Type 0} where
  pub length_first_chunks : (n k : ℕ) (l : List A) → length (first_chunks n k l) ≡ k
  length_first_chunks n zero l = refl
  length_first_chunks n (suc k) l = ap suc (length_first_chunks n k (drop n l))

  pub chunk_at : (n k j : ℕ) (l : List A) → j < k → get_or (first_chunks n k l) j [] ≡ take n (drop (n * j) l)
  chunk_at n zero j l h = absurd (not-suc-le-zero h)
  chunk_at n (suc k) zero l h = rw mul-zero refl
  chunk_at n (suc k) (suc j) l h =
      chunk_at n k j (drop n l) (omega arith) ∙ ap (take n) (drop-drop (n * j) n l ∙ ap (λ (m : ℕ). drop m l) (let e : n + n * j ≡ n * suc j = omega arith in e))
