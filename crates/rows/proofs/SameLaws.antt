-- The rows' bytes are given by what they stand for: two runs of one meaning are the same bytes. Assumes nothing.
use mathlib.Core.Path.{◌≡◌, refl, sym, ◌∙◌, ap}
use mathlib.Core.Bool.{Bool}
use mathlib.Core.List.{List}
use Prim.Native.Nat.{ℕ, ◌+◌, ◌-◌, ◌/◌, ◌%◌, ◌<◌, ◌≤◌}
use native.Mathlib.Omega.{arith}
use lib.Dec.{ltb}
use lib.ListN.{length, get_or}
use lib.Seq.{ext_get_or}
use borrow.Author.Tests.{ltb-true, ltb-false}
use Rattle.laws.specs.Choice.{by_bool}
use Rattle.laws.specs.Splice.{part, get_or_part}
use Rattle.rows.specs.Row.{Row, row_of, rows_size, row_start, rows_of, row_at}
use Rattle.rows.proofs.ReadLaws.{row_in}

module _ (b c : List ℕ) (p : length b ≡ rows_size) (q : length c ≡ rows_size) (e : rows_of b ≡ rows_of c) where
  row_same : (i : ℕ) → i < 64 → row_of b (row_start i) ≡ row_of c (row_start i)
  row_same i l = sym (row_in b i l) ∙ ap (λ (rows : List Row). row_at rows i) e ∙ row_in c i l

  -- equal parts, byte by byte
  byte_same : (at n i : ℕ) → part b at n ≡ part c at n → i < n → get_or b (at + i) 0 ≡ get_or c (at + i) 0
  byte_same at n i s l = sym (get_or_part b at n i 0 l) ∙ ap (λ (x : List ℕ). get_or x i 0) s ∙ get_or_part c at n i 0 l

  in_row : (j : ℕ) → j < 1280 → get_or b j 0 ≡ get_or c j 0
  unfolding row_of
  in_row j l =
      let r = row_same (j / 20) (omega arith) in
      by_bool (λ (t : Bool). ltb (j % 20) 16 ≡ t → get_or b j 0 ≡ get_or c j 0)
      (λ t. let s : row_start (j / 20) + j % 20 ≡ j = omega arith in
      rw s at (byte_same (row_start (j / 20)) 16 (j % 20) (ap (λ (x : Row). x.sas) r) (ltb-true (j % 20) 16 t)))
      (λ t. let m : 16 ≤ j % 20 = ltb-false (j % 20) 16 t in
      let s : row_start (j / 20) + 16 + (j % 20 - 16) ≡ j = omega arith in
      rw s at (byte_same (row_start (j / 20) + 16) 4 (j % 20 - 16) (ap (λ (x : Row). x.os) r) (omega arith)))
      (ltb (j % 20) 16) refl

  pub rows_same : b ≡ c
  rows_same = ext_get_or 0 b c (p ∙ sym q) (λ i l. in_row i (rw p at l))
