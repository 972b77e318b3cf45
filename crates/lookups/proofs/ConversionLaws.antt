-- What the code of either conversion returns, a row found or none. Assumes nothing.
use mathlib.Core.Path.{◌≡◌, refl, sym, ◌∙◌, ap}
use mathlib.Core.List.{List}
use Prim.Native.Nat.{ℕ, ◌<◌, ◌≤◌}
use borrow.Author.Tests.{lt-ltb, le-ltb}
use Rattle.std.specs.Prelude.{Option, Some, None}
use Rattle.laws.specs.Splice.{part, splice}
use Rattle.rows.specs.Row.{Row, rows_size, rows_of, row_at}
use Rattle.tables.specs.Tables.{rows_start, tables_of}
use Rattle.reports.specs.Report.{report, filled}
use Rattle.conversions.specs.Found.{found}
use Rattle.conversions.proofs.FindLaws.{found_some, found_none}
use native.Mathlib.Omega.{arith}
use Rattle.lookups.specs.Conversion.{converted}

-- a is the row count that was read, x the key, and o what the lookup found, over the rows as they are lent
module _ (index : List Row → ℕ → List ℕ → ℕ) (bytes : Row → List ℕ) (n none : ℕ) (body : List ℕ) (a : ℕ) (t r x : List ℕ) (o : Option ℕ) (p : a ≡ (tables_of t).row_count)
    (l : r ≡ part t rows_start rows_size) (k : x ≡ part body 0 n) (q : o ≡ found a (index (rows_of r) a x))
  where
    -- its index is below a
    pub index_below : (i : ℕ) → o ≡ Some i → a ≤ 64 → i < 64
    index_below i s h = let f = found_some a (index (rows_of r) a x) i (sym s ∙ q) in omega (arith, f.0, f.1)

    pub row_found : (i : ℕ) (b : List ℕ) → o ≡ Some i → b ≡ splice body n (bytes (row_at (rows_of r) i))
        → filled b ≡ converted index bytes n none (tables_of t).rows (tables_of t).row_count body
    unfolding converted tables_of
    row_found i b s e =
        let f = found_some a (index (rows_of r) a x) i (sym s ∙ q) in
        rw (← p, ← l, ← k, lt-ltb (index (rows_of r) a x) a f.1, ← f.0) (ap filled e)

    pub no_row : o ≡ None → report none body ≡ converted index bytes n none (tables_of t).rows (tables_of t).row_count body
    unfolding converted tables_of
    no_row s = rw (← p, ← l, ← k, le-ltb (index (rows_of r) a x) a (found_none a (index (rows_of r) a x) (sym s ∙ q))) refl
