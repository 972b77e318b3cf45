-- The index that a conversion finds. Assumes nothing.
use Rattle.std.specs.Prelude.{cond, ℕ, ltb, Option, Some, None}

-- i, where it is below a: `sas_index` and `os_index` of rows/specs/Row.antt are a where no row was found
unfoldable pub found : ℕ → ℕ → Option ℕ
found a i = cond (ltb i a) (Some i) None
