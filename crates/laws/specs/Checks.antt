-- Checks in their order, each with the number that is given where it fails. Assumes nothing.
use Rattle.std.specs.Prelude.{Bool, cond, List, [], ◌∷◌, ℕ}

pub record Check : Type 0 where
  pub holds : Bool
  pub number : ℕ

abbrev pub check : Bool → ℕ → Check
check holds number = record { holds = holds; number = number }

-- the number of the first that fails, or 0
unfoldable pub first_failing : List Check → ℕ
first_failing [] = 0
first_failing (c ∷ cs) = cond c.holds (first_failing cs) c.number
