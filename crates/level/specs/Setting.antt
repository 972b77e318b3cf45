-- What entries say of the level, and the level of a text, as document 01 has them; and how the code's answers say the same. Assumes nothing.
use Rattle.std.specs.Prelude.{ℕ, Option, Some, None, Result, Ok, Err}
use Rattle.codes.specs.declared.call_error.CallError.{CallError}
use Rattle.codes.specs.declared.call_error.CallError.TheVariants.{BadText}
use Rattle.codes.specs.Numbers.{error_number}
use Rattle.level.specs.declared.Level.{Level}

-- what the entries of a text say of the level
pub data Setting : Type 0 where
  -- none of them begins with CSMI=
  Absent : Setting
  -- one does, and it is one of the four
  Given : Level → Setting
  -- one does and is none of the four, or more than one does
  Bad : Setting

-- the level of a text where call is 0
pub record TextLevel : Type 0 where
  pub call : ℕ
  pub level : Level

-- what is said of the level, as it is answered
abbrev pub setting_answer : Setting → Result (Option Level) CallError
setting_answer Absent = Ok None
setting_answer (Given l) = Ok (Some l)
setting_answer Bad = Err BadText

-- an answer's call number and level; "None 0" where there is none
abbrev pub told : Result Level CallError → TextLevel
told (Ok l) = record { call = 0; level = l }
told (Err error) = record { call = error_number error; level = record { 0 = 0 } }
