-- What comes of reading on in a session. Assumes nothing.
use Rattle.std.specs.Prelude.{Option, Some, None, Result, Ok, Err}
use Rattle.tally.specs.declared.Line.{Line}
use Rattle.tally.specs.declared.Cut.{Cut as IsCut}

-- a request was handled, and has its line; one was cut short, or is too long: the session ends; none was left
pub data Taken : Type 0 where
  Handled : Line → Taken
  Cut : Taken
  End : Taken

-- as the code has it
abbrev pub taken_of : Result (Option Line) IsCut → Taken
taken_of (Ok (Some l)) = Handled l
taken_of (Ok None) = End
taken_of (Err e) = Cut
