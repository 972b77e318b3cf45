-- The kinds of a session's lines, by the two numbers that a line shows (W-206). Assumes nothing.
use Rattle.std.specs.Prelude.{◌≡◌, Bool, true, ◌&&◌, not, ℕ, eqb}
use Rattle.codes.specs.Codes.{success, write_attempted, short_buffer}
use Rattle.tally.specs.declared.Line.{Line}
use Rattle.tally.specs.declared.Kind.{Kind}
use Rattle.tally.specs.declared.Kind.TheVariants.{Granted as IsGranted, Denied as IsDenied, Otherwise as IsOtherwise, Short as IsShort}

-- the call's number and the return code
abbrev pub line : ℕ → ℕ → Line
line call code = record { call = call; code = code }

-- what stands for the code of a line whose request got none
abbrev pub no_code : ℕ
no_code = 4294967295

-- "Granted means a return code of 0 or 2000", which section 10 has as STATUS_SUCCESS and PHY_INFO_CHANGED, both 0
abbrev pub is_granted : Line → Bool
is_granted l = eqb l.call 0 && eqb l.code success

-- "denied 4"
abbrev pub is_denied : Line → Bool
is_denied l = eqb l.call 0 && eqb l.code write_attempted

-- "100s": the call's number
abbrev pub is_short : Line → Bool
is_short l = eqb l.call short_buffer

-- "All others but 100 are otherwise refused"
abbrev pub is_otherwise : Line → Bool
is_otherwise l = not (is_granted l) && (not (is_denied l) && not (is_short l))

-- the kinds
pub data LineKind : Type 0 where
  Granted : LineKind
  Denied : LineKind
  Otherwise : LineKind
  Short : LineKind

-- as the code has them
abbrev pub kind_of : Kind → LineKind
kind_of IsGranted = Granted
kind_of IsDenied = Denied
kind_of IsOtherwise = Otherwise
kind_of IsShort = Short

-- whether a line is of a kind
abbrev pub is : LineKind → Line → Bool
is Granted = is_granted
is Denied = is_denied
is Otherwise = is_otherwise
is Short = is_short

-- it has one kind, and no other
pub record OneKind (l : Line) : Type 0 where
  pub kind : LineKind
  pub has : is kind l ≡ true
  pub only : (k : LineKind) → is k l ≡ true → k ≡ kind

-- the partition: every line has exactly one kind
abbrev pub Partition : Type 0
Partition = (l : Line) → OneKind l
