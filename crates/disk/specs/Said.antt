-- What the disk answers, as the code gives it: the bytes that a command moves, or an error. Assumes nothing.
use Rattle.std.specs.Prelude.{ℕ, Result, Ok, Err}
use Rattle.disk.specs.Disk.{Answer, succeeds, fails}
use Rattle.disk.specs.declared.AtaError.{AtaError}
use Rattle.disk.specs.declared.AtaError.TheVariants.{Aborted, IdNotFound}

-- the bit of the error register
abbrev pub error_bits : AtaError → ℕ
error_bits Aborted = 0x04
error_bits IdNotFound = 0x10

-- "Success is 50h, 0"; otherwise 51h and the error
abbrev pub answer_said : Result ℕ AtaError → Answer
answer_said (Ok moved) = succeeds moved
answer_said (Err error) = fails (error_bits error)
