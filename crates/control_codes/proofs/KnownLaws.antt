-- A number that is a control code, by its conversion. Assumes nothing.
use Rattle.std.proofs.Common.{◌≡◌, ℕ, true, false, Result, Ok, Err, arith}
use Rattle.std.proofs.lemmas.Grind.{common_steps}
use Rattle.codes.specs.Numbers.{control_number, control_code_of}
use Rattle.codes.specs.declared.control_code.ControlCode.{ControlCode}
use Rattle.codes.specs.declared.control_code.UnknownControlCode.{UnknownControlCode}
use Rattle.level.specs.Need.{among}
use Rattle.control_codes.specs.Table.{known}

module _ (n : ℕ) (r : Result ControlCode UnknownControlCode) (p : r ≡ control_code_of n) where
  pub known_ok : (code : ControlCode) → r ≡ Ok code → known n ≡ true
  unfolding known among
  known_ok code q = grind (arith, common_steps)

  pub known_err : (u : UnknownControlCode) → r ≡ Err u → known n ≡ false
  unfolding known among
  known_err u q = grind (arith, common_steps)

  pub number_ok : (code : ControlCode) → r ≡ Ok code → control_number code ≡ n
  number_ok code q = grind (arith, common_steps)

pub ruleset conversion = (known_ok, known_err, number_ok)
