-- The room of a code's structure, where its number was matched on. Assumes nothing.
use Rattle.std.proofs.Common.{◌≡◌, ℕ, ◌≤◌, Result, Ok, arith}
use Rattle.std.proofs.lemmas.Grind.{common_steps}
use Rattle.codes.specs.Numbers.{control_code_of}
use Rattle.codes.specs.declared.control_code.ControlCode.{ControlCode}
use Rattle.codes.specs.declared.control_code.ControlCode.TheVariants.{FirmwareDownload, GetLinkErrors, StpPassthru}
use Rattle.codes.specs.declared.control_code.UnknownControlCode.{UnknownControlCode}
use Rattle.control_codes.specs.Table.{structure_size}
use Rattle.control_codes.proofs.TableLaws.{errors_room, passthrough_room, download_room}

module _ (control n k : ℕ) (r : Result ControlCode UnknownControlCode) (code : ControlCode) (p : r ≡ control_code_of control) (q : r ≡ Ok code)
    (h : structure_size control ≤ n) where
  pub errors_inside : code ≡ GetLinkErrors → k ≤ 20 → k ≤ n
  errors_inside e = errors_room control k n (grind (arith, common_steps)) h

  pub passthrough_inside : code ≡ StpPassthru → k ≤ 136 → k ≤ n
  passthrough_inside e = passthrough_room control k n (grind (arith, common_steps)) h

  pub download_inside : code ≡ FirmwareDownload → k ≤ 44 → k ≤ n
  download_inside e = download_room control k n (grind (arith, common_steps)) h
