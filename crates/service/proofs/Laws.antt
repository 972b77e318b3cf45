-- What the proofs of this crate cite. Assumes nothing.
use mathlib.Core.Path.{◌≡◌, sym, ◌∙◌, ap}
use mathlib.Core.List.{List}
use Prim.Native.Nat.{ℕ, ◌+◌, ◌≤◌}
use native.Mathlib.Nat.{le_trans, le-add_right}
use Rattle.std.proofs.Common.{Result, Ok}
use Rattle.codes.specs.Codes.{stp_passthru, firmware_download}
use Rattle.codes.specs.Numbers.{control_number, control_code_of}
use Rattle.codes.specs.declared.control_code.ControlCode.{ControlCode}
use Rattle.codes.specs.declared.control_code.ControlCode.TheVariants.{FirmwareDownload, StpPassthru}
use Rattle.codes.specs.declared.control_code.UnknownControlCode.{UnknownControlCode}
use Rattle.control_codes.proofs.KnownLaws.{number_ok}
use Rattle.stp.specs.Body.{data_length}
use Rattle.download.specs.Body.{buffer_length}
use Rattle.control_codes.specs.Table.{structure_size, data_size}
use Rattle.control_codes.proofs.TableLaws.{room}
use Rattle.adapter.specs.Adapter.{Adapter}
use Rattle.adapter.specs.Changed.{Changed, leaves}
use Rattle.reports.specs.Report.{Report, report}
use Rattle.passthrough.specs.Passthrough.{Passed, passes}
use Rattle.firmware.specs.Firmware.{Downloaded, downloads}
use Rattle.service.specs.Serve.{Store, store_of, serves, changed, reported}

-- ---- rooms

-- the structure of a code that was tested, where its data is counted too
pub room_and_data : (control code k d n : ℕ) → control ≡ code → structure_size control + d ≤ n → structure_size code ≡ k → k ≤ n
room_and_data control code k d n e h s = room control code k n e (le_trans (le-add_right (structure_size control) d) h) s

pub structure_part : (size d n : ℕ) → size + d ≤ n → size ≤ n
structure_part size d n h = le_trans (le-add_right size d) h

pub passthrough_lent : (control n : ℕ) (body : List ℕ) → control ≡ stp_passthru → structure_size control + data_size control body ≤ n → 136 + data_length body ≤ n
unfolding structure_size data_size
passthrough_lent control n body e h = rw e at h

pub download_lent : (control n : ℕ) (body : List ℕ) → control ≡ firmware_download → structure_size control + data_size control body ≤ n → 44 + buffer_length body ≤ n
unfolding structure_size data_size
download_lent control n body e h = rw e at h

-- the same of a number that was found to be that code
module _ (control n : ℕ) (body : List ℕ) (r : Result ControlCode UnknownControlCode) (p : r ≡ control_code_of control) (code : ControlCode) (q : r ≡ Ok code)
    (h : structure_size control + data_size control body ≤ n)
  where
    pub passthrough_asked : code ≡ StpPassthru → 136 + data_length body ≤ n
    passthrough_asked e = passthrough_lent control n body (sym (number_ok control r p code q) ∙ ap control_number e) h

    pub download_asked : code ≡ FirmwareDownload → 44 + buffer_length body ≤ n
    download_asked e = download_lent control n body (sym (number_ok control r p code q) ∙ ap control_number e) h

-- ---- what a call left

-- where it sees no disk
pub changed_by : (code : ℕ) (ad : Adapter) (store : Store) (body : List ℕ) (x : Changed) → leaves code ad body ≡ x → serves code ad store body ≡ changed store x
changed_by code ad store body x e = ap (changed store) e

-- where it changes no table
pub reported_by_lem : (code : ℕ) (ad : Adapter) (store : Store) (body : List ℕ) (r : Report) → report code body ≡ r → serves code ad store body ≡ changed store (reported ad r)
reported_by_lem code ad store body r e = ap (λ (x : Report). changed store (reported ad x)) e

-- where it changes no table and no stage, and where it changes no disk
pub passed_by : (code : ℕ) (ad : Adapter) (medium stage body : List ℕ) (p : Passed) → passes code medium body ≡ p
    → serves code ad (store_of medium stage) body ≡ serves p.code ad (store_of p.medium stage) p.body
passed_by code ad medium stage body p e = ap (λ (x : Passed). serves x.code ad (store_of x.medium stage) x.body) e

pub downloaded_by : (code : ℕ) (ad : Adapter) (medium stage body : List ℕ) (d : Downloaded) → downloads code ad stage body ≡ d
    → serves code ad (store_of medium stage) body ≡ serves d.code d.adapter (store_of medium d.stage) d.body
downloaded_by code ad medium stage body d e = ap (λ (x : Downloaded). serves x.code x.adapter (store_of medium x.stage) x.body) e
