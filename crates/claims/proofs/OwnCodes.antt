-- The return codes of the control codes' own checks: none is 4, so that a reply with 4 is a denied request's. Assumes nothing.
use mathlib.Core.List.{List}
use Prim.Native.Nat.{ℕ}
use native.Mathlib.Omega.{arith}
use lib.Dec.{eqb, ltb}
use lib.ListN.{get_or}
use Rattle.laws.specs.Splice.{part}
use Rattle.laws.specs.Choice.{either}
use Rattle.codes.specs.Codes.{get_driver_info, get_cntlr_config, get_cntlr_status, get_phy_info, get_sata_signature, get_scsi_address, get_device_address, get_connector_info}
use Rattle.phy.specs.Entity.{is_sata}
use Rattle.rows.specs.Row.{sas_index, os_index}
use Rattle.adapter.specs.Adapter.{Adapter, phy_in}
use Rattle.adapter.specs.Changed.{Changed}
use Rattle.disk.specs.Disk.{acted, performed, Performed, ata_command, answer_of}
use Rattle.passthrough.specs.Passthrough.{Passed, on_disk, passthrough}
use Rattle.reports.specs.Report.{Report}
use Rattle.reports.specs.DriverInfo.{driver_info}
use Rattle.reports.specs.Controller.{controller_config, controller_status}
use Rattle.reports.specs.ConnectorInfo.{connector_info}
use Rattle.reports.specs.PhyInfo.{phy_info}
use Rattle.lookups.specs.Signature.{signature_of, sata_signature}
use Rattle.lookups.specs.Conversion.{converted}
use Rattle.lookups.specs.ScsiAddress.{scsi_address}
use Rattle.lookups.specs.DeviceAddress.{device_address}
use Rattle.firmware.specs.Firmware.{Downloaded, validated, committed}
use Rattle.firmware.proofs.Laws.{download_by}
use Rattle.service.specs.Serve.{Store, Served, report_of, served}
use Rattle.claims.proofs.Ways.{Own, served_by}
use Rattle.claims.proofs.PhyEffects.{set_by, errors_by}
use Rattle.claims.proofs.DiskEffect.{passed_by}

success_own : Own 0
success_own = (omega arith, λ e. omega arith)

-- ---- codes that report

abbrev OwnReport : Report → Type 0
OwnReport x = Own x.code

signature_own : (ad : Adapter) (body : List ℕ) → OwnReport (sata_signature ad body)
unfolding sata_signature signature_of
signature_own ad body =
    either OwnReport (ltb (get_or body 0 0) ad.phy_count)
    (either OwnReport (is_sata (phy_in ad (get_or body 0 0)))
    (either OwnReport (eqb (phy_in ad (get_or body 0 0)).held 1) success_own (omega arith, λ e. omega arith)) (omega arith, λ e. omega arith))
    (omega arith, λ e. omega arith)

report_own : (ad : Adapter) (control : ℕ) (body : List ℕ) → OwnReport (report_of ad control body)
unfolding report_of driver_info controller_config controller_status phy_info scsi_address device_address converted connector_info
report_own ad control body =
    either OwnReport (eqb control get_driver_info) success_own
    (either OwnReport (eqb control get_cntlr_config) success_own
    (either OwnReport (eqb control get_cntlr_status) success_own
    (either OwnReport (eqb control get_phy_info) success_own
    (either OwnReport (eqb control get_sata_signature) (signature_own ad body)
    (either OwnReport (eqb control get_scsi_address)
    (either OwnReport (ltb (sas_index ad.rows ad.row_count (part body 0 16)) ad.row_count) success_own (omega arith, λ e. omega arith))
    (either OwnReport (eqb control get_device_address)
    (either OwnReport (ltb (os_index ad.rows ad.row_count (part body 0 4)) ad.row_count) success_own (omega arith, λ e. omega arith))
    (either OwnReport (eqb control get_connector_info) success_own (omega arith, λ e. omega arith))))))))

-- ---- code 25

disk_own : (disk body : List ℕ) → Own (performed disk body).code
unfolding performed acted
disk_own disk body =
    either OwnPerformed (ltb (ata_command body).data_length (answer_of body).moved) (omega arith, λ e. omega arith)
    (either OwnPerformed (eqb (answer_of body).status 0x51) success_own
    (either OwnPerformed (eqb (ata_command body).command 0x20) success_own
    (either OwnPerformed (eqb (ata_command body).command 0xec) success_own
    (either OwnPerformed (eqb (ata_command body).command 0x30) success_own success_own))))
  where
    OwnPerformed : Performed → Type 0
    OwnPerformed s = Own s.code

passed_own : (ad : Adapter) (medium body : List ℕ) → Own (passthrough ad medium body).code
unfolding on_disk
passed_own ad medium body = passed_by ad medium body (λ (p : Passed). Own p.code) (λ code _ own. own) (λ _ _. disk_own _ body)

-- ---- every code

pub served_own : (ad : Adapter) (store : Store) (control : ℕ) (body : List ℕ) → Own (served ad store control body).code
unfolding validated committed
served_own ad store control body =
    served_by ad store control body (λ (x : Served). Own x.code)
    (λ _. set_by ad body (λ (c : Changed). Own c.code) (λ code _ own. own) (λ _ _. success_own))
    (λ _. errors_by ad body (λ (c : Changed). Own c.code) (λ code _ own. own) (λ _ _. success_own) (λ _. success_own))
    (λ _. passed_own ad store.medium body)
    (λ _. download_by ad store.stage body (λ (d : Downloaded). Own d.code) (λ code o. o.1) (λ _ _ _. success_own) (λ _ _ _. success_own))
    (λ _ _ _ _. report_own ad control body)
