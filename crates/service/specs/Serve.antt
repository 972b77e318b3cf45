-- What a request does once its level is granted: the code's own checks and its effect (document 01, "Request"; W-204, W-207). Nothing here sees a
-- level or a header. Assumes nothing.
use Rattle.std.specs.Prelude.{cond, List, ℕ, eqb}
use Rattle.codes.specs.Codes.{get_driver_info, get_cntlr_config, get_cntlr_status, firmware_download, get_phy_info, set_phy_info, get_link_errors, stp_passthru, get_sata_signature, get_scsi_address, get_device_address, get_connector_info, bad_control_code}
use Rattle.adapter.specs.Adapter.{Adapter}
use Rattle.adapter.specs.Changed.{Changed}
use Rattle.reports.specs.Report.{Report, report}
use Rattle.reports.specs.DriverInfo.{driver_info}
use Rattle.reports.specs.Controller.{controller_config, controller_status}
use Rattle.reports.specs.ConnectorInfo.{connector_info}
use Rattle.reports.specs.PhyInfo.{phy_info}
use Rattle.lookups.specs.Signature.{sata_signature}
use Rattle.lookups.specs.ScsiAddress.{scsi_address}
use Rattle.lookups.specs.DeviceAddress.{device_address}
use Rattle.set_phy_info.specs.SetPhyInfo.{set_info}
use Rattle.link_errors.specs.LinkErrors.{link_errors}
use Rattle.passthrough.specs.Passthrough.{Passed, passthrough}
use Rattle.firmware.specs.Firmware.{Downloaded, load_firmware}

-- what is lent beside the state and written: "the medium", all disks, and "a lent stage" for firmware (W-207)
pub record Store : Type 0 where
  pub medium : List ℕ
  pub stage : List ℕ

abbrev pub store_of : List ℕ → List ℕ → Store
store_of medium stage = record { medium = medium; stage = stage }

-- the same with other disks, and with another stage
abbrev pub with_medium : Store → List ℕ → Store
with_medium store medium = store_of medium store.stage

abbrev pub with_stage : Store → List ℕ → Store
with_stage store stage = store_of store.medium stage

-- the return code, the tables and counters, what is stored beside them and the body that a request leaves
pub record Served : Type 0 where
  pub code : ℕ
  pub adapter : Adapter
  pub store : Store
  pub body : List ℕ

-- the four together
abbrev pub serves : ℕ → Adapter → Store → List ℕ → Served
serves code ad store body = record { code = code; adapter = ad; store = store; body = body }

-- a request that only reports changes no table
abbrev pub reported : Adapter → Report → Changed
reported ad r = record { code = r.code; adapter = ad; body = r.body }

-- one that sees no disk and no stage
abbrev pub changed : Store → Changed → Served
changed store c = serves c.code c.adapter store c.body

-- one that changes no table
abbrev pub passed : Adapter → Store → Passed → Served
passed ad store p = serves p.code ad (with_medium store p.medium) p.body

-- one that changes no disk
abbrev pub downloaded : Store → Downloaded → Served
downloaded store d = serves d.code d.adapter (with_stage store d.stage) d.body

-- codes 1, 2, 3, 20, 26, 27, 28 and 30; no other comes here: `served` takes 4, 21, 22 and 25 before, and the header's checks refuse the rest
unfoldable pub report_of : Adapter → ℕ → List ℕ → Report
report_of ad control body =
    cond (eqb control get_driver_info) (driver_info ad.info body)
    (cond (eqb control get_cntlr_config) (controller_config ad.controller body)
    (cond (eqb control get_cntlr_status) (controller_status ad.status body)
    (cond (eqb control get_phy_info) (phy_info ad.phys ad.phy_count body)
    (cond (eqb control get_sata_signature) (sata_signature ad body)
    (cond (eqb control get_scsi_address) (scsi_address ad.rows ad.row_count body)
    (cond (eqb control get_device_address) (device_address ad.rows ad.row_count body)
    (cond (eqb control get_connector_info) (connector_info ad.connectors ad.phy_count body)
    (report bad_control_code body))))))))

-- every code
unfoldable pub served : Adapter → Store → ℕ → List ℕ → Served
served ad store control body =
    cond (eqb control set_phy_info) (changed store (set_info ad body))
    (cond (eqb control get_link_errors) (changed store (link_errors ad body))
    (cond (eqb control stp_passthru) (passed ad store (passthrough ad store.medium body))
    (cond (eqb control firmware_download) (downloaded store (load_firmware ad store.stage body))
    (changed store (reported ad (report_of ad control body))))))
