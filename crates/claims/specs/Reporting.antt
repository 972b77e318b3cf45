-- The codes that report (W-204): "One statement over codes 1, 2, 3, 20, 22, 26, 27, 28 and 30: none alters the state or the medium, but for the
-- reset of W-202", nor the stage of W-207. It is said of the calls, of every state, medium, stage and request, under either header and at every level, refusals included. Assumes
-- nothing.
use Rattle.std.specs.Prelude.{◌≡◌, Bool, true, cond, ◌&&◌, List, [], ◌∷◌, ◌++◌, ℕ, eqb, get_or}
use Rattle.codes.specs.Codes.{get_driver_info, get_cntlr_config, get_cntlr_status, firmware_download, get_phy_info, set_phy_info, get_link_errors, stp_passthru, get_sata_signature, get_scsi_address, get_device_address, get_connector_info, reset_place, link_error_reset_counts}
use Rattle.level.specs.Need.{among}
use Rattle.phy.specs.Change.{cleared}
use Rattle.adapter.specs.Adapter.{phy_in, with_phy}
use Rattle.state.specs.State.{state_with}
use Rattle.control_codes.specs.Table.{known}
use Rattle.header.specs.Sent.{Request, control_of}
use Rattle.dispatch.specs.Request.{Point, point, handled}
use Rattle.claims.specs.Run.{exchange_of}
use Rattle.claims.specs.LastWriter.{Told, told_by}

-- the codes: another one that reports is a line more
abbrev pub reporting : List ℕ
reporting =
    get_driver_info
    ∷ get_cntlr_config
    ∷ get_cntlr_status
    ∷ get_phy_info
    ∷ get_link_errors
    ∷ get_sata_signature
    ∷ get_scsi_address
    ∷ get_device_address
    ∷ get_connector_info
    ∷ []

-- those that are served and do more than report
abbrev pub altering : List ℕ
altering = firmware_download ∷ set_phy_info ∷ stp_passthru ∷ []

-- "the reset of W-202": a granted 22 with reset byte 1
unfoldable pub resets : Told → Bool
resets t = t.granted && (eqb t.control get_link_errors && eqb (get_or t.body reset_place 0) link_error_reset_counts)

-- the same state, medium and stage, with the counters of phy n at 0
abbrev pub counters_cleared : Point → ℕ → Point
counters_cleared p n =
    point (state_with p.state.level (with_phy p.state.adapter n (cleared (phy_in p.state.adapter n)))) p.store

-- state, medium and stage as before, but for the counters of the phy that such a request names
abbrev pub left_by : Point → Told → Point
left_by p t = cond (resets t) (counters_cleared p (get_or t.body 0 0)) p

pub record Reporting : Type 0 where
  -- no code that is served is forgotten
  pub sorted : (control : ℕ) → known control ≡ true → among control (reporting ++ altering) ≡ true
  -- "none alters the state or the medium, but for the reset of W-202"
  pub unaltered : (p : Point) (r : Request) → among (control_of r) reporting ≡ true → (handled p r).point ≡ left_by p (told_by (exchange_of r (handled p r)))
