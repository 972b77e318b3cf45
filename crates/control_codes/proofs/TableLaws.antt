-- What the control codes' table says: the room of a structure, and the needs. Assumes nothing.
use mathlib.Core.Path.{◌≡◌, refl}
use mathlib.Core.Bool.{Bool, false, cond}
use mathlib.Core.List.{List}
use Prim.Native.Nat.{ℕ, ◌<◌, ◌≤◌}
use native.Mathlib.Nat.{le_trans}
use native.Mathlib.Omega.{arith}
use lib.Dec.{eqb}
use lib.ListN.{get_or}
use Rattle.laws.specs.Choice.{by_bool, either}
use Rattle.codes.specs.Codes.{get_driver_info, get_cntlr_config, get_cntlr_status, firmware_download, get_phy_info, set_phy_info, get_link_errors, stp_passthru, get_sata_signature, get_scsi_address, get_device_address, get_connector_info, reset_place, link_error_reset_counts}
use Rattle.level.specs.declared.Level.{Level}
use Rattle.level.specs.Text.{restricted, limited, full}
use Rattle.level.proofs.BoundLaws.{need_bound, write_need}
use Rattle.stp.specs.Body.{command}
use Rattle.control_codes.specs.Table.{structure_size, link_errors_need, need}

-- ---- rooms

-- the structure of a code that was tested
pub room : (control code k n : ℕ) → control ≡ code → structure_size control ≤ n → structure_size code ≡ k → k ≤ n
room control code k n e h s = rw (← s, ← e) h

-- a part of it: of code 22, and of codes 25 and 4, whose structure is their fixed part
pub errors_room : (control k n : ℕ) → control ≡ get_link_errors → structure_size control ≤ n → k ≤ 20 → k ≤ n
unfolding structure_size
errors_room control k n e h l = le_trans l (room control get_link_errors 20 n e h refl)

pub passthrough_room : (control k n : ℕ) → control ≡ stp_passthru → structure_size control ≤ n → k ≤ 136 → k ≤ n
unfolding structure_size
passthrough_room control k n e h l = le_trans l (room control stp_passthru 136 n e h refl)

pub download_room : (control k n : ℕ) → control ≡ firmware_download → structure_size control ≤ n → k ≤ 44 → k ≤ n
unfolding structure_size
download_room control k n e h l = le_trans l (room control firmware_download 44 n e h refl)

-- ---- needs

-- no need is above Full
pub need_full : (control : ℕ) (body : List ℕ) → (need control body).0 ≤ full.0
unfolding need link_errors_need
need_full control body =
    either Within (eqb control get_driver_info) (omega arith)
    (either Within (eqb control get_cntlr_config) (omega arith)
    (either Within (eqb control get_cntlr_status) (omega arith)
    (either Within (eqb control firmware_download) (omega arith)
    (either Within (eqb control get_phy_info) (omega arith)
    (either Within (eqb control set_phy_info) (omega arith)
    (either Within (eqb control get_link_errors) (either Within (eqb (get_or body reset_place 0) link_error_reset_counts) (omega arith) (omega arith))
    (either Within (eqb control stp_passthru) (need_bound (command body))
    (either Within (eqb control get_sata_signature) (omega arith)
    (either Within (eqb control get_scsi_address) (omega arith)
    (either Within (eqb control get_device_address) (omega arith)
    (either Within (eqb control get_connector_info) (omega arith) (omega arith))))))))))))
  where
    Within : Level → Type 0
    Within l = l.0 ≤ full.0

-- what a request must not ask if it is to change nothing: a phy set, counters cleared, a disk written, firmware downloaded
pub record NoWrite (control : ℕ) (body : List ℕ) : Type 0 where
  pub set : control ≡ set_phy_info → ⊥
  pub cleared : control ≡ get_link_errors → eqb (get_or body reset_place 0) link_error_reset_counts ≡ false
  pub written : control ≡ stp_passthru → command body ≡ 0x30 → ⊥
  pub downloaded : control ≡ firmware_download → ⊥

-- a need below Full, of another code than 4, is that of such a request
pub below_full_lem : (control : ℕ) (body : List ℕ) → (need control body).0 < full.0 → (control ≡ firmware_download → ⊥) → NoWrite control body
unfolding need link_errors_need
below_full_lem control body h d =
    record {
      set = λ e. let k : 3 < 3 = rw e at h in omega arith;
      cleared = λ e.
          by_bool (λ (b : Bool). (cond b full restricted).0 < 3 → b ≡ false) (λ l. absurd (omega arith)) (λ _. refl) (eqb (get_or body reset_place 0) link_error_reset_counts)
          (rw e at h);
      written = λ e c. let k : 3 < 3 = rw (e, write_need (command body) c) at h in omega arith;
      downloaded = d;
    }

-- the need of a code 4
pub download_need : (control : ℕ) (body : List ℕ) → control ≡ firmware_download → need control body ≡ limited
unfolding need
download_need control body e = rw e refl
