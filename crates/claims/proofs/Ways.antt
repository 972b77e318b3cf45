-- The ways that a request can go, so that a claim shows each of them once, and what its exchange tells. Assumes nothing.
use mathlib.Core.Path.{◌≡◌, refl}
use mathlib.Core.Bool.{true, false}
use mathlib.Core.List.{List, ◌++◌}
use Prim.Native.Nat.{ℕ, ◌+◌, ◌<◌, ◌≤◌}
use native.Mathlib.Omega.{arith}
use lib.Dec.{eqb, leb}
use lib.ListN.{length, take}
use borrow.Author.Tests.{ne_eqb, eqb-true, eqb-false}
use Rattle.laws.specs.Choice.{either_by, both_right}
use Rattle.codes.specs.Codes.{firmware_download, set_phy_info, get_link_errors, stp_passthru, success, write_attempted}
use Rattle.level.specs.declared.Level.{Level}
use Rattle.adapter.specs.Adapter.{Adapter, medium_size}
use Rattle.set_phy_info.specs.SetPhyInfo.{set_info}
use Rattle.link_errors.specs.LinkErrors.{link_errors}
use Rattle.passthrough.specs.Passthrough.{passthrough}
use Rattle.firmware.specs.Firmware.{stage_size, load_firmware}
use Rattle.state.specs.State.{State, adapter_holds, state_holds}
use Rattle.control_codes.specs.Table.{structure_size, data_size}
use Rattle.header.proofs.FormLaws.{code_shown, header_kept, body_shown_lem}
use Rattle.header.proofs.SentLaws.{form_room, checks_small, checks_room}
use Rattle.service.specs.Serve.{Store, Served, reported, changed, passed, downloaded, report_of, served}
use Rattle.dispatch.proofs.Laws.{number_state, number_medium, number_stage, heard_number, heard_buffer}
use Rattle.header.specs.Sent.{Request, form_of, control_of, body_of, checks_code}
use Rattle.dispatch.specs.Request.{Point, Outcome, point_number, call_number, untouched, in_buffer, refused_request, answered, replied, answered_at, handled}
use Rattle.claims.specs.Run.{exchange_of}
use Rattle.claims.specs.LastWriter.{granted, Told, told_by}

-- ---- a request that passed the level check

pub served_by : (ad : Adapter) (store : Store) (control : ℕ) (body : List ℕ) (P : Served → Type 0)
    → (control ≡ set_phy_info → P (changed store (set_info ad body)))
    → (control ≡ get_link_errors → P (changed store (link_errors ad body)))
    → (control ≡ stp_passthru → P (passed ad store (passthrough ad store.medium body)))
    → (control ≡ firmware_download → P (downloaded store (load_firmware ad store.stage body)))
    → ((control ≡ set_phy_info → ⊥) → (control ≡ get_link_errors → ⊥) → (control ≡ stp_passthru → ⊥) → (control ≡ firmware_download → ⊥) → P (changed store (reported ad (report_of ad control body))))
    → P (served ad store control body)
unfolding served
served_by ad store control body P set errors pass load report =
    either_by P (eqb control set_phy_info) (λ h. set (eqb-true control set_phy_info h))
    (λ n. either_by P (eqb control get_link_errors) (λ h. errors (eqb-true control get_link_errors h))
    (λ l. either_by P (eqb control stp_passthru) (λ h. pass (eqb-true control stp_passthru h))
    (λ m. either_by P (eqb control firmware_download) (λ h. load (eqb-true control firmware_download h))
    (λ k. report (eqb-false control set_phy_info n) (eqb-false control get_link_errors l) (eqb-false control stp_passthru m) (eqb-false control firmware_download k)))))

-- a return code of a code's own checks: small, and not that of a denied request
abbrev pub Own : ℕ → Type 0
Own code = (code ≤ 2014) × (code ≡ write_attempted → ⊥)

-- what is known of it
pub record Ready (ad : Adapter) (store : Store) (control : ℕ) (body : List ℕ) : Type 0 where
  pub holds : adapter_holds ad ≡ true
  pub disks : length store.medium ≡ medium_size ad
  pub stage : length store.stage ≡ stage_size
  pub room : structure_size control + data_size control body ≤ length body

-- ---- a request

pub tables_hold_lem : (s : State) → state_holds s ≡ true → adapter_holds s.adapter ≡ true
unfolding state_holds
tables_hold_lem s = both_right (leb s.level.0 3) (adapter_holds s.adapter)

-- what a request leaves whose code leaves this
abbrev pub reply_with : Point → Request → Served → Outcome
reply_with p r x = replied (form_of r) p.state.level (in_buffer r x)

pub handled_by : (p : Point) (r : Request) (P : Outcome → Type 0)
    → ((call : ℕ) → 0 < call → P (untouched call p r))
    → ((code : ℕ) → 0 < code → code ≤ 4 → (form_of r).size ≤ length r.buffer → P (replied (form_of r) p.state.level (refused_request code p.state.adapter p.store r)))
    → (checks_code p.state.level r ≡ success → (form_of r).size ≤ length r.buffer → Ready p.state.adapter p.store (control_of r) (body_of r)
    → P (reply_with p r (served p.state.adapter p.store (control_of r) (body_of r))))
    → P (handled p r)
unfolding handled answered_at answered
handled_by p r P number refuse serve =
    let call : ℕ = call_number p r in
    let level : Level = p.state.level in
    either_by P (eqb call 0)
    (λ z. let e : call ≡ 0 = eqb-true call 0 z in
    let n : point_number p ≡ 0 = heard_number (form_of r) (point_number p) (length r.buffer) call refl e in
    let long : (form_of r).size ≤ length r.buffer = heard_buffer (form_of r) (point_number p) (length r.buffer) call refl e in
    either_by (λ x. P (replied (form_of r) level x)) (eqb (checks_code level r) success)
    (λ y. let passes : checks_code level r ≡ success = eqb-true (checks_code level r) success y in
    serve passes long (record {
      holds = tables_hold_lem p.state (number_state p.state (length p.store.medium) (length p.store.stage) n);
      disks = number_medium p.state (length p.store.medium) (length p.store.stage) n;
      stage = number_stage p.state (length p.store.medium) (length p.store.stage) n;
      room = checks_room level r passes;
    }))
    (λ y. let c : (checks_code level r ≡ 0 → ⊥) = eqb-false (checks_code level r) success y in
    refuse (checks_code level r) (omega arith) (checks_small level r) long))
    (λ z. let n : (call ≡ 0 → ⊥) = eqb-false call 0 z in
    number call (omega arith))

-- ---- what its exchange tells

-- of a request that was served: its return code, and the bodies
abbrev pub told_of : ℕ → List ℕ → Served → Told
told_of control body x = record { granted = eqb x.code success; control = control; body = body; reply = x.body }

module _ (p : Point) (r : Request) where
  -- a call that gave a number granted nothing
  pub told_number : (call : ℕ) → 0 < call → (told_by (exchange_of r (untouched call p r))).granted ≡ false
  unfolding told_by granted
  told_number call h = rw (ne_eqb call 0 (λ e. omega arith)) refl

  -- nor did a return code of the checks up to the level
  pub told_refused : (code : ℕ) → 0 < code → code ≤ 4 → (form_of r).size ≤ length r.buffer
      → (told_by (exchange_of r (replied (form_of r) p.state.level (refused_request code p.state.adapter p.store r)))).granted ≡ false
  unfolding told_by granted
  told_refused code z k h = rw (code_shown (form_of r) (form_room r) r.buffer code h (omega arith)) (ne_eqb code success (λ e. omega arith))

  -- what was served tells its return code and the bodies
  pub told_served : (x : Served) → x.code ≤ 2014 → (form_of r).size ≤ length r.buffer
      → told_by (exchange_of r (reply_with p r x)) ≡ told_of (control_of r) (body_of r) x
  unfolding told_by granted
  told_served x k h =
      rw (
        code_shown (form_of r) (form_room r) (take (form_of r).size r.buffer ++ x.body) x.code (header_kept (form_of r) (form_room r) r.buffer x.body h) (omega arith),
        body_shown_lem (form_of r) (form_room r) r.buffer x.body h x.code,
      )
      refl
