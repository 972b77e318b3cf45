-- One request, by the effect of its code; and the points that a run reaches from where it starts. A state that 107 accepts goes on being accepted:
-- the number of the state, the medium and the stage is the same after a request as before it. Assumes nothing.
use mathlib.Core.Path.{◌≡◌, refl, sym, ◌∙◌, ap}
use mathlib.Core.Bool.{Bool, true, false}
use mathlib.Core.List.{List}
use Prim.Native.Nat.{ℕ, ◌≤◌}
use native.Mathlib.Omega.{arith}
use lib.Dec.{eqb, leb}
use lib.ListN.{length}
use borrow.Author.Tests.{eq-eqb, eqb-true}
use Rattle.laws.specs.Choice.{by_bool, both, both_left, both_right}
use Rattle.laws.specs.Runs.{ends, kept}
use Rattle.codes.specs.Codes.{firmware_download, set_phy_info, get_link_errors, stp_passthru}
use Rattle.adapter.specs.Adapter.{Adapter, medium_size}
use Rattle.passthrough.specs.Passthrough.{passthrough}
use Rattle.firmware.specs.Firmware.{stage_size, load_firmware}
use Rattle.set_phy_info.specs.SetPhyInfo.{set_info}
use Rattle.link_errors.specs.LinkErrors.{link_errors}
use Rattle.state.specs.State.{State, adapter_holds, state_holds}
use Rattle.service.proofs.Laws.{passthrough_lent}
use Rattle.service.specs.Serve.{Store, Served, changed, passed, downloaded, served}
use Rattle.dispatch.proofs.Laws.{number_state, number_medium, number_stage}
use Rattle.header.specs.Sent.{Request, form_of, control_of, body_of}
use Rattle.dispatch.specs.Request.{Point, Outcome, stage_number, state_number, buffer_number, point_number, untouched, handled}
use Rattle.claims.specs.Run.{exchange_of, step, entry_of}
use Rattle.claims.specs.LastWriter.{told_by}
use Rattle.claims.proofs.Steps.{level_kept}
use Rattle.claims.proofs.Ways.{Ready, served_by, reply_with, handled_by, told_number, told_refused, told_served}
use Rattle.claims.proofs.Moved.{Sized, Moved, moved_refl, moved_trans, sized_moved}
use Rattle.claims.proofs.Effect.{Effect, Does, no_effect, report_effect}
use Rattle.claims.proofs.PhyEffects.{set_effect, errors_effect}
use Rattle.claims.proofs.DiskEffect.{passthrough_effect}
use Rattle.claims.proofs.FirmwareEffect.{download_effect}

-- ---- one request

module _ (p : Point) (r : Request) where
  -- its effect, of what it left
  abbrev EffectOf : Outcome → Type 0
  EffectOf o = Effect p.state.adapter p.store (told_by (exchange_of r o)) o.point.state.adapter o.point.store

  -- of a control code, from what the code does
  done : (form_of r).size ≤ length r.buffer → (control : ℕ) → control_of r ≡ control → (x : Served)
      → Does p.state.adapter p.store control (body_of r) x → EffectOf (reply_with p r x)
  done long control e x d = rw (told_served p r x d.small long, e) d.effect

  served_effect : (form_of r).size ≤ length r.buffer → Sized p.state.adapter → Ready p.state.adapter p.store (control_of r) (body_of r)
      → EffectOf (reply_with p r (served p.state.adapter p.store (control_of r) (body_of r)))
  unfolding told_by
  served_effect long z k =
      let ad : Adapter = p.state.adapter in
      let store : Store = p.store in
      let body : List ℕ = body_of r in
      served_by ad store (control_of r) body (λ (x : Served). EffectOf (reply_with p r x))
      (λ e. done long set_phy_info e (changed store (set_info ad body)) (set_effect ad store body k.holds z))
      (λ e. done long get_link_errors e (changed store (link_errors ad body)) (errors_effect ad store body k.holds z))
      (λ e. done long stp_passthru e (passed ad store (passthrough ad store.medium body))
      (passthrough_effect ad store body k.disks (passthrough_lent (control_of r) (length body) body e k.room)))
      (λ e. done long firmware_download e (downloaded store (load_firmware ad store.stage body)) (download_effect ad store body k.holds k.stage))
      (λ n _ m _. report_effect ad _ store n m)

  pub request_effect : Sized p.state.adapter → EffectOf (handled p r)
  request_effect z =
      handled_by p r EffectOf
      (λ call h. no_effect p.state.adapter _ p.store (told_number p r call h))
      (λ code h k long. no_effect p.state.adapter _ p.store (told_refused p r code h k long))
      (λ _ long k. served_effect long z k)

-- ---- the number of the state, the medium and the stage

pub number_zero : (s : State) (medium stage : ℕ) → state_holds s ≡ true → medium ≡ medium_size s.adapter → stage ≡ stage_size → state_number s medium stage ≡ 0
unfolding state_number stage_number
number_zero s medium stage h e f = rw (h, eq-eqb (medium_size s.adapter) medium (sym e), eq-eqb stage stage_size f) refl

-- a request to a point that is refused leaves it
pub refused_stays : (p : Point) (r : Request) → eqb (point_number p) 0 ≡ false → handled p r ≡ untouched (point_number p) p r
unfolding handled buffer_number
refused_stays p r h = rw (h, h) refl

pub number_step : (p : Point) (r : Request) → Sized p.state.adapter → point_number (handled p r).point ≡ point_number p
unfolding state_holds
number_step p r z =
    by_bool (λ (b : Bool). eqb (point_number p) 0 ≡ b → point_number (handled p r).point ≡ point_number p)
    (λ e. let n : point_number p ≡ 0 = eqb-true (point_number p) 0 e in
    let h : state_holds p.state ≡ true = number_state p.state (length p.store.medium) (length p.store.stage) n in
    let f = request_effect p r z in
    let q : Point = (handled p r).point in
    let c = f.tables.moved.count in
    let m = f.store.size in
    let d = number_medium p.state (length p.store.medium) (length p.store.stage) n in
    let g : length q.store.stage ≡ stage_size = f.store.stage ∙ number_stage p.state (length p.store.medium) (length p.store.stage) n in
    let a : leb q.state.level.0 3 ≡ true = rw (level_kept p r) (both_left (leb p.state.level.0 3) (adapter_holds p.state.adapter) h) in
    let b : adapter_holds q.state.adapter ≡ true = f.tables.holds (both_right (leb p.state.level.0 3) (adapter_holds p.state.adapter) h) in
    number_zero q.state (length q.store.medium) (length q.store.stage) (both (leb q.state.level.0 3) (adapter_holds q.state.adapter) a b) (omega arith) g ∙ sym n)
    (λ e. ap (λ (o : Outcome). point_number o.point) (refused_stays p r e))
    (eqb (point_number p) 0) refl

-- ---- the points of a run

-- what no request changes is as it was at the start
pub record Reached (start p : Point) : Type 0 where
  pub level : p.state.level ≡ start.state.level
  pub moved : Moved start.state.adapter p.state.adapter
  pub size : length p.store.medium ≡ length start.store.medium
  pub number : point_number p ≡ point_number start

module _ (start : Point) (z : Sized start.state.adapter) where
  pub sized_reached : (p : Point) → Reached start p → Sized p.state.adapter
  sized_reached p i = sized_moved start.state.adapter p.state.adapter z i.moved

  pub reached_step : (p : Point) (r : Request) → Reached start p → Reached start (handled p r).point
  reached_step p r i =
      let k : Sized p.state.adapter = sized_reached p i in
      let f = request_effect p r k in
      record {
        level = level_kept p r ∙ i.level;
        moved = moved_trans start.state.adapter p.state.adapter (handled p r).point.state.adapter i.moved f.tables.moved;
        size = f.store.size ∙ i.size;
        number = number_step p r k ∙ i.number;
      }

  pub reached_start : Reached start start
  reached_start = record { level = refl; moved = moved_refl start.state.adapter; size = refl; number = refl }

  pub reached : (requests : List Request) → Reached start (ends step entry_of start requests)
  reached requests = kept step entry_of (Reached start) reached_step start requests reached_start
