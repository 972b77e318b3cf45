-- A request of a level below Limited, or below Full and no code 4, leaves the point as it was. Assumes nothing.
use mathlib.Core.Path.{◌≡◌, refl, ap, ap₂}
use mathlib.Core.Bool.{true, not, false≢true}
use mathlib.Core.List.{List}
use Prim.Native.Nat.{ℕ, ◌<◌, ◌≤◌}
use native.Mathlib.Omega.{arith}
use lib.ListN.{length}
use lib.Dec.{eqb}
use borrow.Author.Tests.{eq-eqb}
use Rattle.laws.specs.Choice.{both_left, both_right}
use Rattle.codes.specs.Codes.{firmware_download}
use Rattle.level.specs.declared.Level.{Level}
use Rattle.level.specs.Text.{limited, full}
use Rattle.adapter.specs.Adapter.{Adapter}
use Rattle.state.specs.State.{state_with}
use Rattle.control_codes.specs.Table.{need}
use Rattle.header.specs.Sent.{Request, control_of, body_of}
use Rattle.control_codes.proofs.TableLaws.{NoWrite, below_full_lem, download_need}
use Rattle.header.proofs.SentLaws.{checks_need}
use Rattle.service.specs.Serve.{Store, with_medium, Served, served}
use Rattle.service.proofs.Laws.{passthrough_lent}
use Rattle.dispatch.specs.Request.{Point, point, Outcome}
use Rattle.claims.specs.Run.{step}
use Rattle.claims.specs.ReadOnly.{under_first, first_but_firmware}
use Rattle.claims.proofs.Ways.{Ready, served_by, handled_by}
use Rattle.claims.proofs.PhyEffects.{errors_read}
use Rattle.claims.proofs.DiskEffect.{passthrough_read}
use Rattle.claims.proofs.FirstHeader.{first_held}

-- ---- a request that was served

module _ (ad : Adapter) (store : Store) where
  Stays : Served → Type 0
  Stays x = (x.adapter ≡ ad) × (x.store ≡ store)

  -- one that asks for no write changes no table and no disk
  served_stays : (control : ℕ) (body : List ℕ) → NoWrite control body → Ready ad store control body → Stays (served ad store control body)
  unfolding Stays
  served_stays control body u k =
      served_by ad store control body Stays
      (λ e. absurd (u.set e))
      (λ e. (errors_read ad body (u.cleared e), refl))
      (λ e. (refl, ap (with_medium store) (passthrough_read ad store body k.disks (passthrough_lent control (length body) body e k.room) (u.written e))))
      (λ e. absurd (u.downloaded e))
      (λ _ _ _ _. (refl, refl))

-- ---- a request below a level

-- a level below another
abbrev pub Below : Level → Point → Type 0
Below l p = p.state.level.0 < l.0

-- below Full, and no code 4 that the level grants
request_stays : (p : Point) (r : Request) → Below full p → under_first r ≡ true
    → ((need (control_of r) (body_of r)).0 ≤ p.state.level.0 → control_of r ≡ firmware_download → ⊥) → step p r ≡ p
unfolding Stays
request_stays p r low first idle =
    handled_by p r (λ (o : Outcome). o.point ≡ p) (λ _ _. refl) (λ _ _ _ _. refl)
    (λ passes _ k.
    let level : Level = p.state.level in
    let held : (need (control_of r) (body_of r)).0 ≤ level.0 = rw (first_held r.kind level first) at (checks_need level r passes) in
    let s = served_stays p.state.adapter p.store (control_of r) (body_of r) (below_full_lem (control_of r) (body_of r) (omega arith) (idle held)) k in
    ap₂ (λ (ad : Adapter) (store : Store). point (state_with level ad) store) s.0 s.1)

pub limited_stays : (p : Point) (r : Request) → Below limited p → under_first r ≡ true → step p r ≡ p
limited_stays p r low first =
    request_stays p r (omega arith) first
    (λ held e. let n : (need (control_of r) (body_of r)).0 ≡ 2 = ap (λ (l : Level). l.0) (download_need (control_of r) (body_of r) e) in omega arith)

pub full_stays : (p : Point) (r : Request) → Below full p → first_but_firmware r ≡ true → step p r ≡ p
full_stays p r low idle =
    request_stays p r low (both_left (under_first r) (not (eqb (control_of r) firmware_download)) idle)
    (λ _ e. false≢true (rw (eq-eqb (control_of r) firmware_download e) at (both_right (under_first r) (not (eqb (control_of r) firmware_download)) idle)))
