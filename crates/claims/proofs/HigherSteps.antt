-- One request at two levels: one that is not denied does the same at a higher level. Assumes nothing.
use mathlib.Core.Path.{◌≡◌, refl}
use mathlib.Core.Bool.{false}
use Prim.Native.Nat.{ℕ, ◌≤◌}
use native.Mathlib.Omega.{arith}
use lib.Dec.{eqb}
use borrow.Author.Tests.{le-leb}
use Rattle.level.specs.declared.Level.{Level}
use Rattle.adapter.specs.Adapter.{Adapter}
use Rattle.state.specs.State.{state_with, state_holds}
use Rattle.service.specs.Serve.{Store}
use Rattle.header.specs.Sent.{Request, refused_by_level}
use Rattle.dispatch.specs.Request.{Point, point, Outcome, state_number, call_number, answered_at, handled}
use Rattle.header.proofs.SentLaws.{checks_higher}
use Rattle.claims.specs.Run.{denied}
use Rattle.claims.proofs.Steps.{alike}

-- two that differ in the level alone
pub record Same (o p : Outcome) : Type 0 where
  pub call : o.call ≡ p.call
  pub adapter : o.point.state.adapter ≡ p.point.state.adapter
  pub store : o.point.store ≡ p.point.store
  pub buffer : o.buffer ≡ p.buffer

-- the number of the state, the medium and the stage does not go by the level
pub number_same : (ad : Adapter) (l m : Level) → l.0 ≤ m.0 → m.0 ≤ 3 → (n k : ℕ) → state_number (state_with l ad) n k ≡ state_number (state_with m ad) n k
unfolding state_number state_holds
number_same ad l m h b n k = rw (le-leb l.0 3 (omega arith), le-leb m.0 3 b) refl

module _ (ad : Adapter) (store : Store) (r : Request) (l m : Level) (h : l.0 ≤ m.0) (b : m.0 ≤ 3) where
  abbrev low : Point
  low = point (state_with l ad) store

  abbrev high : Point
  high = point (state_with m ad) store

  -- the checks before the level came out well
  served_same : refused_by_level l r ≡ false → Same (answered_at low r) (answered_at high r)
  unfolding answered_at
  served_same a = rw (checks_higher l m r h a) (record { call = refl; adapter = refl; store = refl; buffer = refl })

  same_levels : denied low r ≡ false → Same (handled low r) (handled high r)
  unfolding denied handled
  same_levels n =
      rw (← number_same ad l m h b)
      (alike Same (eqb (call_number low r) 0) (λ a. served_same (rw a at n)) (record { call = refl; adapter = refl; store = refl; buffer = refl }))

-- the step of two points that differ in the level alone
pub same_step : (p q : Point) (r : Request) → p.state.adapter ≡ q.state.adapter → p.store ≡ q.store → p.state.level.0 ≤ q.state.level.0
    → q.state.level.0 ≤ 3 → denied p r ≡ false → Same (handled p r) (handled q r)
same_step p q r a e h k d =
    let f : point (state_with q.state.level p.state.adapter) p.store ≡ q =
    rw (a, e) refl in
    rw (← f) (same_levels p.state.adapter p.store r p.state.level q.state.level h k d)
