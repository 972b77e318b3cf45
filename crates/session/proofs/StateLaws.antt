-- The state of a run: it begins with the one that the opening leaves, and the number of state, medium and stage stays what it was. Assumes nothing.
use mathlib.Core.Path.{◌≡◌, refl, sym, ◌∙◌, ap}
use mathlib.Core.Bool.{Bool}
use mathlib.Core.List.{List}
use Prim.Native.Nat.{ℕ, ◌/◌}
use lib.ListN.{length, take, drop}
use Rattle.laws.specs.Choice.{by_bool}
use Rattle.state.specs.State.{state_size, state_of, state_holds}
use Rattle.state.specs.Open.{Opened, OpenCall}
use Rattle.header.specs.Sent.{Request}
use Rattle.service.specs.Serve.{store_of}
use Rattle.dispatch.specs.Request.{Point, point, Outcome, state_number, point_number, handled}
use Rattle.claims.proofs.Moved.{sized_lent}
use Rattle.claims.proofs.Reached.{refused_stays, number_step}
use Rattle.frames.specs.declared.Framing.{Framing}
use Rattle.frames.specs.Frames.{request_in}
use Rattle.session.specs.Session.{Ran, session_run, ran_from, Recorded, records, after_framed, after_first, after_at}

-- ---- the opening

pub opened_ran : (f : Framing) (text file medium stage state after : List ℕ) (call : ℕ) → OpenCall text file medium state call after → length state ≡ state_size
    → (session lines : List ℕ) (r : Ran) → r ≡ ran_from f (length lines / 8) (point (state_of after) (store_of medium stage)) session lines
    → r ≡ session_run f text file (store_of medium stage) session lines
unfolding session_run ran_from
opened_ran f text file medium stage state after call o e session lines r p = rw (ap (λ (x : Opened). x.state) (o.whole e)) at p

-- ---- the number of state, medium and stage

-- it stays; a state that 107 refuses is not touched
number_kept : (t medium stage : List ℕ) (r : Request) → length t ≡ state_size
    → point_number (handled (point (state_of t) (store_of medium stage)) r).point ≡ point_number (point (state_of t) (store_of medium stage))
unfolding state_number
number_kept t medium stage r e =
    let p : Point = point (state_of t) (store_of medium stage) in
    by_bool (λ (b : Bool). state_holds (state_of t) ≡ b → point_number (handled p r).point ≡ point_number p)
    (λ h. number_step p r (sized_lent t e h))
    (λ h. ap (λ (o : Outcome). point_number o.point) (refused_stays p r (rw h refl)))
    (state_holds (state_of t)) refl

pub number_next : (f : Framing) (size at line : ℕ) (t t' medium medium' stage stage' session session' lines lines' : List ℕ) (number : ℕ)
    → records (point (state_of t') (store_of medium' stage')) session' lines' ≡ after_at f size at line (point (state_of t) (store_of medium stage)) session lines
    → length t ≡ state_size → number ≡ state_number (state_of t) (length medium) (length stage) → number ≡ state_number (state_of t') (length medium') (length stage')
unfolding after_at after_first after_framed
number_next f size at line t t' medium medium' stage stage' session session' lines lines' number p e n =
    n ∙ sym (number_kept t medium stage (request_in f (take size (drop at session))) e) ∙ sym (ap (λ (x : Recorded). point_number x.point) p)
