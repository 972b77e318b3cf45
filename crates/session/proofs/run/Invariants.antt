use Rattle.std.proofs.Common.{◌≡◌, ◌-◌, ◌*◌, ◌≤◌, length}
use Rattle.state.specs.State.{state_size, state_of}
use Rattle.service.specs.Serve.{store_of}
use Rattle.dispatch.specs.Request.{point, state_number}
use Rattle.session.specs.Session.{ran_from}
use Rattle.session.proofs.RunLaws.{ran_after}
use Rattle.session.proofs.run.Given as goal

abbrev pub invariant-loop-count : goal.invariant-loop-count
invariant-loop-count l = ((l.at ≤ length l.session) × (8 * l.room ≤ length l.lines) × (l.count ≤ l.room) × (length l.state ≡ state_size) × (length l.medium ≡ length l.initial.medium) × (length l.stage ≡ length l.initial.stage) × (length l.session ≡ length l.initial.session) × (length l.lines ≡ length l.initial.lines)) × (ran_from l.framing l.room (point (state_of l.initial.state) (store_of l.initial.medium l.initial.stage)) l.initial.session l.initial.lines ≡ ran_after l.framing l.room (point (state_of l.state) (store_of l.medium l.stage)) l.session l.lines l.at l.count) × (l.number ≡ state_number (state_of l.state) (length l.medium) (length l.stage))

abbrev pub decreases-loop-count : goal.decreases-loop-count
decreases-loop-count l = l.room - l.count
