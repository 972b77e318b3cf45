use Rattle.std.proofs.Common.{◌≡◌}
use Rattle.codes.specs.Numbers.{error_number}
use Rattle.level.specs.Text.{text_level}
use Rattle.state.specs.State.{state_of}
use Rattle.state.specs.Open.{refused_opening, opened_text}
use Rattle.state.proofs.Laws.{opened_right, file_refused, if_error}
use Rattle.state.proofs.opening.open_checked.Goals as goal

pub returns-in_err-load_state-clause-err : goal.returns-in_err-load_state-clause-err
returns-in_err-load_state-clause-err c =
    let t = text_level c.args.text.now in
    let left = c.in_err-load_state in
    if_error (λ error. refused_opening (error_number error) ≡ opened_text t c.args.file.now c.args.size) c.from_residual-in_err-load_state.result left.field-0.0
    c.from_residual-in_err-load_state.ensures.1
    (file_refused t c.args.file.now c.args.size c.in_ok-level.level left.field-0.0 c.in_ok-level.ensures left.ensures.number)

pub returns-clause-ok : goal.returns-clause-ok
returns-clause-ok c =
    let left = c.in_ok-load_state.ensures in
    opened_right (text_level c.args.text.now) c.args.file.now c.args.size c.in_ok-level.level (state_of c.load_state.new.state).adapter
    (state_of c.set_level.new.state) c.in_ok-level.ensures left.number left.adapter c.set_level.ensures
