use Rattle.std.proofs.Common.{◌∙◌}
use Rattle.header.specs.Sent.{form_by}
use Rattle.state.proofs.Laws.{call_of_error}
use Rattle.dispatch.proofs.Laws.{error_told, number_first}
use Rattle.dispatch.proofs.handle.check.Goals as goal

pub returns-in_err-check_state : goal.returns-in_err-check_state
returns-in_err-check_state c =
    let left = c.in_err-check_state in
    call_of_error c.from_residual.result _ c.from_residual.ensures.1
    ∙ number_first (form_by c.args.kind) _ c.args.buffer _ (error_told c.check_state.result left.field-0.0 _ left.was c.check_state.ensures)
