use Rattle.std.proofs.Common.{rules}
use Rattle.codes.specs.Numbers.{call_of}
use Rattle.service.specs.Serve.{store_of}
use Rattle.dispatch.proofs.Laws.{request_lent}
use Rattle.dispatch.proofs.handle.handle_any.Goals as goal

pub returns : goal.returns
returns c =
    let left = c.handle in
    request_lent c.args.kind c.args.state.now (store_of c.args.medium.now c.args.stage.now) c.args.buffer.now (call_of left.result) c.in-Some.state.now left.new.state
    (store_of left.new.medium left.new.stage) left.new.buffer (search rules) left.ensures.state_len c.in-Some.ensures.cases.same left.ensures.outcome
