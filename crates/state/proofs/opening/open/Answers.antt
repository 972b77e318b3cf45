use Rattle.std.proofs.Common.{rules}
use Rattle.codes.specs.Numbers.{call_of}
use Rattle.state.proofs.Laws.{open_lent}
use Rattle.state.proofs.opening.open.Goals as goal

pub returns : goal.returns
returns c =
    let left = c.open_state in
    open_lent c.args.text.now c.args.file.now c.args.medium.now c.args.state.now (call_of left.result) left.new.state (search rules) left.ensures.state_len left.ensures.opens
