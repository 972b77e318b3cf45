use Rattle.header.proofs.AccessLaws.{handed_on, need_room, denied, granted}
use Rattle.header.proofs.srb.access_code.Goals as goal

pub returns-in_err-code-clause-code : goal.returns-in_err-code-clause-code
returns-in_err-code-clause-code c =
    handed_on c.args.level c.args.buffer.now c.checked_code.result c.checked_code.ensures.code c.in_err-code.field-0.0 c.from_residual.result
    c.in_err-code.was c.from_residual.ensures

pub need-requires : goal.need-requires
need-requires c =
    need_room c.args.level c.args.buffer.now c.checked_code.result c.checked_code.ensures.code c.in_ok-code.code c.in_ok-code.was
    c.control_code.result c.split_at.result.1.now c.control_code.ensures c.split_at.ensures.back

pub returns-then-lt-clause-code : goal.returns-then-lt-clause-code
returns-then-lt-clause-code c =
    denied c.args.level c.args.buffer.now c.checked_code.result c.checked_code.ensures.code c.in_ok-code.code c.in_ok-code.was
    c.control_code.result c.split_at.result.1.now c.control_code.ensures c.split_at.ensures.back c.need.result c.need.ensures c.lt.result c.lt.ensures c.if-lt.true

pub returns-clause-code : goal.returns-clause-code
returns-clause-code c =
    granted c.args.level c.args.buffer.now c.checked_code.result c.checked_code.ensures.code c.in_ok-code.code c.in_ok-code.was
    c.control_code.result c.split_at.result.1.now c.control_code.ensures c.split_at.ensures.back c.need.result c.need.ensures c.lt.result c.lt.ensures c.if-lt.false
