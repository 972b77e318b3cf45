use Rattle.header.proofs.AccessLaws.{linux_long, linux_passed}
use Rattle.header.proofs.linux.checked_code.Goals as goal

pub returns-then-not-all_length_holds-clause-code : goal.returns-then-not-all_length_holds-clause-code
returns-then-not-all_length_holds-clause-code c =
    linux_long c.args.control c.args.buffer.now c.direction_holds.result c.all_length_holds.result c.try_from.result c.in_ok-code.code
    c.direction_holds.ensures c.if-not-direction_holds.false c.try_from.ensures c.in_ok-code.was c.all_length_holds.ensures c.if-not-all_length_holds.true

pub returns-clause-code : goal.returns-clause-code
returns-clause-code c =
    linux_passed c.args.control c.args.buffer.now c.direction_holds.result c.all_length_holds.result c.try_from.result c.in_ok-code.code
    c.direction_holds.ensures c.if-not-direction_holds.false c.try_from.ensures c.in_ok-code.was c.all_length_holds.ensures c.if-not-all_length_holds.false
