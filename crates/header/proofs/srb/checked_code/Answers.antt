use Rattle.header.proofs.AccessLaws.{srb_unknown, srb_long, srb_passed}
use Rattle.header.proofs.srb.checked_code.Goals as goal

pub returns-in_err-code-clause-code : goal.returns-in_err-code-clause-code
returns-in_err-code-clause-code c =
    srb_unknown c.args.buffer.now c.read32.result c.control_code-control.result c.try_from.result c.in_err-code.field-0.0 c.from_residual.result
    c.read32.ensures c.if-read32-ne-HEADER_LENGTH.false c.control_code-control.ensures c.try_from.ensures c.in_err-code.was c.from_residual.ensures

pub returns-then-not-length_holds-clause-code : goal.returns-then-not-length_holds-clause-code
returns-then-not-length_holds-clause-code c =
    srb_long c.args.buffer.now c.split_at.result.1.now c.read32.result c.control_code-control.result c.read32-2.result c.signature_holds.result c.length_holds.result
    c.try_from.result c.in_ok-code.code c.read32.ensures c.if-read32-ne-HEADER_LENGTH.false c.control_code-control.ensures c.try_from.ensures c.in_ok-code.was
    c.signature_holds.ensures c.if-not-signature_holds.false c.read32-2.ensures c.split_at.ensures.back c.length_holds.ensures c.if-not-length_holds.true

pub returns-clause-code : goal.returns-clause-code
returns-clause-code c =
    srb_passed c.args.buffer.now c.split_at.result.1.now c.read32.result c.control_code-control.result c.read32-2.result c.signature_holds.result c.length_holds.result
    c.try_from.result c.in_ok-code.code c.read32.ensures c.if-read32-ne-HEADER_LENGTH.false c.control_code-control.ensures c.try_from.ensures c.in_ok-code.was
    c.signature_holds.ensures c.if-not-signature_holds.false c.read32-2.ensures c.split_at.ensures.back c.length_holds.ensures c.if-not-length_holds.false
