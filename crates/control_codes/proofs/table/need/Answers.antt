use Rattle.std.proofs.Common.{length, arith}
use Rattle.control_codes.proofs.CodesLaws.{errors_inside, passthrough_inside}
use Rattle.control_codes.proofs.table.need.Goals as goal

pub bounds-body-1 : goal.bounds-body-1
bounds-body-1 c =
    errors_inside c.args.control (length c.args.body.now) 2 c.try_from.result c.in-Ok-GetLinkErrors.field-0 c.try_from.ensures c.in-Ok-GetLinkErrors.is
    c.requires c.in-Ok-GetLinkErrors.field-0-is (omega arith)

pub bounds-body-18 : goal.bounds-body-18
bounds-body-18 c =
    passthrough_inside c.args.control (length c.args.body.now) 19 c.try_from.result c.in-Ok-StpPassthru.field-0 c.try_from.ensures c.in-Ok-StpPassthru.is
    c.requires c.in-Ok-StpPassthru.field-0-is (omega arith)
