use Rattle.std.proofs.Common.{length, arith}
use Rattle.control_codes.proofs.CodesLaws.{passthrough_inside, download_inside}
use Rattle.control_codes.proofs.table.data_size.Goals as goal

pub read32-requires : goal.read32-requires
read32-requires c =
    passthrough_inside c.args.control (length c.args.body.now) _ c.try_from.result c.in-Ok-StpPassthru.field-0 c.try_from.ensures c.in-Ok-StpPassthru.is
    c.requires c.in-Ok-StpPassthru.field-0-is (omega arith)

pub read32-requires-in-Ok-FirmwareDownload : goal.read32-requires-in-Ok-FirmwareDownload
read32-requires-in-Ok-FirmwareDownload c =
    download_inside c.args.control (length c.args.body.now) _ c.try_from.result c.in-Ok-FirmwareDownload.field-0 c.try_from.ensures c.in-Ok-FirmwareDownload.is
    c.requires c.in-Ok-FirmwareDownload.field-0-is (omega arith)
