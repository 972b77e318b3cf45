use Rattle.service.proofs.Laws.{passthrough_asked, download_asked}
use Rattle.service.proofs.serve.Goals as goal

pub firmware_download-requires : goal.firmware_download-requires
firmware_download-requires c =
    download_asked c.args.control _ c.args.body.now c.try_from.result c.try_from.ensures _ c.in_ok-try_from.was c.requires.body_in_bounds c.in-FirmwareDownload.is

pub pass_through-requires-clause-body_in_bounds : goal.pass_through-requires-clause-body_in_bounds
pass_through-requires-clause-body_in_bounds c =
    passthrough_asked c.args.control _ c.args.body.now c.try_from.result c.try_from.ensures _ c.in_ok-try_from.was c.requires.body_in_bounds c.in-StpPassthru.is
