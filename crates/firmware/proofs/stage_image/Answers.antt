use Rattle.std.proofs.Common.{◌≡◌, rules}
use Rattle.laws.specs.Splice.{part}
use Rattle.download.specs.Body.{image_place}
use Rattle.firmware.proofs.CodeLaws.{image_staged_lem}
use Rattle.firmware.proofs.stage_image.Goals as goal

pub returns : goal.returns
unfolding part
returns c =
    let v : c.unwrap.result.now ≡ part c.args.body.now image_place 8 = search rules in
    image_staged_lem _ _ _ _ _ _ c.unwrap.result.now c.copy_image.ensures c.note_image.ensures c.acknowledge.ensures c.requires.bound.0 v
