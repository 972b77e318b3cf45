use Rattle.passthrough.proofs.Laws.{on_disk_left}
use Rattle.passthrough.proofs.pass.on_disk.Goals as goal

pub returns : goal.returns
returns c = on_disk_left c.args.medium.now c.args.body.now _ _ _ c.args.n.0 _ _ _ c.requires.n_in_bounds c.requires.body_in_bounds c.split_at_mut-rest.ensures.front c.split_at_mut-rest.ensures.back c.in-Some.ensures.cases.same c.command.ensures
