use Rattle.laws.specs.Copy.{copy_loop}
use Rattle.copies.proofs.copy_each.Goals as goal

pub loop-j-init : goal.loop-j-init
loop-j-init c = search copy_loop
