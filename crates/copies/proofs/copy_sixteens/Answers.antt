use Rattle.copies.proofs.SixteensLaws.{sixteens_loop}
use Rattle.copies.proofs.copy_sixteens.Goals as goal

pub loop-j-init : goal.loop-j-init
loop-j-init c = search sixteens_loop
