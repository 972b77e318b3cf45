use Rattle.laws.specs.All.{all_loop}
use Rattle.rows.specs.Row.{rows_hold}
use Rattle.rows.proofs.hold.hold_by.Goals as goal

pub returns-then-not-look_at : goal.returns-then-not-look_at
unfolding rows_hold
returns-then-not-look_at c = search all_loop
