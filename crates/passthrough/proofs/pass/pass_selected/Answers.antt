use Rattle.passthrough.proofs.Laws.{chosen_phy, chosen_disk, connected_left, unconnected_left, refused_left}
use Rattle.passthrough.proofs.pass.pass_selected.Goals as goal

pub is_connected-requires-clause-n_bound : goal.is_connected-requires-clause-n_bound
is_connected-requires-clause-n_bound c = search chosen_phy

pub on_disk-requires-clause-n_in_bounds : goal.on_disk-requires-clause-n_in_bounds
on_disk-requires-clause-n_in_bounds c = search chosen_disk

pub returns-in-Err : goal.returns-in-Err
returns-in-Err c = search refused_left

pub returns-then-is_connected : goal.returns-then-is_connected
returns-then-is_connected c = search connected_left

pub returns-else-is_connected : goal.returns-else-is_connected
returns-else-is_connected c = search unconnected_left
