use Rattle.disk_command.proofs.MadeLaws.{left}
use Rattle.disk_command.proofs.command.Goals as goal

pub returns-in_default : goal.returns-in_default
returns-in_default c = search left

pub returns-then-asked-moved : goal.returns-then-asked-moved
returns-then-asked-moved c = search left

pub copy_part-requires : goal.copy_part-requires
copy_part-requires c = search left

pub copy_part-requires-in-48 : goal.copy_part-requires-in-48
copy_part-requires-in-48 c = search left

pub copy_part-requires-in-236 : goal.copy_part-requires-in-236
copy_part-requires-in-236 c = search left

pub returns-in-32 : goal.returns-in-32
returns-in-32 c = search left

pub returns-in-48 : goal.returns-in-48
returns-in-48 c = search left

pub returns-in-236 : goal.returns-in-236
returns-in-236 c = search left

pub returns-in_default-command : goal.returns-in_default-command
returns-in_default-command c = search left
