-- What is proved of the definitions in specs/Starred.antt. Assumes nothing.
use mathlib.Core.Path.{refl}
use Rattle.laws.specs.Cases.{Holds, All}
use Rattle.disk.specs.Disk.{count_of, ata_command, transfer, answer_by}
use Rattle.disk.specs.Starred.{disk_cases}

pub disk_starred : All Holds disk_cases
unfolding ata_command count_of transfer answer_by
disk_starred = (refl, (refl, (refl, (refl, (refl, (refl, tt))))))
