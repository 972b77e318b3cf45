-- What is proved of the definitions in specs/Starred.antt. Assumes nothing.
use mathlib.Core.Path.{refl}
use Rattle.laws.specs.Ascii.{ascii}
use Rattle.laws.specs.Splice.{part}
use Rattle.laws.specs.Cases.{Holds, All}
use Rattle.wire.specs.Same.{same_bytes}
use Rattle.level.specs.Text.{text_level, entries, begins, ours, exact}
use Rattle.level.specs.Need.{need_of, among}
use Rattle.level.specs.Starred.{level_cases}

pub level_starred : All Holds level_cases
unfolding text_level entries begins ours exact need_of among same_bytes part ascii
level_starred = (refl, (refl, (refl, (refl, (refl, (refl, (refl, tt)))))))
