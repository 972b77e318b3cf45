-- What is proved of the definitions in specs/Starred.antt. Assumes nothing.
use mathlib.Core.Path.{refl}
use Rattle.laws.specs.Splice.{part}
use Rattle.laws.specs.Sum.{sum_to}
use Rattle.laws.specs.Cases.{Holds, All}
use Rattle.wire.specs.Number.{number}
use Rattle.block.specs.Check.{word, check_of}
use Rattle.block.specs.Starred.{block_cases}

pub block_starred : All Holds block_cases
unfolding check_of sum_to word part number
block_starred = (refl, tt)
