-- What is proved of the definitions in specs/Starred.antt. Assumes nothing.
use mathlib.Core.Path.{refl}
use Rattle.laws.specs.Cases.{Holds, All}
use Rattle.layout.specs.Starred.{layout_cases}

pub layout_starred : All Holds layout_cases
layout_starred = (refl, (refl, tt))
