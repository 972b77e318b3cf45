-- A request under the first header is held to the level of the state. Assumes nothing.
use mathlib.Core.Path.{◌≡◌, refl}
use mathlib.Core.Bool.{true, false≢true}
use Rattle.level.specs.declared.Level.{Level}
use Rattle.header.specs.declared.Kind.{Kind}
use Rattle.header.specs.declared.Kind.TheVariants.{Srb, Linux}
use Rattle.header.specs.Sent.{level_by}
use Rattle.claims.specs.ReadOnly.{first_by}

pub first_held : (kind : Kind) (level : Level) → first_by kind ≡ true → level_by kind level ≡ level
first_held Srb level _ = refl
first_held (Linux control) level e = absurd (false≢true e)
