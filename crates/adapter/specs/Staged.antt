-- Firmware that is staged (W-207): "the state holds that, with its revisions (0 when nothing is staged, or it is 107)". Assumes nothing.
use Rattle.std.specs.Prelude.{Bool, cond, List, ℕ, eqb}
use Rattle.laws.specs.Clear.{zeros}
use Rattle.laws.specs.Splice.{splice}
use Rattle.wire.specs.Same.{all_zero}

-- whether an image is staged, 1 or 0, and the bytes of its "four numbers of 16 bits"; an image may have revisions 0, so that they alone do not tell
pub record Staged : Type 0 where
  pub flag : ℕ
  pub revisions : List ℕ

abbrev pub staged : ℕ → List ℕ → Staged
staged flag revisions = record { flag = flag; revisions = revisions }

-- an image with these revisions
abbrev pub image_staged : List ℕ → Staged
image_staged revisions = staged 1 revisions

-- "A commit leaves nothing staged, as an opening does"
abbrev pub nothing_staged : Staged
nothing_staged = staged 0 (zeros 8)

-- "0 when nothing is staged, or it is 107"; another flag than 0 and 1 is 107 too
unfoldable pub staged_holds : Staged → Bool
staged_holds s = cond (eqb s.flag 0) (all_zero s.revisions) (eqb s.flag 1)

-- "the controller reply of W-204 shows its revisions in its first four revision fields": bytes 133 to 140 of the configuration
abbrev pub revisions_place : ℕ
revisions_place = 133

-- a configuration with these revisions
unfoldable pub running_with : List ℕ → List ℕ → List ℕ
running_with controller revisions = splice controller revisions_place revisions
