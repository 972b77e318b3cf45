-- What 107 accepts: an image that is staged, whatever its revisions, and nothing staged. Assumes nothing.
use mathlib.Core.Path.{◌≡◌, refl}
use mathlib.Core.Bool.{true}
use mathlib.Core.List.{List}
use Prim.Native.Nat.{ℕ}
use Rattle.wire.specs.Same.{same_bytes, all_zero}
use Rattle.adapter.specs.Staged.{image_staged, nothing_staged, staged_holds}

pub staged_noted : (revisions : List ℕ) → staged_holds (image_staged revisions) ≡ true
unfolding staged_holds
staged_noted revisions = refl

pub staged_none : staged_holds nothing_staged ≡ true
unfolding staged_holds all_zero same_bytes
staged_none = refl
