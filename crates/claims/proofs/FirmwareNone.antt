-- What writes no firmware. Assumes nothing.
use mathlib.Core.Path.{◌≡◌, refl}
use mathlib.Core.Bool.{Bool, false, cond, ◌&&◌}
use borrow.Author.Tests.{ne_eqb}
use Rattle.laws.specs.Choice.{by_bool}
use Rattle.codes.specs.Codes.{firmware_download}
use Rattle.download.specs.Body.{validates}
use Rattle.claims.specs.LastWriter.{Told}
use Rattle.claims.specs.Firmware.{Firmware, after_validation, after_commit, firmware_after}

module _ (t : Told) (f : Firmware) where
  -- what was not granted
  pub none_refused : t.granted ≡ false → f ≡ firmware_after t f
  unfolding firmware_after
  none_refused g = rw g refl

  -- another code
  pub none_other : (t.control ≡ firmware_download → ⊥) → f ≡ firmware_after t f
  unfolding firmware_after
  none_other n =
      rw (ne_eqb t.control firmware_download n) (by_bool (λ (g : Bool). f ≡ cond (g && false) (cond (validates t.body) (after_validation f t.body) (after_commit f)) f) refl refl t.granted)
