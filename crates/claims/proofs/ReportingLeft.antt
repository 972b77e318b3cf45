-- What is left as it was by what resets no counters. Assumes nothing.
use mathlib.Core.Path.{◌≡◌, refl}
use mathlib.Core.Bool.{Bool, false, cond, ◌&&◌}
use lib.Dec.{eqb}
use lib.ListN.{get_or}
use Rattle.laws.specs.Choice.{by_bool}
use Rattle.codes.specs.Codes.{get_link_errors, reset_place, link_error_reset_counts}
use Rattle.dispatch.specs.Request.{Point}
use Rattle.claims.specs.LastWriter.{Told}
use Rattle.claims.specs.Reporting.{resets, counters_cleared, left_by}

module _ (p : Point) (t : Told) where
  -- what was not granted
  pub left_refused : t.granted ≡ false → p ≡ left_by p t
  unfolding resets
  left_refused g = rw g refl

  -- another code, and a 22 with another reset byte
  pub left_other : eqb t.control get_link_errors && eqb (get_or t.body reset_place 0) link_error_reset_counts ≡ false → p ≡ left_by p t
  unfolding resets
  left_other e = rw e (by_bool (λ (g : Bool). p ≡ cond (g && false) (counters_cleared p (get_or t.body 0 0)) p) refl refl t.granted)
