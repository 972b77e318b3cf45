-- What is asked of the formula holds. Assumes nothing.
use mathlib.Core.Path.{refl}
use Rattle.level.specs.Ranges.{Formula}
use Rattle.level.proofs.RangesLaws.{formula_follows, formula_answers, formula_can_do}
use Rattle.level.proofs.FewestLaws.{fewest_ranges}

pub formula_holds : Formula
formula_holds = record {
  answers = formula_answers;
  follow = formula_follows;
  can_do = formula_can_do;
  count = refl;
  fewest = fewest_ranges;
}
