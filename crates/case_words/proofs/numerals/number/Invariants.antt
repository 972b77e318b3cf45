use Rattle.std.proofs.Common.{◌≡◌, ◌<◌, ◌%◌, drop}
use Rattle.case_words.specs.Fields.{number_of, decimal}
use Rattle.case_words.proofs.numerals.number.Given as goal

abbrev pub invariant-loop-c : goal.invariant-loop-c
invariant-loop-c l = (l.value < 4294967296) × (number_of l.word ≡ decimal l.value (drop l.c-index l.word) % 4294967296)
