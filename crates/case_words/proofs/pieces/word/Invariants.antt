use Rattle.std.proofs.Common.{◌≡◌}
use Rattle.case_words.specs.Fields.{from_word}
use Rattle.case_words.proofs.pieces.word.Given as goal

abbrev pub invariant-loop : goal.invariant-loop
invariant-loop l = l.rest ≡ from_word l.s l.counter
