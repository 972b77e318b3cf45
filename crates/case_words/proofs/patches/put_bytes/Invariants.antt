use Rattle.std.proofs.Common.{◌≡◌}
use Rattle.laws.specs.Splice.{splice}
use Rattle.laws.specs.Fill.{list_to}
use Rattle.case_words.specs.Patch.{byte_at}
use Rattle.case_words.proofs.patches.put_bytes.Given as goal

abbrev pub invariant-loop-j : goal.invariant-loop-j
invariant-loop-j l = l.room ≡ splice l.initial.room 0 (list_to (byte_at l.digits) l.j)
