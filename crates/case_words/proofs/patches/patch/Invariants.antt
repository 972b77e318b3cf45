use Rattle.std.proofs.Common.{◌≡◌}
use Rattle.case_words.specs.Fields.{pieces}
use Rattle.case_words.specs.Patch.{patched, put_all}
use Rattle.case_words.proofs.patches.patch.Given as goal

-- the words so far are put, and those that are left
abbrev pub invariant-loop-word : goal.invariant-loop-word
invariant-loop-word l = patched l.initial.d l.s l.k ≡ put_all l.d (pieces l.word-iterator.end l.word-iterator.rest.now)
