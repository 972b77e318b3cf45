use Rattle.std.proofs.Common.{◌≡◌}
use Rattle.level.specs.Text.{entries, ours, setting_of}
use Rattle.level_text.proofs.EntriesLaws.{after}
use Rattle.level_text.proofs.of_text.Given as goal

-- the level so far, and what is left, say what the text does
abbrev pub invariant-loop-entry : goal.invariant-loop-entry
invariant-loop-entry l = setting_of (ours (entries l.text)) ≡ after l.level (ours (entries l.entry-iterator.0.now))
