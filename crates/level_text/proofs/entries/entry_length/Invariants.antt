use Rattle.std.proofs.Common.{◌≡◌, ◌+◌, drop}
use Rattle.level_text.specs.Entry.{entry_length}
use Rattle.level_text.proofs.entries.entry_length.Given as goal

abbrev pub invariant-loop-i : goal.invariant-loop-i
invariant-loop-i l = l.i + entry_length (drop l.i l.text) ≡ entry_length l.text
