use Rattle.std.proofs.Common.{◌≡◌, ◌≤◌, ◌*◌, take}
use Rattle.std.specs.List.{sum}
use Rattle.rows.specs.Seen.{words}
use Rattle.rows.proofs.hold.key.Given as goal

abbrev pub invariant-loop-word : goal.invariant-loop-word
invariant-loop-word g l = (l.sum ≡ sum (take l.word-index (words l.bytes))) × (l.sum ≤ 4294967295 * l.word-index)
