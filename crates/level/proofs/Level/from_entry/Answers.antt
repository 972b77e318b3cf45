use Rattle.std.proofs.Common.{rules}
use Rattle.level.proofs.EntryLaws.{tested_says}
use Rattle.level.proofs.Level.from_entry.Goals as goal

pub returns-then-eq-2 : goal.returns-then-eq-2
returns-then-eq-2 c = search (tested_says, rules) depth 10

pub returns-then-eq-3 : goal.returns-then-eq-3
returns-then-eq-3 c = search (tested_says, rules) depth 12

pub returns-then-eq-4 : goal.returns-then-eq-4
returns-then-eq-4 c = search (tested_says, rules) depth 14

pub returns-else-eq-4 : goal.returns-else-eq-4
returns-else-eq-4 c = search (tested_says, rules) depth 14
