-- The starred cases of every layer (document 01, "Starred cases"), in one statement over a table. Assumes nothing.
use Rattle.std.specs.Prelude.{List, ◌++◌}
use Rattle.laws.specs.Cases.{Case, Holds, All}
use Rattle.level.specs.Starred.{level_cases}
use Rattle.block.specs.Starred.{block_cases}
use Rattle.layout.specs.Starred.{layout_cases}
use Rattle.link.specs.Starred.{link_cases}
use Rattle.disk.specs.Starred.{disk_cases}

-- "Texts", "Need", "Check of an all-zero block 3", "File length", "Link", "Disk"
abbrev pub cases : List Case
cases = level_cases ++ (block_cases ++ (layout_cases ++ (link_cases ++ disk_cases)))

abbrev pub Starred : Type 0
Starred = All Holds cases
