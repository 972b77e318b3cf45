-- The proof of every starred case. Assumes nothing.
use mathlib.Core.List.{List, [], ◌∷◌, ◌++◌}
use Rattle.laws.specs.Cases.{Holds, All}
use Rattle.level.specs.Starred.{level_cases}
use Rattle.level.proofs.StarredLaws.{level_starred}
use Rattle.block.specs.Starred.{block_cases}
use Rattle.block.proofs.StarredLaws.{block_starred}
use Rattle.layout.specs.Starred.{layout_cases}
use Rattle.layout.proofs.StarredLaws.{layout_starred}
use Rattle.link.specs.Starred.{link_cases}
use Rattle.link.proofs.StarredLaws.{link_starred}
use Rattle.disk.specs.Starred.{disk_cases}
use Rattle.disk.proofs.StarredLaws.{disk_starred}
use Rattle.claims.specs.Starred.{Starred}

all_append : {A : Type 0} (P : A → Type 0) (l m : List A) → All P l → All P m → All P (l ++ m)
all_append P [] m p q = q
all_append P (x ∷ l) m p q = (p.0, all_append P l m p.1 q)

pub starred : Starred
starred =
    all_append Holds level_cases (block_cases ++ (layout_cases ++ (link_cases ++ disk_cases))) level_starred
    (all_append Holds block_cases (layout_cases ++ (link_cases ++ disk_cases)) block_starred
    (all_append Holds layout_cases (link_cases ++ disk_cases) layout_starred
    (all_append Holds link_cases disk_cases link_starred disk_starred)))
