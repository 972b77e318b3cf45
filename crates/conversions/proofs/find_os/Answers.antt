use Rattle.std.proofs.Common.{rules, ◌≤◌, ◌∙◌, length}
use Rattle.std.proofs.lemmas.Iterator.{YieldsList-from_slice, YieldsList-from_take}
use Rattle.std.proofs.lemmas.Iterator.Search.{position_from_yields_List}
use Rattle.wire.specs.Same.{same_bytes}
use Rattle.rows.specs.Row.{row_of, rows_of, os_index}
use Rattle.conversions.proofs.FindLaws.{found_chunks}
use Rattle.conversions.proofs.find_os.Goals as goal

pub returns : goal.returns
unfolding os_index
returns c =
    let few : c.args.a ≤ length c.as_rows.result.now = rw c.as_rows.ensures.len c.requires in
    position_from_yields_List (λ chunk. same_bytes (row_of chunk 0).os c.args.os.now) _ _ c.position.result c.position.ensures.ran
    (YieldsList-from_take c.args.a (YieldsList-from_slice c.as_rows.result.now cc) cc) (λ x b q k. search rules)
    ∙ found_chunks (λ row. same_bytes row.os c.args.os.now) c.as_rows.result.now (rows_of c.args.rows.now) c.args.a c.as_rows.ensures.rows few
