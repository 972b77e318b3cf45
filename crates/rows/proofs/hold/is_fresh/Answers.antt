use Rattle.std.proofs.Common.{rules, ◌∙◌, refl, take, get_or, []}
use Rattle.std.proofs.lemmas.Iterator.{YieldsList-from_slice}
use Rattle.std.proofs.lemmas.Iterator.Search.{all_from_yields_List}
use Rattle.rows.specs.Row.{row_of, apart}
use Rattle.rows.proofs.ReadLaws.{fresh_chunks}
use Rattle.rows.proofs.hold.is_fresh.Goals as goal

pub returns : goal.returns
returns c =
    all_from_yields_List (λ chunk. apart (row_of chunk 0) (row_of (get_or c.args.rows.now c.args.i []) 0)) _ _ _ c.all.ensures.ran
    (YieldsList-from_slice (take c.args.i c.args.rows.now) cc) (λ x b q k. search rules)
    ∙ fresh_chunks c.args.rows.now c.args.i (row_of (get_or c.args.rows.now c.args.i []) 0) c.requires refl
