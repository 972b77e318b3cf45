use Rattle.std.proofs.Common.{sym, ◌∙◌, ap}
use Rattle.rows.specs.Row.{row_at}
use Rattle.rows.proofs.ReadLaws.{row_chunk}
use Rattle.conversions.proofs.row.Goals as goal

pub returns : goal.returns
returns c = c.from_bytes.ensures ∙ sym (row_chunk c.as_rows.result.now c.args.i _ (search (c.requires, c.as_rows.ensures.len))) ∙ ap (λ l. row_at l c.args.i) c.as_rows.ensures.rows
