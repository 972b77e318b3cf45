use Rattle.rows.proofs.ReadLaws.{rows_chunked}
use Rattle.rows.proofs.as_rows.Goals as goal

pub returns-clause-rows : goal.returns-clause-rows
returns-clause-rows c = rw c.as_chunks.ensures.front (rows_chunked c.args.rows.now c.told-rows)
