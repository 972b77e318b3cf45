use Rattle.unnamed.specs.Unnamed.{row_block_zero}
use Rattle.unnamed.proofs.row_blocks_zero.Given as goal

abbrev pub ghost-all_below : goal.ghost-all_below
ghost-all_below a = row_block_zero a.test.0.now.bytes.now a.test.0.now.counts.phys a.test.0.now.counts.rows
