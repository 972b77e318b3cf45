use Rattle.unnamed.specs.Unnamed.{connector_block_zero}
use Rattle.unnamed.proofs.connector_blocks_zero.Given as goal

abbrev pub ghost-all_below : goal.ghost-all_below
ghost-all_below a = connector_block_zero a.test.0.now.bytes.now a.test.0.now.counts.phys a.test.0.now.counts.rows
