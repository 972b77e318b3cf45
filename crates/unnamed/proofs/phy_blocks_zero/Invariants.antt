use Rattle.unnamed.specs.Unnamed.{phy_block_zero}
use Rattle.unnamed.proofs.phy_blocks_zero.Given as goal

abbrev pub ghost-all_below : goal.ghost-all_below
ghost-all_below a = phy_block_zero a.test.0.now.bytes.now
