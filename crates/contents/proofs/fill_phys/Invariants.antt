use Rattle.contents.specs.Parse.{phy_from}
use Rattle.contents.proofs.fill_phys.Given as goal

abbrev pub ghost-fill_section : goal.ghost-fill_section
ghost-fill_section a = phy_from a.file.now
