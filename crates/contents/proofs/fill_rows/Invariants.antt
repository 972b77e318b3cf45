use Rattle.contents.specs.Parse.{row_from}
use Rattle.contents.proofs.fill_rows.Given as goal

abbrev pub ghost-fill_section : goal.ghost-fill_section
ghost-fill_section a = row_from a.file.now a.place.0.now.counts.phys
