use Rattle.contents.specs.Contents.{file_connector}
use Rattle.contents.proofs.fill_connectors.Given as goal

abbrev pub ghost-fill_section : goal.ghost-fill_section
ghost-fill_section a = file_connector a.file.now a.place.0.now.counts.phys a.place.0.now.counts.rows
