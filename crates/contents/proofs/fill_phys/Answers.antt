use Rattle.std.proofs.Common.{ℕ, ◌∙◌, ap}
use Rattle.laws.specs.Flat.{pieces}
use Rattle.laws.specs.Splice.{lent_filled}
use Rattle.contents.specs.Parse.{phy_from, phys_from}
use Rattle.contents.proofs.fill_phys.Goals as goal

pub returns : goal.returns
unfolding phys_from
returns c =
    lent_filled c.args.tables.now c.fill_section.new.section _ 176 3360 c.fill_section.ensures.section_len
    (c.fill_section.ensures.section ∙ ap (λ (n : ℕ). pieces (phy_from c.args.file.now.bytes.now) n 105 32 0) c.from-p.ensures)
