use Rattle.std.proofs.Common.{ℕ, ◌∙◌, ap, arith, rules, of_calls}
use Rattle.laws.specs.Flat.{pieces}
use Rattle.laws.specs.Splice.{lent_filled}
use Rattle.contents.specs.Contents.{file_connector}
use Rattle.contents.specs.Parse.{connectors_from}
use Rattle.contents.proofs.Laws.{connector_placed}
use Rattle.contents.proofs.fill_connectors.Goals as goal

pub returns : goal.returns
unfolding connectors_from
returns c =
    lent_filled c.args.tables.now c.fill_section.new.section _ 5028 1152 c.fill_section.ensures.section_len
    (c.fill_section.ensures.section ∙ ap (λ (n : ℕ). pieces (file_connector c.args.file.now.bytes.now c.args.file.now.counts.phys c.args.file.now.counts.rows) n 36 32 0) c.from-p.ensures)

pub fill_section-requires : goal.fill_section-requires
fill_section-requires c κs within =
    let file = c.args.file.now in (
      search rules,
      (
        search rules,
        (
          search (within.0, within.1.0, rules),
          (
            search rules,
            (
              search rules,
              (
                (λ i h κs p q o u v. omega (arith, h, c.from-p.ensures, file.counts.few.0)),
                (λ i r h e. connector_placed file.bytes.now file.counts.phys file.counts.rows _ i r h c.from-p.ensures file.sized (search of_calls)),
              ),
            ),
          ),
        ),
      ),
    )
