use Rattle.std.proofs.Common.{ℕ, ◌∙◌, ap, arith, rules, of_calls}
use Rattle.laws.specs.Flat.{pieces}
use Rattle.laws.specs.Splice.{lent_filled}
use Rattle.contents.specs.Parse.{row_from, rows_from}
use Rattle.contents.proofs.Laws.{row_placed}
use Rattle.contents.proofs.fill_rows.Goals as goal

pub returns : goal.returns
unfolding rows_from
returns c =
    lent_filled c.args.tables.now c.fill_section.new.section _ 3536 1280 c.fill_section.ensures.section_len
    (c.fill_section.ensures.section ∙ ap (λ (n : ℕ). pieces (row_from c.args.file.now.bytes.now c.args.file.now.counts.phys) n 20 64 0) c.from-a.ensures)

pub fill_section-requires : goal.fill_section-requires
fill_section-requires c κs within =
    let file = c.args.file.now in (
      search rules,
      (
        search rules,
        (
          search (within.0, within.1.0, rules),
          (
            search rules,
            (
              search rules,
              (
                (λ i h κs p q o u v. omega (arith, h, c.from-a.ensures, file.counts.few.1)),
                (λ i r h e. row_placed file.bytes.now file.counts.phys file.counts.rows _ i r h c.from-a.ensures file.sized (search of_calls)),
              ),
            ),
          ),
        ),
      ),
    )
