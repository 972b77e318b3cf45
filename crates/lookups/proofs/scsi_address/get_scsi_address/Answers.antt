use Rattle.std.proofs.Common.{rules, ◌∙◌, arith}
use Rattle.codes.specs.Codes.{no_scsi_address}
use Rattle.laws.specs.Splice.{part}
use Rattle.rows.specs.Row.{sas_index}
use Rattle.lookups.specs.ScsiAddress.{scsi_address}
use Rattle.lookups.proofs.ConversionLaws.{index_below, row_found, no_row}
use Rattle.lookups.proofs.scsi_address.get_scsi_address.Goals as goal

pub put_os-requires-clause-i_bound : goal.put_os-requires-clause-i_bound
unfolding part
put_os-requires-clause-i_bound c =
    index_below sas_index (λ r. r.os) 16 no_scsi_address c.args.body.now c.from-a.result c.args.tables.now c.rows-rows.result.now c.unwrap-sas.result.now c.find_sas.result (c.from-a.ensures ∙ c.row_count.ensures)
    c.rows-rows.ensures (search rules) c.find_sas.ensures c.in-Some.i c.in-Some.is (omega (arith, c.from-a.ensures, c.row_count.ensures, c.requires.few_rows))

pub returns-in_default : goal.returns-in_default
unfolding scsi_address part
returns-in_default c =
    no_row sas_index (λ r. r.os) 16 no_scsi_address c.args.body.now c.from-a.result c.args.tables.now c.rows-rows.result.now c.unwrap-sas.result.now c.find_sas.result (c.from-a.ensures ∙ c.row_count.ensures)
    c.rows-rows.ensures (search rules) c.find_sas.ensures c.in_default.is

pub returns : goal.returns
unfolding scsi_address part
returns c =
    row_found sas_index (λ r. r.os) 16 no_scsi_address c.args.body.now c.from-a.result c.args.tables.now c.rows-rows.result.now c.unwrap-sas.result.now c.find_sas.result (c.from-a.ensures ∙ c.row_count.ensures)
    c.rows-rows.ensures (search rules) c.find_sas.ensures c.in-Some.i c.put_os.new.d c.in-Some.is c.put_os.ensures
