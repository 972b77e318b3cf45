use Rattle.std.proofs.Common.{rules, ◌∙◌, arith}
use Rattle.codes.specs.Codes.{no_device_address}
use Rattle.laws.specs.Splice.{part}
use Rattle.rows.specs.Row.{os_index}
use Rattle.lookups.specs.DeviceAddress.{device_address}
use Rattle.lookups.proofs.ConversionLaws.{index_below, row_found, no_row}
use Rattle.lookups.proofs.device_address.get_device_address.Goals as goal

pub put_sas-requires-clause-i_bound : goal.put_sas-requires-clause-i_bound
unfolding part
put_sas-requires-clause-i_bound c =
    index_below os_index (λ r. r.sas) 4 no_device_address c.args.body.now c.from-a.result c.args.tables.now c.rows-rows.result.now c.unwrap-os.result.now c.find_os.result (c.from-a.ensures ∙ c.row_count.ensures)
    c.rows-rows.ensures (search rules) c.find_os.ensures c.in-Some.i c.in-Some.is (omega (arith, c.from-a.ensures, c.row_count.ensures, c.requires.few_rows))

pub returns-in_default : goal.returns-in_default
unfolding device_address part
returns-in_default c =
    no_row os_index (λ r. r.sas) 4 no_device_address c.args.body.now c.from-a.result c.args.tables.now c.rows-rows.result.now c.unwrap-os.result.now c.find_os.result (c.from-a.ensures ∙ c.row_count.ensures)
    c.rows-rows.ensures (search rules) c.find_os.ensures c.in_default.is

pub returns : goal.returns
unfolding device_address part
returns c =
    row_found os_index (λ r. r.sas) 4 no_device_address c.args.body.now c.from-a.result c.args.tables.now c.rows-rows.result.now c.unwrap-os.result.now c.find_os.result (c.from-a.ensures ∙ c.row_count.ensures)
    c.rows-rows.ensures (search rules) c.find_os.ensures c.in-Some.i c.put_sas.new.d c.in-Some.is c.put_sas.ensures
