use Rattle.std.proofs.Common.{◌∙◌}
use Rattle.tables.specs.Tables.{tables_of}
use Rattle.state.proofs.Laws.{file_few, load_refused, call_of_error}
use Rattle.state.proofs.opening.load.Goals as goal

pub check_tables-requires : goal.check_tables-requires
check_tables-requires c = file_few c.args.file.now (tables_of c.read_file.new.tables) c.in_ok-read_file.ensures

pub returns-in_err-read_file-clause-number : goal.returns-in_err-read_file-clause-number
returns-in_err-read_file-clause-number c =
    call_of_error c.from_residual.result c.in_err-read_file.field-0.0 c.from_residual.ensures.1
    ∙ load_refused c.args.file.now (tables_of c.read_file.new.tables) c.args.size c.in_err-read_file.field-0.0 c.in_err-read_file.ensures
