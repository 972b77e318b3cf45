use Rattle.file.specs.File.{file_read}
use Rattle.state.proofs.Laws.{loaded}
use Rattle.state.proofs.opening.load_state.Goals as goal

pub returns-clause-adapter : goal.returns-clause-adapter
returns-clause-adapter c =
    let parts = c.split_at_mut-tables.ensures in
    loaded c.args.state.now _ _ c.load.new.tables (file_read c.args.file.now).adapter c.told-state parts.front parts.back c.load.ensures.tables
