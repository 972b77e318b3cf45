use Rattle.std.proofs.Common.{rules}
use Rattle.dispatch.proofs.Laws.{reply_by}
use Rattle.dispatch.proofs.handle.reply_at.Goals as goal

pub returns-clause-buffer_after : goal.returns-clause-buffer_after
returns-clause-buffer_after c = search (reply_by, rules)
