use Rattle.dispatch.proofs.Laws.{lent_few, lent_medium, reply_back}
use Rattle.dispatch.proofs.handle.reply.Goals as goal

pub reply_at-requires-clause-few_phys : goal.reply_at-requires-clause-few_phys
reply_at-requires-clause-few_phys c =
    let parts = c.split_at_mut-tables.ensures in
    lent_few c.args.state.now _ _ _ c.told-state parts.front parts.back c.in-Some.ensures.cases.same c.requires.state_value

pub reply_at-requires-clause-medium_len : goal.reply_at-requires-clause-medium_len
reply_at-requires-clause-medium_len c =
    let parts = c.split_at_mut-tables.ensures in
    lent_medium c.args.state.now _ _ _ c.told-state parts.front parts.back c.in-Some.ensures.cases.same _ c.requires.medium_len

pub returns-clause-buffer_after : goal.returns-clause-buffer_after
returns-clause-buffer_after c =
    let parts = c.split_at_mut-tables.ensures in
    reply_back c.args.state.now _ _ _ c.told-state parts.front parts.back c.in-Some.ensures.cases.same c.args.kind c.reply_at.new.tables c.args.medium.now c.reply_at.new.medium
    c.args.stage.now _ c.reply_at.new.stage c.args.buffer.now c.reply_at.new.buffer c.requires.stage_len c.in-Some-first_chunk_mut.ensures.cases.same c.reply_at.ensures.buffer_after
