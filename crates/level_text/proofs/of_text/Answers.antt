use Rattle.std.proofs.Common.{rules, ◌∙◌}
use Rattle.level.specs.Text.{entries}
use Rattle.level_text.proofs.EntriesLaws.{gave, twice, wrong, err_told}
use Rattle.level_text.proofs.of_text.Goals as goal

pub returns-in_err-given : goal.returns-in_err-given
returns-in_err-given c =
    err_told c.from_residual.result c.in_err-given.field-0.0 c.from_residual.ensures
    ∙ wrong c.args.text.now c.loop-entry.level c.in-Some.entry.now (entries c.loop-entry.entry-iterator.0.now) (entries c.next.new.self.0.now)
    c.from_entry.result c.loop-entry.invariant c.in-Some.ensures.steps c.from_entry.ensures c.in_err-given.field-0.0 c.in_err-given.was (search rules)

pub loop-entry-preserved-in-Some-2 : goal.loop-entry-preserved-in-Some-2
loop-entry-preserved-in-Some-2 c =
    gave c.args.text.now c.loop-entry.level c.in-Some.entry.now (entries c.loop-entry.entry-iterator.0.now) (entries c.next.new.self.0.now)
    c.from_entry.result c.loop-entry.invariant c.in-Some.ensures.steps c.from_entry.ensures c.in_ok-given.field-0 c.in-Some-2.given c.is_some.result c.in_ok-given.was
    c.in-Some-2.is c.is_some.ensures c.if-is_some.false

pub returns-then-is_some : goal.returns-then-is_some
returns-then-is_some c =
    twice c.args.text.now c.loop-entry.level c.in-Some.entry.now (entries c.loop-entry.entry-iterator.0.now) (entries c.next.new.self.0.now)
    c.from_entry.result c.loop-entry.invariant c.in-Some.ensures.steps c.from_entry.ensures c.in_ok-given.field-0 c.in-Some-2.given c.is_some.result
    c.in_ok-given.was c.in-Some-2.is c.is_some.ensures c.if-is_some.true (search rules)
