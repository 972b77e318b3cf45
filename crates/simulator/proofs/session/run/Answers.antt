use Rattle.tally.specs.Taken.{taken_of}
use Rattle.simulator.proofs.SessionLaws.{loop_next}
use Rattle.simulator.proofs.session.run.Goals as goal

pub loop-number-preserved : goal.loop-number-preserved
loop-number-preserved g c = loop_next _ _ (taken_of c.take_next-taken.result) _ _ c.take_next-taken.ensures c.is_last.ensures c.if-is_last.false c.loop-number.invariant

pub returns-else-is_last : goal.returns-else-is_last
returns-else-is_last g c =
    (loop_next _ _ (taken_of c.take_next-taken.result) _ _ c.take_next-taken.ensures c.is_last.ensures c.if-is_last.false c.loop-number.invariant).0
