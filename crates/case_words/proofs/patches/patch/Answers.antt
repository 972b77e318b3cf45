use Rattle.case_words.proofs.PatchLaws.{puts_more, puts_done}
use Rattle.case_words.proofs.patches.patch.Goals as goal

pub loop-word-preserved : goal.loop-word-preserved
loop-word-preserved c = puts_more _ _ _ _ _ _ c.put_word.ensures c.in-Some.ensures.steps c.loop-word.invariant

pub returns : goal.returns
returns c = puts_done _ _ _ c.in-None.ensures.steps.0 c.loop-word.invariant
