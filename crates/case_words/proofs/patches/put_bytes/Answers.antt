use Rattle.case_words.proofs.PatchLaws.{put_zero, pair_put, pairs_put}
use Rattle.case_words.proofs.patches.put_bytes.Goals as goal

pub loop-j-init : goal.loop-j-init
loop-j-init c = put_zero _ _

pub loop-j-preserved : goal.loop-j-preserved
loop-j-preserved c = pair_put _ _ _ _ c.as_chunks.ensures.front _ _ _ c.loop-j-test.true c.min-fit.ensures c.byte.ensures c.loop-j.invariant

pub returns : goal.returns
returns c =
    pairs_put _ _ _ _ c.as_chunks.ensures.front _ _ _ _ _ _ c.split_at_mut-room.ensures.value c.split_at_mut-room.ensures.front_len c.min.ensures c.min-fit.ensures
    c.loop-j-test.false c.loop-j.auto.j-end c.loop-j.invariant
