use Rattle.std.specs.Prelude.{take}
use Rattle.std.proofs.Common.{rules, ◌∙◌}
use Rattle.std.proofs.lemmas.Iterator.Search.{all_from_yields_List}
use Rattle.std.proofs.lemmas.Iterator.{YieldsList-from_slice}
use Rattle.connectors.specs.Pinout.{pinout_holds}
use Rattle.connectors.proofs.Laws.{pinouts_first}
use Rattle.connectors.proofs.pinouts_hold.Goals as goal

pub returns : goal.returns
returns c =
    all_from_yields_List pinout_holds _ _ _ c.all.ensures.ran (YieldsList-from_slice (take c.args.p c.as_chunks.result.0.now) cc) (λ x b q k. search rules)
    ∙ rw c.as_chunks.ensures.front (pinouts_first c.args.connectors.now c.args.p c.told-connectors c.requires)
