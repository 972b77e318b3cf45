use Rattle.std.proofs.Common.{rules, of_calls}
use Rattle.laws.specs.All.{all_bad_by}
use Rattle.unnamed.proofs.all_below.Goals as goal

pub returns-then-not-test : goal.returns-then-not-test
returns-then-not-test g c = all_bad_by g.holds c.args.n c.loop-k.k c.test.result (search rules) (search (of_calls, rules)) (search rules)
