use Rattle.std.proofs.Common.{rules, arith}
use Rattle.std.proofs.lemmas.Grind.{common_steps}
use Rattle.connectors.proofs.PinoutLaws.{pinout_fits}
use Rattle.connectors.proofs.pinout_holds.Goals as goal

pub returns-then-connector-lt16-2 : goal.returns-then-connector-lt16-2
returns-then-connector-lt16-2 c = rw (← pinout_fits c.args.connector.now (search rules)) (grind (arith, common_steps))

pub returns-else-connector-lt16-2 : goal.returns-else-connector-lt16-2
returns-else-connector-lt16-2 c = rw (← pinout_fits c.args.connector.now (search rules)) (grind (arith, common_steps))
