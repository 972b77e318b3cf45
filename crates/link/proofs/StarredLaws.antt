-- What is proved of the definitions in specs/Starred.antt. Assumes nothing.
use mathlib.Core.Path.{refl}
use Rattle.laws.specs.Cases.{Holds, All}
use Rattle.phy.specs.Entity.{attached_type, no_device, programmed_minimum, programmed_maximum}
use Rattle.fields.specs.Rules.{is_rate}
use Rattle.link.specs.Rule.{in_both, rates_rule, plain_rule, waiting_rate, rule_of}
use Rattle.link.specs.Starred.{link_cases}

pub link_starred : All Holds link_cases
unfolding rule_of plain_rule waiting_rate is_rate rates_rule in_both no_device attached_type programmed_minimum programmed_maximum
link_starred = (refl, (refl, tt))
