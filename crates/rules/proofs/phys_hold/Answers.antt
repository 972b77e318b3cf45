use Rattle.std.proofs.Common.{rules, ◌∙◌, refl, ℕ, arith}
use Rattle.std.proofs.lemmas.Iterator.Search.{all_from_yields_List}
use Rattle.std.proofs.lemmas.Iterator.{YieldsList-from_range}
use Rattle.fields.specs.Rules.{fields_hold}
use Rattle.fields.proofs.RangeLaws.{all_range}
use Rattle.adapter.specs.Adapter.{phy_in}
use Rattle.tables.specs.Tables.{tables_of}
use Rattle.rules.specs.Fields.{fields_to}
use Rattle.rules.proofs.phys_hold.Goals as goal

pub returns : goal.returns
unfolding fields_to
returns c =
    let holds = λ (n : ℕ). fields_hold (phy_in (tables_of c.args.tables.now) n) (record { 0 = n }) c.args.p in
    let numbers = YieldsList-from_range 0 c.args.p c.args.p refl (omega arith) in
    all_from_yields_List holds _ _ _ c.all.ensures.ran numbers (λ n b q k. search rules) ∙ all_range holds c.args.p
