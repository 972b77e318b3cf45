use Rattle.std.proofs.Common.{rules, ◌∙◌, refl, ℕ, arith}
use Rattle.std.proofs.lemmas.Iterator.Search.{all_from_yields_List}
use Rattle.std.proofs.lemmas.Iterator.{YieldsList-from_range}
use Rattle.adapter.specs.Adapter.{phy_in}
use Rattle.tables.specs.Tables.{tables_of}
use Rattle.link.specs.Rule.{negotiated_holds}
use Rattle.link.specs.All.{negotiated_all}
use Rattle.fields.proofs.RangeLaws.{all_range}
use Rattle.negotiated.proofs.all_negotiated.Goals as goal

pub returns : goal.returns
unfolding negotiated_all
returns c =
    let holds = λ (n : ℕ). negotiated_holds (phy_in (tables_of c.args.tables.now) n) in
    all_from_yields_List holds _ _ _ c.all.ensures.ran
    (YieldsList-from_range 0 _ c.phy_count.result refl (omega (arith, c.requires.few_phys, c.phy_count.ensures))) (λ n b q k. search rules)
    ∙ all_range holds c.phy_count.result
    ∙ rw c.phy_count.ensures refl
