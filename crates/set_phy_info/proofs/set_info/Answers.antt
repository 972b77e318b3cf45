use Rattle.std.proofs.Common.{◌≡◌, ◌∙◌, ap, rules}
use Rattle.codes.specs.Codes.{success}
use Rattle.codes.specs.Numbers.{return_number, code_of}
use Rattle.adapter.specs.Changed.{gives}
use Rattle.tables.specs.Tables.{tables_of}
use Rattle.set_phy_info.proofs.Laws.{info_found, info_missing}
use Rattle.set_phy_info.proofs.set_info.Goals as goal

pub returns-in_err-phy : goal.returns-in_err-phy
returns-in_err-phy c = search (info_missing, rules)

pub returns-in_err-phy-2 : goal.returns-in_err-phy-2
returns-in_err-phy-2 c =
    let ad = tables_of c.args.tables.now in
    let k : code_of c.from_residual-in_err-phy-2.result ≡ return_number c.in_err-phy-2.field-0.0 = search rules in
    info_found ad c.args.body.now c.phy.result c.phy.ensures.phy ad (code_of c.from_residual-in_err-phy-2.result) c.phy_setting.result c.in_ok-phy.phy c.in_ok-phy.ensures.ok_part c.phy_setting.ensures
    (ap (λ n. gives n ad) k ∙ c.in_err-phy-2.ensures ad _)

pub returns : goal.returns
returns c =
    let ad = tables_of c.args.tables.now in
    info_found ad c.args.body.now c.phy.result c.phy.ensures.phy (tables_of c.store_phy.new.tables) success c.phy_setting.result c.in_ok-phy.phy c.in_ok-phy.ensures.ok_part c.phy_setting.ensures
    (ap (gives success) c.store_phy.ensures ∙ c.in_ok-phy-2.ensures ad _)
