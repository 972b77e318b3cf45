-- Code 26, get SATA signature (6.13). Assumes nothing.
use Rattle.std.specs.Prelude.{cond, List, ℕ, eqb, ltb, get_or}
use Rattle.laws.specs.Splice.{splice}
use Rattle.codes.specs.Codes.{phy_does_not_exist, no_sata_device, no_sata_signature}
use Rattle.phy.specs.declared.Phy.{Phy}
use Rattle.phy.specs.Entity.{is_sata}
use Rattle.adapter.specs.Adapter.{Adapter, phy_in}
use Rattle.reports.specs.Report.{Report, report, filled}

-- "SATA phy; signature held; fill it in"
unfoldable pub signature_of : Phy → List ℕ → Report
signature_of phy body =
    cond (is_sata phy)
    (cond (eqb phy.held 1) (filled (splice body 4 phy.signature)) (report no_sata_signature body))
    (report no_sata_device body)

-- "26: phy exists", and what follows
unfoldable pub sata_signature : Adapter → List ℕ → Report
sata_signature ad body = cond (ltb (get_or body 0 0) ad.phy_count) (signature_of (phy_in ad (get_or body 0 0)) body) (report phy_does_not_exist body)
