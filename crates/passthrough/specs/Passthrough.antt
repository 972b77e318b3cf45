-- Code 25, STP passthrough (6.12). `medium` is all the disks, `body` the bytes of the request behind its header. Assumes nothing.
use Rattle.std.specs.Prelude.{Bool, cond, ◌&&◌, ◌||◌, List, ℕ, ◌*◌, eqb, leb}
use Rattle.laws.specs.Splice.{part, splice}
use Rattle.codes.specs.Codes.{success, invalid_parameter, connection_failed}
use Rattle.phy.specs.declared.Phy.{Phy}
use Rattle.phy.specs.Entity.{is_sata, negotiated_of, attached_is}
use Rattle.fields.specs.Rules.{is_rate}
use Rattle.stp.specs.Body.{phy_asked, port_asked, connection_rate, destination_of, fis}
use Rattle.disk.specs.Disk.{Performed, performed}
use Rattle.adapter.specs.Adapter.{Adapter, phy_in}
use Rattle.select.specs.Select.{Selection, select_in}

-- the return code, the medium and the body that a request leaves
pub record Passed : Type 0 where
  pub code : ℕ
  pub medium : List ℕ
  pub body : List ℕ

-- the three together
abbrev pub passes : ℕ → List ℕ → List ℕ → Passed
passes code medium body = record { code = code; medium = medium; body = body }

-- ---- what is asked of a request

-- "FIS byte 0 is 27h and connection rate is 0, 8 or 9"
unfoldable pub form_holds : ℕ → ℕ → Bool
form_holds type rate = eqb type 0x27 && (eqb rate 0 || is_rate rate)

-- "Connected if it is a SATA phy, negotiated 8 or 9, connection rate not above that, destination = attached SAS address"
unfoldable pub connected : Phy → ℕ → List ℕ → Bool
connected phy rate destination = is_sata phy && is_rate (negotiated_of phy) && leb rate (negotiated_of phy) && attached_is phy destination

-- ---- what it does

-- "Phy n's disk is the n-th run of 8,192 bytes of the medium, counting from 0"
abbrev pub disk_of : List ℕ → ℕ → List ℕ
disk_of medium n = part medium (8192 * n) 8192

-- what a served command leaves, with the disk back in its place
abbrev pub put_back : List ℕ → ℕ → Performed → Passed
put_back medium n s = passes s.code (splice medium (8192 * n) s.disk) s.body

-- "Then the disk"
unfoldable pub on_disk : List ℕ → ℕ → List ℕ → Passed
on_disk medium n body = put_back medium n (performed (disk_of medium n) body)

-- "otherwise 2009, for every device type": CONNECTION_FAILED, which section 10 numbers 2008
unfoldable pub sent_to : Adapter → List ℕ → List ℕ → ℕ → Passed
sent_to ad medium body n =
    cond (connected (phy_in ad n) (connection_rate body) (destination_of body)) (on_disk medium n body) (passes connection_failed medium body)

-- the phy that was selected, or the code of the selection
unfoldable pub passed_to : Adapter → List ℕ → List ℕ → Selection → Passed
passed_to ad medium body s = cond (eqb s.code success) (sent_to ad medium body s.phy.0) (passes s.code medium body)

-- "25: FIS byte 0 ..; phy and port .. Connected if .. Then the disk"
unfoldable pub passthrough : Adapter → List ℕ → List ℕ → Passed
passthrough ad medium body =
    cond (form_holds (fis body 0) (connection_rate body)) (passed_to ad medium body (select_in ad (phy_asked body) (port_asked body)))
    (passes invalid_parameter medium body)
