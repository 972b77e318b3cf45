-- The disk of a phy and what a command does to it (document 01, "Disk"). `disk` is its 8,192 bytes, and `body` the bytes of a
-- code 25 request behind its header. Assumes nothing.
use Rattle.std.specs.Prelude.{Bool, cond, ◌≡◌, List, [], ◌∷◌, ◌++◌, ℕ, ◌+◌, ◌*◌, ◌/◌, ◌%◌, ◌≤◌, eqb, ltb, length, replicate}
use Rattle.laws.specs.Splice.{part, splice}
use Rattle.codes.specs.Codes.{success, invalid_parameter, open_accept}
use Rattle.wire.specs.Number.{bytes}
use Rattle.stp.specs.Body.{fis, command, data_length, status_place, data_place}
use Rattle.disk.specs.declared.AtaCommand.{AtaCommand}

-- ---- what the request asks

-- "Bit 6 of byte 7" is set
abbrev addressed : List ℕ → Bool
addressed body = eqb (fis body 7 / 64 % 2) 1

-- "LBA from FIS bytes 4 (lowest), 5, 6 and the low four bits of 7"
abbrev pub lba : List ℕ → ℕ
lba body = fis body 4 + 256 * (fis body 5 + 256 * (fis body 6 + 256 * (fis body 7 % 16)))

-- "count byte 12, where 0 means 256"
unfoldable pub count_of : ℕ → ℕ
count_of byte = cond (eqb byte 0) 256 byte

abbrev pub count : List ℕ → ℕ
count body = count_of (fis body 12)

-- all of it together, as the code reads it
unfoldable pub ata_command : List ℕ → AtaCommand
ata_command body =
    record { command = command body; addressed = addressed body; lba = lba body; count = count body; data_length = data_length body }

-- ---- what the disk answers

-- status, error, and how many bytes the command moves
pub record Answer : Type 0 where
  pub status : ℕ
  pub error : ℕ
  pub moved : ℕ

-- "Success is 50h, 0", with the bytes that it moves
abbrev pub succeeds : ℕ → Answer
succeeds moved = record { status = 0x50; error = 0; moved = moved }

-- "status 51h", with an error, and no byte is moved
abbrev pub fails : ℕ → Answer
fails error = record { status = 0x51; error = error; moved = 0 }

-- "Bit 6 of byte 7 clear: status 51h, error 04h. Past the last sector: 51h, 10h"
unfoldable pub transfer : Bool → ℕ → ℕ → Answer
transfer addressed lba count =
    cond addressed (cond (ltb 16 (lba + count)) (fails 0x10) (succeeds (512 * count))) (fails 0x04)

-- "20h reads and 30h writes sectors", "ECh gives 512 bytes", "E5h succeeds", "Other commands: 51h, 04h"
unfoldable pub answer_by : ℕ → Bool → ℕ → ℕ → Answer
answer_by command addressed lba count =
    cond (eqb command 0x20) (transfer addressed lba count)
    (cond (eqb command 0x30) (transfer addressed lba count)
    (cond (eqb command 0xec) (succeeds 512)
    (cond (eqb command 0xe5) (succeeds 0)
    (fails 0x04))))

-- the answer to a command, and to the body that holds it
abbrev pub answer_to : AtaCommand → Answer
answer_to r = answer_by r.command r.addressed r.lba r.count

abbrev pub answer_of : List ℕ → Answer
answer_of body = answer_to (ata_command body)

-- "ECh gives 512 bytes, word 49 = 0200h, word 60 = 16, else 0"
unfoldable pub identify : List ℕ
identify = splice (splice (replicate 512 0) (2 * 49) (bytes 2 0x0200)) (2 * 60) (bytes 2 16)

-- the sectors that a command names
abbrev pub sectors : List ℕ → AtaCommand → List ℕ
sectors disk r = part disk (512 * r.lba) (512 * r.count)

-- ---- the Status structure

-- "E5h succeeds with FFh in byte 12"
unfoldable pub byte_twelve : ℕ → ℕ → ℕ
byte_twelve command byte = cond (eqb command 0xe5) 0xff byte

-- "status FIS 34h, 0, status, error, bytes 4–13 of the command FIS (byte 12 as above), then 0"
abbrev status_fis : List ℕ → ℕ → ℕ → ℕ → List ℕ
status_fis body status error twelve =
    0x34 ∷ 0 ∷ status ∷ error
    ∷ fis body 4 ∷ fis body 5 ∷ fis body 6 ∷ fis body 7 ∷ fis body 8 ∷ fis body 9 ∷ fis body 10 ∷ fis body 11 ∷ twelve ∷ fis body 13
    ∷ 0 ∷ 0 ∷ 0 ∷ 0 ∷ 0 ∷ 0 ∷ []

-- "connection OPEN_ACCEPT"; "uSCR and reserved bytes 0; uDataBytes the bytes moved"
unfoldable pub status_of : List ℕ → ℕ → Answer → List ℕ
status_of body twelve a =
    (open_accept ∷ 0 ∷ 0 ∷ 0 ∷ []) ++ (status_fis body a.status a.error twelve ++ (replicate 64 0 ++ bytes 4 a.moved))

-- the body with Status filled in
unfoldable pub with_status : List ℕ → AtaCommand → Answer → List ℕ
with_status body r a = splice body status_place (status_of body (byte_twelve r.command (fis body 12)) a)

-- ---- what a request leaves

-- the return code, the disk and the body
pub record Performed : Type 0 where
  pub code : ℕ
  pub disk : List ℕ
  pub body : List ℕ

abbrev pub performs : ℕ → List ℕ → List ℕ → Performed
performs code disk body = record { code = code; disk = disk; body = body }

-- "If the data of a success exceeds uDataLength: code 3. Otherwise code 0 and Status", the data going "to or from the start of
-- bDataBuffer". "Such a 30h with status 50h writes its sectors"
unfoldable pub acted : List ℕ → List ℕ → AtaCommand → Answer → Performed
acted disk body r a =
    cond (ltb r.data_length a.moved) (performs invalid_parameter disk body)
    (cond (eqb a.status 0x51) (performs success disk (with_status body r a))
    (cond (eqb r.command 0x20) (performs success disk (splice (with_status body r a) data_place (sectors disk r)))
    (cond (eqb r.command 0xec) (performs success disk (splice (with_status body r a) data_place identify))
    (cond (eqb r.command 0x30) (performs success (splice disk (512 * r.lba) (part body data_place (512 * r.count))) (with_status body r a))
    (performs success disk (with_status body r a))))))

-- a request as it came
unfoldable pub performed : List ℕ → List ℕ → Performed
performed disk body = acted disk body (ata_command body) (answer_of body)

-- what a caller sees to: the disk is whole, and the body has the fixed part and n bytes of data
abbrev pub Lent : List ℕ → List ℕ → ℕ → Type 0
Lent disk body n = (length disk ≡ 8192) × (data_place + n ≤ length body)
