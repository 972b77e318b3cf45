-- A sector, the status that a reply shows, and which sectors a write covers, by the request and its reply alone (document 01, "Two runs and the
-- last writer"). Assumes nothing.
use Rattle.std.specs.Prelude.{Bool, ◌&&◌, List, ℕ, ◌+◌, ◌*◌, ltb, leb, get_or}
use Rattle.laws.specs.Splice.{part}
use Rattle.stp.specs.Body.{status_place}
use Rattle.disk.specs.Disk.{lba, count}

-- sector s of a disk
abbrev pub sector : List ℕ → ℕ → List ℕ
sector disk s = part disk (512 * s) 512

-- the status in a reply's status FIS
abbrev pub reply_status : List ℕ → ℕ
reply_status reply = get_or reply (status_place + 6) 0

-- "as many sectors as its count says, from its LBA on"
unfoldable pub covers : List ℕ → ℕ → Bool
covers body s = leb (lba body) s && ltb s (lba body + count body)
