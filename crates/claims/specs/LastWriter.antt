-- The last writer of every sector and every programmed rate (document 01, "Two runs and the last writer"): by the file, the medium
-- at the start, the requests as sent and their replies, never by a state. Assumes nothing.
use Rattle.std.specs.Prelude.{Bool, cond, ◌&&◌, not, List, ℕ, ◌+◌, ◌-◌, ◌*◌, eqb, get_or}
use Rattle.laws.specs.Runs.{fold}
use Rattle.laws.specs.Splice.{part}
use Rattle.codes.specs.Codes.{success, set_phy_info, stp_passthru}
use Rattle.phy.specs.Entity.{port_of, programmed_minimum, programmed_maximum}
use Rattle.layout.specs.Layout.{phy_count}
use Rattle.contents.specs.Contents.{file_phy}
use Rattle.disk.specs.Disk.{lba}
use Rattle.disk.specs.Sector.{sector, reply_status, covers}
use Rattle.select.specs.Select.{Selection}
use Rattle.select.specs.Select.{select_by}
use Rattle.stp.specs.Body.{phy_asked, port_asked, command, data_place}
use Rattle.passthrough.specs.Passthrough.{disk_of}
use Rattle.header.specs.Form.{behind_header, return_code}
use Rattle.service.specs.Serve.{Store}
use Rattle.header.specs.Sent.{form_of, control_of, body_of}
use Rattle.claims.specs.Run.{Exchange}

-- ---- what an exchange tells

-- "granted if the call's number is 0 and the return code it wrote is 0 or 2000", which section 10 has as STATUS_SUCCESS and
-- PHY_INFO_CHANGED, both 0
unfoldable pub granted : Exchange → Bool
granted x = eqb x.reply.call 0 && eqb (return_code (form_of x.sent) x.reply.buffer) success

-- whether it was granted, its control code, and the bodies of the request as sent and of its reply
pub record Told : Type 0 where
  pub granted : Bool
  pub control : ℕ
  pub body : List ℕ
  pub reply : List ℕ

unfoldable pub told_by : Exchange → Told
told_by x =
    record {
      granted = granted x;
      control = control_of x.sent;
      body = body_of x.sent;
      reply = behind_header (form_of x.sent) x.reply.buffer;
    }

-- ---- any last writer

-- of things found by a key: the control code that writes them, which of them a request writes, and what it puts there
pub record Writer (K A : Type 0) : Type 0 where
  pub code : ℕ
  pub writes : K → Told → Bool
  pub puts : K → Told → A

module _ {K A : Type 0} (w : Writer K A) (key : K) where
  -- "A granted code .. writes": what is there after one exchange, by what was there before
  unfoldable pub after : Told → A → A
  after t before = cond (t.granted && (eqb t.control w.code && w.writes key t)) (w.puts key t) before

  -- what the last exchange that wrote it put there, or what was there at the start
  abbrev pub last : A → List Exchange → A
  last = fold (λ (x : Exchange). after (told_by x))

-- ---- sectors

-- sector k of phy n's disk
pub record Sector : Type 0 where
  pub phy : ℕ
  pub number : ℕ

abbrev pub sector_in : Store → Sector → List ℕ
sector_in store s = sector (disk_of store.medium s.phy) s.number

-- "A granted code 25 with command 30h and status 50h in its reply's status FIS writes as many sectors as its count says, from its
-- LBA on, on the disk of the phy it selects: sector LBA + i gets bytes 512 × i to 512 × i + 511 of its bDataBuffer"
abbrev pub sector_writer : (List ℕ → Selection) → Writer Sector (List ℕ)
sector_writer selects =
    record {
      code = stp_passthru;
      writes = λ s t.
          eqb (command t.body) 0x30
          && eqb (reply_status t.reply) 0x50
          && eqb (selects t.body).code success
          && eqb (selects t.body).phy.0 s.phy
          && covers t.body s.number;
      puts = λ s t. part t.body (data_place + 512 * (s.number - lba t.body)) 512;
    }

-- "the phy it selects", found from the file and the request
unfoldable pub selects_by : List ℕ → List ℕ → Selection
selects_by file body = select_by (λ n. port_of (file_phy file n)) (phy_count file) (phy_asked body) (port_asked body)

-- "A sector starts as the medium has it"
abbrev pub last_sector : List ℕ → Store → List Exchange → Sector → List ℕ
last_sector file store xs s = last (sector_writer (selects_by file)) s (sector_in store s) xs

-- ---- programmed rates

-- "A granted code 21 writes its phy's programmed minimum if the request's byte for it isn't 0, and the maximum likewise; that byte is
-- the rate": the bytes stand at 2 and at 3 of the body
abbrev pub rate_writer : ℕ → Writer ℕ ℕ
rate_writer place =
    record {
      code = set_phy_info;
      writes = λ n t. eqb (get_or t.body 0 0) n && not (eqb (get_or t.body place 0) 0);
      puts = λ n t. get_or t.body place 0;
    }

-- "a programmed rate [starts] as the file does"
abbrev pub last_minimum : List ℕ → List Exchange → ℕ → ℕ
last_minimum file xs n = last (rate_writer 2) n (programmed_minimum (file_phy file n)) xs

abbrev pub last_maximum : List ℕ → List Exchange → ℕ → ℕ
last_maximum file xs n = last (rate_writer 3) n (programmed_maximum (file_phy file n)) xs
