-- Demand 3, in one piece (document 01, "Two runs and the last writer"; W-201: "demand 3's lists may hold" requests under either header; W-207: the stage and the running revisions "belong to what is compared"). Its proof is `claim` in proofs/Demand3.antt. That each request of a run is
-- answered and carried out as document 01 defines stands in `run` (Run.antt), which is made of `opened_of` and `handled`; the contracts of
-- `state::open`, `dispatch::request` and `dispatch::request_linux` equate the calls with these two. Assumes nothing.
use Rattle.std.specs.Prelude.{◌≡◌, true, false, List, ℕ, ◌<◌, ◌≤◌, length}
use Rattle.laws.specs.Cases.{All}
use Rattle.phy.specs.Entity.{programmed_minimum, programmed_maximum}
use Rattle.layout.specs.Layout.{phy_count}
use Rattle.adapter.specs.Adapter.{phy_in}
use Rattle.level.specs.Text.{text_level}
use Rattle.state.specs.State.{state_with, zero_state}
use Rattle.state.specs.Open.{opened_of}
use Rattle.service.specs.Serve.{Store}
use Rattle.header.specs.declared.Kind.TheVariants.{Linux}
use Rattle.header.specs.Sent.{Request}
use Rattle.claims.specs.Run.{Entry, End, whole_run, exchanges, requests_in, not_denied, denial}
use Rattle.claims.specs.LastWriter.{Sector, sector_in, last_sector, last_minimum, last_maximum}

-- "the last-writer half", of a run with this text, file and medium and this end; a store is what is lent and written, the medium and the stage
pub record LastWriterHalf (text file : List ℕ) (store : Store) (end : End) : Type 0 where
  -- "Where the opening accepts, the half holds for every sector of every disk and both programmed rates of every phy below the
  -- file's p"
  pub sectors : (opened_of text file store.medium).call ≡ 0 → (s : Sector) → s.phy < phy_count file → s.number < 16
      → sector_in end.point.store s ≡ last_sector file store (exchanges end.log) s
  pub minima : (opened_of text file store.medium).call ≡ 0 → (n : ℕ) → n < phy_count file
      → programmed_minimum (phy_in end.point.state.adapter n) ≡ last_minimum file (exchanges end.log) n
  pub maxima : (opened_of text file store.medium).call ≡ 0 → (n : ℕ) → n < phy_count file
      → programmed_maximum (phy_in end.point.state.adapter n) ≡ last_maximum file (exchanges end.log) n
  -- the disks are as many bytes as at the start, so that a sector is 512 of them
  pub size : length end.point.store.medium ≡ length store.medium
  -- "After a refused opening there is no phy and no programmed rate, and the whole medium stays as it was", and the stage
  pub refused_state : ((opened_of text file store.medium).call ≡ 0 → ⊥) → end.point.state ≡ zero_state
  pub refused_store : ((opened_of text file store.medium).call ≡ 0 → ⊥) → end.point.store ≡ store

-- what holds of each run by itself, whatever its level
pub record OneRun (text file : List ℕ) (store : Store) (requests : List Request) (end : End) : Type 0 where
  -- every request of its list was answered, in order
  pub all_answered : requests_in end.log ≡ requests
  -- a request changes no level: it is the opening's at the end of this list, and so of every list that begins it
  pub level : end.point.state.level ≡ (opened_of text file store.medium).state.level
  -- the reply to a denied request is the request with return code 4, and call number 0
  pub denials : All (λ (e : Entry). e.denied ≡ true → e.exchange.reply ≡ denial e.exchange.sent) end.log
  -- requests under the Linux header "are never denied" (W-201), so both runs are given them
  pub linux : All (λ (e : Entry). (control : ℕ) → e.exchange.sent.kind ≡ Linux control → e.denied ≡ false) end.log
  pub last_writer : LastWriterHalf text file store end

-- the ends of the lower and the higher run, compared
pub record Comparison (lower higher : End) : Type 0 where
  -- "Tables, counters and disks are every field of the state but the level, and every byte of the medium"; and every byte of the stage. The running
  -- revisions stand in the configuration, one of the tables
  pub tables : state_with higher.point.state.level lower.point.state.adapter ≡ higher.point.state
  pub store : lower.point.store ≡ higher.point.store
  -- the requests that both were given got the same replies
  pub replies : exchanges (not_denied lower.log) ≡ exchanges higher.log

-- "Both runs start with the same file and the same medium bytes", and "the same [stage] at the start of both runs"
module _ (low high file : List ℕ) (store : Store) (requests : List Request) where
  abbrev pub lower_run : End
  lower_run = whole_run low file store requests

  -- "The higher run's list is the lower's without the requests denied there"
  abbrev pub given_both : List Request
  given_both = requests_in (not_denied lower_run.log)

  abbrev pub higher_run : End
  higher_run = whole_run high file store given_both

  pub record TwoRuns : Type 0 where
    pub lower : OneRun low file store requests lower_run
    pub higher : OneRun high file store given_both higher_run
    -- "each text gives a level, the lower run's at most the higher's"
    pub comparison : (text_level low).call ≡ 0 → (text_level high).call ≡ 0 → (text_level low).level.0 ≤ (text_level high).level.0
        → Comparison lower_run higher_run

-- demand 3: for every file, medium and stage, every list of requests, and two texts
abbrev pub Claim : Type 0
Claim = (low high file : List ℕ) (store : Store) (requests : List Request) → TwoRuns low high file store requests
