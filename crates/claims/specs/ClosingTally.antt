-- The closing tally of a run (W-206), in document 01's terms: what counts as granted and as denied is what "Request" calls so, and of two runs as
-- demand 3 has them the totals differ by the denied requests alone. Assumes nothing.
use Rattle.std.specs.Prelude.{◌≡◌, List, ℕ, ◌+◌, ◌≤◌, eqb, length}
use Rattle.codes.specs.Codes.{short_buffer}
use Rattle.level.specs.Text.{text_level}
use Rattle.tally.specs.Totals.{Totals}
use Rattle.tally.specs.Totals.{number_of, tally_of, Sums}
use Rattle.header.specs.Sent.{Request}
use Rattle.service.specs.Serve.{Store}
use Rattle.dispatch.specs.Request.{Point}
use Rattle.claims.specs.Run.{Entry, End, run}
use Rattle.claims.specs.Lines.{lines_of}
use Rattle.claims.specs.LastWriter.{granted}
use Rattle.claims.specs.Claim.{lower_run, higher_run}

-- the totals of a run's lines
abbrev pub totals_of : End → Totals
totals_of end = tally_of (lines_of end.log)

-- ---- one run

pub record Counts (requests : List Request) (end : End) : Type 0 where
  -- every request has a line
  pub all : (totals_of end).requests ≡ length requests
  -- "granted if the call's number is 0 and the return code it wrote is 0 or 2000"
  pub granted : (totals_of end).granted ≡ number_of (λ (e : Entry). granted e.exchange) end.log
  -- "denied if it passes all before the level and its need is above it"
  pub denied : (totals_of end).denied ≡ number_of (λ (e : Entry). e.denied) end.log
  -- "100s": the number of a buffer under the size of its header
  pub short : (totals_of end).short ≡ number_of (λ (e : Entry). eqb e.exchange.reply.call short_buffer) end.log
  -- "the last four sum to the first", so that the rest is otherwise refused
  pub sums : Sums (totals_of end)

-- ---- two runs

-- the lower one has the denied requests more, and all else is the same
pub record Beside (lower higher : Totals) : Type 0 where
  pub requests : lower.requests ≡ higher.requests + lower.denied
  pub granted : lower.granted ≡ higher.granted
  pub denied : higher.denied ≡ 0
  pub otherwise : lower.otherwise ≡ higher.otherwise
  pub short : lower.short ≡ higher.short

-- from any point and of any list of requests under either header; and of the two runs of demand 3
pub record ClosingTally : Type 0 where
  pub one_run : (p : Point) (requests : List Request) → Counts requests (run p requests)
  pub two_runs : (low high file : List ℕ) (store : Store) (requests : List Request)
      → (text_level low).call ≡ 0 → (text_level high).call ≡ 0 → (text_level low).level.0 ≤ (text_level high).level.0
      → Beside (totals_of (lower_run low high file store requests)) (totals_of (higher_run low high file store requests))
