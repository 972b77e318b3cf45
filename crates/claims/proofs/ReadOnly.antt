-- The proof that below Limited no request under the first header leaves a trace, and below Full none but a code 4. Assumes nothing.
use mathlib.Core.Path.{◌≡◌, refl}
use mathlib.Core.Bool.{Bool, true}
use mathlib.Core.List.{List}
use Rattle.laws.specs.Runs.{ends_without, log_without}
use Rattle.level.specs.declared.Level.{Level}
use Rattle.level.specs.Text.{limited, full}
use Rattle.header.specs.Sent.{Request}
use Rattle.dispatch.specs.Request.{Point}
use Rattle.claims.specs.Run.{Entry, step, entry_of}
use Rattle.claims.specs.ReadOnly.{under_first, first_but_firmware, LeavesNoTrace, ReadOnly}
use Rattle.claims.proofs.Steps.{level_kept}
use Rattle.claims.proofs.ReadOnlySteps.{Below, limited_stays, full_stays}

below_kept : (l : Level) (p : Point) (r : Request) → Below l p → Below l (step p r)
below_kept l p r h = rw (level_kept p r) h

-- ---- a run

no_trace : (l : Level) (idle : Request → Bool) → ((p : Point) (r : Request) → Below l p → idle r ≡ true → step p r ≡ p)
    → (p : Point) (requests : List Request) → Below l p → LeavesNoTrace idle p requests
no_trace l idle stays p requests h =
    record {
      point = ends_without step entry_of (Below l) (below_kept l) idle stays p requests h;
      log = log_without step entry_of (Below l) (below_kept l) idle stays (λ (e : Entry). e.exchange.sent) (λ _ _. refl) p requests h;
    }

pub read_only : ReadOnly
read_only = record { below_limited = no_trace limited under_first limited_stays; below_full = no_trace full first_but_firmware full_stays }
