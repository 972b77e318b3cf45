-- What is proved of the definitions in specs/Row.antt. Assumes nothing.
use mathlib.Core.Path.{◌≡◌}
use mathlib.Core.Bool.{true}
use mathlib.Core.List.{List}
use Prim.Native.Nat.{ℕ, ◌+◌, ◌-◌, ◌<◌, ◌≤◌}
use native.Mathlib.Omega.{arith}
use lib.ListN.{replicate}
use Rattle.laws.specs.Choice.{both}
use Rattle.laws.specs.All.{all_by}
use Rattle.wire.specs.Same.{same_bytes}
use Rattle.wire.proofs.SameLaws.{same_refl}
use Rattle.rows.specs.Row.{Row, row_at, row_zero, zero_from, zero_row}

-- ---- zero from a on is what it says of each row

pub zero_by : (rows : List Row) (a : ℕ) → ((i : ℕ) → a ≤ i → i < 64 → row_at rows i ≡ zero_row) → zero_from rows a ≡ true
unfolding zero_from row_zero
zero_by rows a h =
    all_by (λ (k : ℕ). row_zero (row_at rows (a + k))) (64 - a)
    (λ k l. rw (h (a + k) (omega arith) (omega arith)) (both (same_bytes (replicate 16 0) (replicate 16 0)) (same_bytes (replicate 4 0) (replicate 4 0)) (same_refl (replicate 16 0)) (same_refl (replicate 4 0))))
