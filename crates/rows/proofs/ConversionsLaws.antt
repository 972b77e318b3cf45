-- The two conversions undo each other on rows that hold (document 01: "27: the row with that SAS address and LUN gives the
-- four OS bytes; 28: the other way"). Assumes nothing.
use mathlib.Core.Path.{◌≡◌, refl}
use mathlib.Core.Bool.{Bool, true, false, not, ◌||◌, false≢true}
use mathlib.Core.List.{List}
use Prim.Native.Nat.{ℕ, ◌<◌}
use Rattle.laws.specs.All.{all_at}
use Rattle.laws.specs.First.{first, first_at, first_only}
use Rattle.wire.specs.Same.{same_bytes}
use Rattle.wire.proofs.SameLaws.{same_refl, same_eq}
use Rattle.rows.specs.Row.{Row, row_at, apart, fresh, rows_hold, sas_index, os_index}

-- ---- rows that hold share no key, be it the SAS address and LUN or the OS bytes

neither_left : (a b : Bool) → not (a || b) ≡ true → a ≡ false
neither_left true b p = absurd (false≢true p)
neither_left false b p = refl

neither_right : (a b : Bool) → not (a || b) ≡ true → b ≡ false
neither_right true b p = absurd (false≢true p)
neither_right false true p = absurd (false≢true p)
neither_right false false p = refl

hold_apart : (rows : List Row) (a i j : ℕ) → rows_hold rows a ≡ true → j < i → i < a → apart (row_at rows j) (row_at rows i) ≡ true
unfolding rows_hold fresh
hold_apart rows a i j p l h = all_at (λ (m : ℕ). apart (row_at rows m) (row_at rows i)) i j (all_at (fresh rows) a i p h) l

module _ (key : Row → List ℕ) (rows : List Row) (a : ℕ) where
  keyed : List ℕ → ℕ → Bool
  keyed x i = same_bytes (key (row_at rows i)) x

  key_found : (x : List ℕ) → first (keyed x) a < a → key (row_at rows (first (keyed x) a)) ≡ x
  unfolding keyed
  key_found x h = same_eq (key (row_at rows (first (keyed x) a))) x (first_at (keyed x) a h)

  key_own : (i : ℕ) → i < a → ((j : ℕ) → j < i → same_bytes (key (row_at rows j)) (key (row_at rows i)) ≡ false)
      → first (keyed (key (row_at rows i))) a ≡ i
  unfolding keyed
  key_own i h q = first_only (keyed (key (row_at rows i))) a i h (same_refl (key (row_at rows i))) q

-- ---- what upper crates cite, for rows of which the first a hold

module _ (rows : List Row) (a : ℕ) where
  -- the row that was found is the one asked for
  pub sas_found : (sas : List ℕ) → sas_index rows a sas < a → (row_at rows (sas_index rows a sas)).sas ≡ sas
  unfolding sas_index keyed
  sas_found sas h = key_found (λ (r : Row). r.sas) rows a sas h

  pub os_found : (os : List ℕ) → os_index rows a os < a → (row_at rows (os_index rows a os)).os ≡ os
  unfolding os_index keyed
  os_found os h = key_found (λ (r : Row). r.os) rows a os h

  -- each row is found by its own bytes
  pub sas_own : (i : ℕ) → rows_hold rows a ≡ true → i < a → sas_index rows a (row_at rows i).sas ≡ i
  unfolding sas_index keyed apart
  sas_own i p h =
      key_own (λ (r : Row). r.sas) rows a i h
      (λ j l. neither_left (same_bytes (row_at rows j).sas (row_at rows i).sas) (same_bytes (row_at rows j).os (row_at rows i).os) (hold_apart rows a i j p l h))

  pub os_own : (i : ℕ) → rows_hold rows a ≡ true → i < a → os_index rows a (row_at rows i).os ≡ i
  unfolding os_index keyed apart
  os_own i p h =
      key_own (λ (r : Row). r.os) rows a i h
      (λ j l. neither_right (same_bytes (row_at rows j).sas (row_at rows i).sas) (same_bytes (row_at rows j).os (row_at rows i).os) (hold_apart rows a i j p l h))

  -- the reply to a 27 fed to a 28 gives the address back, and the other way
  pub sas_back : (sas : List ℕ) → rows_hold rows a ≡ true → sas_index rows a sas < a
      → (row_at rows (os_index rows a (row_at rows (sas_index rows a sas)).os)).sas ≡ sas
  sas_back sas p h = rw (os_own (sas_index rows a sas) p h) (sas_found sas h)

  pub os_back : (os : List ℕ) → rows_hold rows a ≡ true → os_index rows a os < a
      → (row_at rows (sas_index rows a (row_at rows (os_index rows a os)).sas)).os ≡ os
  os_back os p h = rw (sas_own (os_index rows a os) p h) (os_found os h)
