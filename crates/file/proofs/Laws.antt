-- Laws for the proofs of this crate. Assumes nothing.
use mathlib.Core.Path.{◌≡◌, ◌∙◌, ap}
use mathlib.Core.List.{List}
use Prim.Native.Nat.{ℕ, ◌≤◌}
use lib.ListN.{length, replicate}
use Rattle.adapter.specs.Adapter.{zero_adapter}
use Rattle.tables.specs.Tables.{tables_size, tables_of}
use Rattle.tables.proofs.ZeroLaws.{zero_tables}
use Rattle.contents.specs.Contents.{adapter_of}

-- the phy count of what was read
pub count_read : (file t : List ℕ) (p a : ℕ) → p ≤ 32 → tables_of t ≡ adapter_of file p a → (tables_of t).phy_count ≤ 32
unfolding adapter_of
count_read file t p a h e = rw e h

-- tables filled with 0
pub cleared : (t s : List ℕ) → length t ≡ tables_size → s ≡ replicate (length t) 0 → tables_of s ≡ zero_adapter
cleared t s n e = ap tables_of (e ∙ ap (λ (k : ℕ). replicate k 0) n) ∙ zero_tables
