-- Laws for the proofs of this crate and of the crates above. Assumes nothing.
use mathlib.Core.Path.{◌≡◌, sym, ◌∙◌, ap}
use mathlib.Core.List.{List}
use Prim.Native.Nat.{ℕ, ◌+◌, ◌<◌, ◌≤◌}
use native.Mathlib.Omega.{arith}
use lib.ListN.{length}
use Rattle.laws.specs.Splice.{part, splice, length_part}
use Rattle.layout.specs.Layout.{row_place, connector_place, file_length}
use Rattle.contents.specs.Contents.{file_connector}
use Rattle.contents.specs.Parse.{row_from}

-- a part of a file, put as the entry that it is
pub entry_put : (file d s e : List ℕ) (at from n : ℕ) → part file from n ≡ e → s ≡ splice d at (part file from n) → s ≡ splice d at e
entry_put file d s e at from n h q = q ∙ ap (splice d at) h

pub entry_long : (file e : List ℕ) (from n : ℕ) → from + n ≤ length file → part file from n ≡ e → length e ≡ n
entry_long file e from n h q = ap length (sym q) ∙ length_part file from n h

-- row i of `a` rows stands within the file
pub row_within : (l : List ℕ) (p a i : ℕ) → i < a → length l ≡ file_length p a → row_place p i + 20 ≤ length l
row_within l p a i h e = omega arith

-- and its place gives it, among n
pub row_placed : (l : List ℕ) (p a n i r : ℕ) → i < n → n ≡ a → length l ≡ file_length p a → r ≡ row_place p i → (r + 20 ≤ length l) × (part l r 20 ≡ row_from l p i)
unfolding row_from
row_placed l p a n i r h k e q = (rw q (row_within l p a i (rw k at h) e), ap (λ (at : ℕ). part l at 20) q)

-- and so does that of phy i's connector
pub connector_placed : (l : List ℕ) (p a n i r : ℕ) → i < n → n ≡ p → length l ≡ file_length p a → r ≡ connector_place p a i
    → (r + 36 ≤ length l) × (part l r 36 ≡ file_connector l p a i)
unfolding file_connector
connector_placed l p a n i r h k e q = (rw q (omega arith), ap (λ (at : ℕ). part l at 36) q)
