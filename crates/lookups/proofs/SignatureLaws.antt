-- What the code of 26 needs: room for the signature in the body. Assumes nothing.
use mathlib.Core.Path.{◌≡◌}
use mathlib.Core.List.{List, map}
use Prim.Native.Nat.{ℕ, ◌+◌, ◌≤◌}
use native.Mathlib.Nat.{le_trans}
use lib.ListN.{length}
use borrow.Author.Rules.{length_unmapped}

-- an array that is a struct's field fits into a body with room for it
pub field_fits : (l body : List ℕ) (at n N : ℕ) → length (map (λ (v : ℕ). v) l) ≡ n → N ≤ length body → at + n ≤ N → at + length l ≤ length body
field_fits l body at n N e h k = rw (length_unmapped ℕ l n e) (le_trans k h)
