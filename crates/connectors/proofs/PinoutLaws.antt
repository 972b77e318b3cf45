-- The pinout's rule by bounds of its four bytes, as the code tests it. Assumes nothing.
use mathlib.Core.Path.{◌≡◌, refl, sym, ◌∙◌, ap}
use mathlib.Core.Bool.{Bool, true, ◌&&◌}
use mathlib.Core.List.{List}
use Prim.Native.Nat.{ℕ, ◌<◌}
use native.Mathlib.Omega.{arith}
use lib.Dec.{eqb, ltb}
use lib.ListN.{get_or}
use mir.Syntax.{w8}
use mir.Val.{Fits}
use Rattle.laws.specs.All.{all_to}
use Rattle.laws.specs.Fill.{list_to, get_or_list_to}
use Rattle.wire.specs.Number.{bytes}
use Rattle.connectors.specs.Pinout.{only_bit, bits_within, pinout_holds}

-- two tests of a byte that agree in a table of all 256
by_table : (f g : ℕ → Bool) (v : ℕ) → v < 256 → list_to f 256 ≡ list_to g 256 → f v ≡ g v
by_table f g v h e = sym (get_or_list_to f 256 v true h) ∙ ap (λ (l : List Bool). get_or l v true) e ∙ get_or_list_to g 256 v true h

first_byte : list_to (λ (v : ℕ). ltb v 4) 256 ≡ list_to (λ (v : ℕ). bits_within v 3) 256
unfolding list_to bits_within all_to only_bit
first_byte = refl

lanes_byte : list_to (λ (v : ℕ). ltb v 16) 256 ≡ list_to (λ (v : ℕ). bits_within v 15) 256
unfolding list_to bits_within all_to only_bit
lanes_byte = refl

last_byte : list_to (λ (v : ℕ). eqb v 0) 256 ≡ list_to (λ (v : ℕ). bits_within v 0) 256
unfolding list_to bits_within all_to only_bit
last_byte = refl

pub pinout_bounds : (c : List ℕ) → ((i : ℕ) → i < 4 → get_or c i 0 < 256)
    → ltb (get_or c 0 0) 4 && ltb (get_or c 1 0) 16 && ltb (get_or c 2 0) 16 && eqb (get_or c 3 0) 0 ≡ pinout_holds c
unfolding pinout_holds all_to bytes
pinout_bounds c h =
    rw (
      by_table (λ (v : ℕ). ltb v 4) (λ (v : ℕ). bits_within v 3) (get_or c 0 0) (h 0 (omega arith)) first_byte,
      by_table (λ (v : ℕ). ltb v 16) (λ (v : ℕ). bits_within v 15) (get_or c 1 0) (h 1 (omega arith)) lanes_byte,
      by_table (λ (v : ℕ). ltb v 16) (λ (v : ℕ). bits_within v 15) (get_or c 2 0) (h 2 (omega arith)) lanes_byte,
      by_table (λ (v : ℕ). eqb v 0) (λ (v : ℕ). bits_within v 0) (get_or c 3 0) (h 3 (omega arith)) last_byte,
    )
    refl

-- the same, with what is known of an array's elements
pub pinout_fits : (c : List ℕ) → ((i : ℕ) → Fits w8 (get_or c i 0))
    → ltb (get_or c 0 0) 4 && ltb (get_or c 1 0) 16 && ltb (get_or c 2 0) 16 && eqb (get_or c 3 0) 0 ≡ pinout_holds c
pinout_fits c h = pinout_bounds c (λ i l. (h i).fits)
