-- What a pinout may have (W-204; 6.18.3 of CSMI): "pinout bits outside section 10's pinout constants (104)". Assumes nothing.
use Rattle.std.specs.Prelude.{Bool, List, ℕ, zero, suc, ◌+◌, ◌*◌, ◌/◌, ◌%◌, leb, get_or}
use Rattle.laws.specs.All.{all_to}
use Rattle.codes.specs.Codes.{con_unknown, con_sff8482, con_sff8470_lane1, con_sff8470_lane2, con_sff8470_lane3, con_sff8470_lane4, con_sff8484_lane1, con_sff8484_lane2, con_sff8484_lane3, con_sff8484_lane4}
use Rattle.wire.specs.Number.{bytes}

-- section 10's pinout constants, one bit each, together 000F0F03h
abbrev pub pinout_constants : ℕ
pinout_constants =
    con_unknown + con_sff8482
    + (con_sff8470_lane1 + con_sff8470_lane2 + con_sff8470_lane3 + con_sff8470_lane4)
    + (con_sff8484_lane1 + con_sff8484_lane2 + con_sff8484_lane3 + con_sff8484_lane4)

-- the number whose bit b alone is 1
unfoldable pub only_bit : ℕ → ℕ
only_bit zero = 1
only_bit (suc b) = 2 * only_bit b

-- each bit of the byte v that is 1 is 1 in the byte m
unfoldable pub bits_within : ℕ → ℕ → Bool
bits_within v m = all_to (λ (b : ℕ). leb (v / only_bit b % 2) (m / only_bit b % 2)) 8

-- of a connector: its pinout, the first four bytes, has no bit outside the constants
unfoldable pub pinout_holds : List ℕ → Bool
pinout_holds c = all_to (λ (i : ℕ). bits_within (get_or c i 0) (get_or (bytes 4 pinout_constants) i 0)) 4
