-- The level that a command needs (document 01, "Level", from Table 8 of 001). Assumes nothing.
use Rattle.std.specs.Prelude.{Bool, false, ◌||◌, cond, List, [], ◌∷◌, ℕ, eqb}
use Rattle.level.specs.declared.Level.{Level}
use Rattle.level.specs.Text.{restricted, limited, full}

-- "Restricted: 00 20 24 25 26 27 29 2F 40 42 70 90 A1 B0 C4 C7 C8 E4 E5 E7 EA EC F8 (all h)"
abbrev pub restricted_commands : List ℕ
restricted_commands =
    0x00 ∷ 0x20 ∷ 0x24 ∷ 0x25 ∷ 0x26 ∷ 0x27 ∷ 0x29 ∷ 0x2f ∷ 0x40 ∷ 0x42 ∷ 0x70 ∷ 0x90
    ∷ 0xa1 ∷ 0xb0 ∷ 0xc4 ∷ 0xc7 ∷ 0xc8 ∷ 0xe4 ∷ 0xe5 ∷ 0xe7 ∷ 0xea ∷ 0xec ∷ 0xf8 ∷ []

-- "Limited: 92h, E8h"
abbrev pub limited_commands : List ℕ
limited_commands = 0x92 ∷ 0xe8 ∷ []

unfoldable pub among : ℕ → List ℕ → Bool
among n [] = false
among n (x ∷ xs) = eqb n x || among n xs

-- "All others Full, A0h too"
unfoldable pub need_of : ℕ → Level
need_of command = cond (among command restricted_commands) restricted (cond (among command limited_commands) limited full)
