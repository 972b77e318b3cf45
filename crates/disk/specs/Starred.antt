-- The starred disk cases of document 01 ("Starred cases"), by computation on the definitions. Each is the answer to the body of a code 25.
-- Assumes nothing.
use Rattle.std.specs.Prelude.{List, [], ◌∷◌, ◌++◌, ℕ, replicate}
use Rattle.laws.specs.Cases.{Case}
use Rattle.disk.specs.Disk.{answer_of}

-- a body up to its command FIS, whose bytes from 0 on are: its type, the flag of a command, the command's code, features; the LBA's three lower bytes
-- and byte 7; the LBA's and the features' further bytes; the count byte
abbrev body_with : ℕ → ℕ → ℕ → ℕ → List ℕ
body_with command lba seven byte =
    replicate 16 0 ++ (0x27 ∷ 0x80 ∷ command ∷ 0 ∷ lba ∷ 0 ∷ 0 ∷ seven ∷ 0 ∷ 0 ∷ 0 ∷ 0 ∷ byte ∷ [])

-- "Disk, bit 6 set": a command, the lowest byte of its LBA and its count byte, with the status and the error
abbrev bit_set : ℕ → ℕ → ℕ → ℕ → ℕ → Case
bit_set command lba byte status error =
    record {
      gives = (answer_of (body_with command lba 0x40 byte)).status ∷ (answer_of (body_with command lba 0x40 byte)).error ∷ [];
      said = status ∷ error ∷ [];
    }

abbrev pub disk_cases : List Case
disk_cases =
    bit_set 0x20 15 1 0x50 0
    ∷ bit_set 0x30 15 1 0x50 0
    ∷ bit_set 0x20 15 2 0x51 0x10
    ∷ bit_set 0x30 15 2 0x51 0x10
    ∷ bit_set 0x20 0 0 0x51 0x10
    ∷ bit_set 0x30 0 0 0x51 0x10
    ∷ []
