-- What a request asks, from the bits and bytes that were read of it. Assumes nothing.
use Rattle.std.specs.Prelude.{◌≡◌, not, List, ◌∷◌, [], ℕ, ◌+◌, ◌*◌, ◌/◌, ◌%◌, eqb, nat_eq, bit_and}
use Rattle.std.proofs.Common.{arith, rules, ◌∙◌}
use Rattle.std.specs.Int.{from_le_bytes, w32}
use Rattle.std.proofs.lemmas.Nat.{and_mask}
use Rattle.std.proofs.lemmas.Nat.Bits.{and_pow}
use Rattle.stp.specs.Body.{fis, command, data_length}
use Rattle.disk.specs.declared.AtaCommand.{AtaCommand}
use Rattle.disk.specs.Disk.{count_of, ata_command}

-- bit 6
bit_six : (device : ℕ) → not (nat_eq (bit_and device 64) 0) ≡ eqb (device / 64 % 2) 1
bit_six device = rw (and_pow device 6) (search rules)

-- four bytes, the highest of which shows four bits
address : (a b c d : ℕ) → from_le_bytes w32 (a ∷ b ∷ c ∷ bit_and d 15 ∷ []) ≡ a + 256 * (b + 256 * (c + 256 * (d % 16)))
address a b c d = rw (and_mask d 4) (omega arith)

pub asked_by : (body : List ℕ) (l n m : ℕ) → l ≡ from_le_bytes w32 (fis body 4 ∷ fis body 5 ∷ fis body 6 ∷ bit_and (fis body 7) 15 ∷ []) → n ≡ count_of (fis body 12) → m ≡ data_length body
    → ◌≡◌ {A = AtaCommand} (record { command = command body; addressed = not (nat_eq (bit_and (fis body 7) 64) 0); lba = l; count = n; data_length = m }) (ata_command body)
unfolding ata_command
asked_by body l n m q r s = rw (bit_six (fis body 7), q ∙ address _ _ _ _, r, s)
