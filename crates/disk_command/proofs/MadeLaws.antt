-- What a reply's body holds, from what the code wrote of it. Assumes nothing.
use mathlib.Core.Path.{◌≡◌, refl, sym, ◌∙◌, ap}
use mathlib.Core.List.{List, [], ◌∷◌, ◌++◌}
use Prim.Native.Nat.{ℕ, ◌+◌, ◌-◌, ◌*◌, ◌/◌, ◌<◌, ◌≤◌}
use native.Mathlib.Omega.{arith}
use Rattle.std.proofs.Common.{lt-ltb, le-ltb, eq-eqb, ne_eqb}
use lib.ListN.{length, set, take, drop, replicate}
use lib.Seq.{drop-cons, take-take}
use borrow.Rule.Slice.PartMut.{put_mid, mid_of}
use Rattle.std.specs.Prelude.{Result, Ok, Err}
use Rattle.std.specs.Int.{w32, to_le_bytes}
use Rattle.laws.specs.Splice.{part, splice, part_all, length_splice, drop_take, lent_back}
use Rattle.wire.specs.Number.{bytes}
use Rattle.stp.specs.Body.{fis, data_length}
use Rattle.disk.specs.declared.AtaCommand.{AtaCommand}
use Rattle.disk.specs.declared.AtaError.{AtaError}
use Rattle.disk.specs.Said.{error_bits, answer_said}
use Rattle.codes.specs.Codes.{success, invalid_parameter}
use Rattle.disk.specs.Disk.{Answer, ata_command, succeeds, fails, transfer, answer_by, answer_to, identify, sectors, byte_twelve, status_of, with_status, Performed, performs, acted, performed}
use Rattle.disk.proofs.WaysLaws.{length_identify}
use Rattle.disk.proofs.Laws.{length_status}
use Rattle.disk.proofs.StoresLaws.{transferred, read_transfers, write_transfers}

-- a number's four bytes
four_bytes : (n : ℕ) → to_le_bytes w32 n ≡ bytes 4 n
unfolding bytes
four_bytes n =
    let p : n / 256 / 256 ≡ n / 65536 = omega arith in
    let q : n / 65536 / 256 ≡ n / 16777216 = omega arith in
    rw (p, q)

-- bytes 4 to 13 of the command FIS, one by one
fis_ten : (body : List ℕ) → 136 ≤ length body
    → mid_of 20 10 (take 44 body)
    ≡ fis body 4 ∷ fis body 5 ∷ fis body 6 ∷ fis body 7 ∷ fis body 8 ∷ fis body 9 ∷ fis body 10 ∷ fis body 11 ∷ fis body 12 ∷ fis body 13 ∷ []
fis_ten body h =
    ap (take 10) (drop_take 20 44 body) ∙ take-take 10 24 (drop 20 body) (omega arith)
    ∙ rw (drop-cons body 20 0 (omega arith), drop-cons body 21 0 (omega arith), drop-cons body 22 0 (omega arith), drop-cons body 23 0 (omega arith), drop-cons body 24 0 (omega arith), drop-cons body 25 0 (omega arith), drop-cons body 26 0 (omega arith), drop-cons body 27 0 (omega arith), drop-cons body 28 0 (omega arith), drop-cons body 29 0 (omega arith))

-- the stores that make a Status, in bytes that were cleared
made : (body zeros ten four : List ℕ) (twelve : ℕ) (a : Answer) → 136 ≤ length body → zeros ≡ replicate 92 0
    → ten ≡ mid_of 20 10 (take 44 body) → four ≡ to_le_bytes w32 a.moved
    → put_mid 88 4 (set (put_mid 8 10 (set (set (set zeros 4 0x34) 6 a.status) 7 a.error) ten) 16 twelve) four ≡ status_of body twelve a
unfolding status_of
made body zeros ten four twelve a h p q e = rw (p, q, fis_ten body h, e, four_bytes a.moved)

-- and the body around them
pub status_left : (body front zeros ten four back : List ℕ) (twelve : ℕ) (r : AtaCommand) (a b : Answer) → 136 ≤ length body
    → front ≡ take 44 body → back ≡ drop 92 (drop 44 body) → zeros ≡ replicate 92 0 → ten ≡ mid_of 20 10 front → four ≡ to_le_bytes w32 a.moved
    → twelve ≡ byte_twelve r.command (fis body 12) → a ≡ b
    → front ++ (put_mid 88 4 (set (put_mid 8 10 (set (set (set zeros 4 0x34) 6 a.status) 7 a.error) ten) 16 twelve) four ++ back) ≡ with_status body r b
unfolding with_status
status_left body front zeros ten four back twelve r a b h f k p q e t g =
    let m : put_mid 88 4 (set (put_mid 8 10 (set (set (set zeros 4 0x34) 6 a.status) 7 a.error) ten) 16 twelve) four ≡ status_of body twelve a =
    made body zeros ten four twelve a h p (q ∙ ap (mid_of 20 10) f) e in
    let v : ℕ = byte_twelve r.command (fis body 12) in
    rw (m, f, k, t, g) (lent_back body 44 92 (status_of body v b) (length_status body v b))

pub data_by : (before body d s : List ℕ) (at : ℕ) → before ≡ body → d ≡ splice before at s → d ≡ splice body at s
data_by before body d s at p e = rw p at e

-- ---- the whole

pub acted_by : (x : Performed) (disk body : List ℕ) (r : AtaCommand) (a : Answer) → a ≡ answer_to r → x ≡ acted disk body r a → x ≡ acted disk body r (answer_to r)
acted_by x disk body r a p e = rw p at e

length_with : (body : List ℕ) (r : AtaCommand) (a : Answer) → 136 ≤ length body → length (with_status body r a) ≡ length body
unfolding with_status
length_with body r a h =
    let v : ℕ = byte_twelve r.command (fis body 12) in
    length_splice body 44 (status_of body v a) (rw (length_status body v a) (omega arith))

pub identify_long : (z : List ℕ) → z ≡ identify → 512 ≤ length z
identify_long z p =
    let e : length z ≡ 512 = ap length p ∙ length_identify in
    omega arith

-- what the code has of a request: what it asks, and what the disk answers
module _ (disk body : List ℕ) (r : AtaCommand) (x : Result ℕ AtaError) (q : r ≡ ata_command body) (g : answer_said x ≡ answer_to r) where
  acted_is : (a : Answer) (p : Performed) → answer_said x ≡ a → p ≡ acted disk body r a → p ≡ performed disk body
  unfolding performed
  acted_is a p e h = h ∙ rw (← e, g, q) refl

  pub failed_left : (error : AtaError) (left : List ℕ) → x ≡ Err error → left ≡ with_status body r (answer_said x) → performs success disk left ≡ performed disk body
  unfolding acted
  failed_left error left i s =
      acted_is (fails (error_bits error)) (performs success disk left) (rw i refl) (rw (s, i, le-ltb r.data_length 0 (omega arith)) refl)

  module _ (m : ℕ) (i : x ≡ Ok m) where
    is_success : answer_said x ≡ succeeds m
    is_success = rw i refl

    pub refused_left : r.data_length < m → performs invalid_parameter disk body ≡ performed disk body
    unfolding acted
    refused_left k = acted_is (succeeds m) (performs invalid_parameter disk body) is_success (rw (lt-ltb r.data_length m k) refl)

    -- a read or a write that succeeds ends on the disk, and moves its sectors
    moves : answer_to r ≡ transfer r.addressed r.lba r.count → (r.lba + r.count ≤ 16) × (m ≡ 512 * r.count)
    moves t =
        let p = transferred (succeeds m) r.command r.addressed r.lba r.count (rw i at g) (λ s. omega arith) t in
        (p.0, ap (λ (a : Answer). a.moved) p.1)

    reads : r.command ≡ 0x20 → (r.lba + r.count ≤ 16) × (m ≡ 512 * r.count)
    reads c = moves (read_transfers r.command r.addressed r.lba r.count c)

    writes : r.command ≡ 0x30 → (r.lba + r.count ≤ 16) × (m ≡ 512 * r.count)
    writes c = moves (write_transfers r.command r.addressed r.lba r.count c)

    identify_moves : r.command ≡ 0xec → m ≡ 512
    unfolding answer_by
    identify_moves c =
        let e : succeeds m ≡ answer_to r = rw i at g in
        ap (λ (a : Answer). a.moved) (rw c at e)

    pub read_ends : length disk ≡ 8192 → r.command ≡ 0x20 → 512 * r.lba + m ≤ length disk
    read_ends d c = omega (arith, reads c)

    pub write_ends : length disk ≡ 8192 → r.command ≡ 0x30 → 512 * r.lba + m ≤ length disk
    write_ends d c = omega (arith, writes c)

    module _ (k : m ≤ r.data_length) (h : 136 + data_length body ≤ length body) where
      pub data_ends : 136 + m ≤ length body
      unfolding ata_command
      data_ends =
          let p : r.data_length ≡ data_length body = ap (λ (a : AtaCommand). a.data_length) q in
          omega arith

      module _ (left : List ℕ) (s : left ≡ with_status body r (succeeds m)) where
        pub left_ends : 136 + m ≤ length left
        left_ends = rw (s, length_with body r (succeeds m) (omega arith)) data_ends

        pub identify_ends : r.command ≡ 0xec → 136 + 512 ≤ length left
        identify_ends c = omega (arith, left_ends, identify_moves c)

        pub read_left : (y : List ℕ) → r.command ≡ 0x20 → y ≡ splice left 136 (part disk (512 * r.lba) m) → performs success disk y ≡ performed disk body
        unfolding acted
        read_left y c p =
            let v = reads c in
            let e : part disk (512 * r.lba) m ≡ sectors disk r = rw v.1 refl in
            acted_is (succeeds m) _ is_success (rw (le-ltb r.data_length m k, eq-eqb r.command 0x20 c, p, e, s) refl)

        pub identified_left : (y z : List ℕ) → r.command ≡ 0xec → z ≡ identify → y ≡ splice left 136 (part z 0 512) → performs success disk y ≡ performed disk body
        unfolding acted
        identified_left y z c p q =
            let e : part z 0 512 ≡ identify = ap (λ (x : List ℕ). part x 0 512) p ∙ ap (part identify 0) (sym length_identify) ∙ part_all identify in
            acted_is (succeeds m) _ is_success
            (rw (le-ltb r.data_length m k, ne_eqb r.command 0x20 (λ z. omega arith), eq-eqb r.command 0xec c, q, e, s) refl)

        pub written_left : (y : List ℕ) → r.command ≡ 0x30 → y ≡ splice disk (512 * r.lba) (part body 136 m) → performs success y left ≡ performed disk body
        unfolding acted
        written_left y c p =
            let v = writes c in
            let e : part body 136 m ≡ part body 136 (512 * r.count) = rw v.1 refl in
            acted_is (succeeds m) _ is_success
            (rw (le-ltb r.data_length m k, ne_eqb r.command 0x20 (λ z. omega arith), ne_eqb r.command 0xec (λ z. omega arith), eq-eqb r.command 0x30 c, p, e, s) refl)

        pub plain_left : (r.command ≡ 0x20 → ⊥) → (r.command ≡ 0x30 → ⊥) → (r.command ≡ 0xec → ⊥) → performs success disk left ≡ performed disk body
        unfolding acted
        plain_left a b c =
            acted_is (succeeds m) (performs success disk left) is_success
            (rw (le-ltb r.data_length m k, ne_eqb r.command 0x20 a, ne_eqb r.command 0xec c, ne_eqb r.command 0x30 b, s) refl)

pub ruleset left = (failed_left, refused_left, read_ends, write_ends, data_ends, left_ends, identify_ends, identify_long, read_left, identified_left, written_left, plain_left)
