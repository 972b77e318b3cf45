-- What is proved of the definitions in specs/Laws.antt. Assumes nothing.
use mathlib.Core.Path.{◌≡◌, refl, ◌∙◌}
use mathlib.Core.Bool.{Bool, true, false, cond, ◌&&◌}
use mathlib.Core.List.{List}
use Prim.Native.Nat.{ℕ, ◌+◌, ◌-◌, ◌*◌, ◌<◌, ◌≤◌}
use native.Mathlib.Omega.{arith}
use lib.Dec.{eqb, ltb, leb}
use lib.ListN.{length, get_or}
use borrow.Author.Tests.{eqb-true, ltb-true, ltb-false, leb-true, leb-false}
use Rattle.laws.specs.Choice.{by_bool, either_by, both_left}
use Rattle.laws.specs.Splice.{part, splice, length_part, length_splice, part_part, part_in, part_below, part_above, get_in, get_below}
use Rattle.wire.specs.Number.{bytes}
use Rattle.disk.specs.declared.AtaCommand.{AtaCommand}
use Rattle.stp.specs.Body.{fis, command, data_length}
use Rattle.disk.specs.Disk.{Answer, lba, count, ata_command, answer_of, byte_twelve, status_of, with_status, Performed, performed, Lent}
use Rattle.disk.proofs.WaysLaws.{writing, performed_by}
use Rattle.disk.specs.Sector.{covers, reply_status, sector}

-- "command 30h and status 50h in its reply's status FIS", of a request with return code 0
unfoldable pub writes : ℕ → List ℕ → List ℕ → Bool
writes code body reply = eqb code 0 && (eqb (command body) 0x30 && eqb (reply_status reply) 0x50)

-- "sector LBA + i gets bytes 512 × i to 512 × i + 511 of its bDataBuffer": what sector s holds after a request, by what it
-- held before
unfoldable pub sector_after : ℕ → List ℕ → List ℕ → ℕ → List ℕ → List ℕ
sector_after code body reply s before =
    cond (writes code body reply && covers body s) (part body (136 + 512 * (s - lba body)) 512) before

-- ---- the reply

pub length_status : (body : List ℕ) (twelve : ℕ) (a : Answer) → length (status_of body twelve a) ≡ 92
unfolding status_of bytes
length_status body twelve a = refl

status_shown : (body : List ℕ) (twelve : ℕ) (a : Answer) → get_or (status_of body twelve a) 6 0 ≡ a.status
unfolding status_of
status_shown body twelve a = refl

-- what a reply's body keeps of the request's, and the status that it shows where the code is 0
record Replied (body : List ℕ) (status code : ℕ) (reply : List ℕ) : Type 0 where
  size : length reply ≡ length body
  front : (i n : ℕ) → i + n ≤ 44 → part reply i n ≡ part body i n
  shown : code ≡ 0 → reply_status reply ≡ status

with_status_lem : (body : List ℕ) (r : AtaCommand) (a : Answer) → 136 ≤ length body → Replied body a.status 0 (with_status body r a)
unfolding with_status
with_status_lem body r a h =
    let twelve : ℕ = byte_twelve r.command (fis body 12) in
    let s : List ℕ = status_of body twelve a in
    let l : length s ≡ 92 = length_status body twelve a in
    record {
      size = length_splice body 44 s (omega arith);
      front = λ i n k. part_below body 44 s i n (omega arith) k;
      shown = λ _. get_in body 44 s 6 0 (omega arith) (omega arith) ∙ status_shown body twelve a;
    }

with_data : (body reply s : List ℕ) (status : ℕ) → 136 + length s ≤ length body → Replied body status 0 reply → Replied body status 0 (splice reply 136 s)
with_data body reply s status h p =
    let l : length reply ≡ length body = p.size in
    record {
      size = length_splice reply 136 s (omega arith) ∙ l;
      front = λ i n k. part_below reply 136 s i n (omega arith) (omega arith) ∙ p.front i n k;
      shown = λ z. get_below reply 136 s 50 0 (omega arith) (omega arith) ∙ p.shown z;
    }

-- ---- the sectors

-- the sectors of a disk with some written from a body's data
module _ (disk body : List ℕ) (from n k : ℕ) (h : 512 * from + 512 * n ≤ length disk) (m : 136 + 512 * n ≤ length body) where
  stored : List ℕ
  stored = splice disk (512 * from) (part body 136 (512 * n))

  stored_in : from ≤ k → k < from + n → sector stored k ≡ part body (136 + 512 * (k - from)) 512
  unfolding stored
  stored_in l g =
      let s : length (part body 136 (512 * n)) ≡ 512 * n = length_part body 136 (512 * n) m in
      let j : 512 * from + 512 * (k - from) ≡ 512 * k = omega arith in
      rw (← j) (part_in disk (512 * from) (part body 136 (512 * n)) (512 * (k - from)) 512 (omega arith) (omega arith)
      ∙ part_part body 136 (512 * n) (512 * (k - from)) 512 (omega arith))

  stored_above : from + n ≤ k → sector stored k ≡ sector disk k
  unfolding stored
  stored_above l =
      let s : length (part body 136 (512 * n)) ≡ 512 * n = length_part body 136 (512 * n) m in
      part_above disk (512 * from) (part body 136 (512 * n)) (512 * k) 512 (omega arith) (omega arith)

  stored_below : k < from → sector stored k ≡ sector disk k
  unfolding stored
  stored_below l = part_below disk (512 * from) (part body 136 (512 * n)) (512 * k) 512 (omega arith) (omega arith)

  stored_sector : sector stored k ≡ cond (leb from k && ltb k (from + n)) (part body (136 + 512 * (k - from)) 512) (sector disk k)
  stored_sector =
      by_bool (λ (t : Bool). leb from k ≡ t → sector stored k ≡ cond (t && ltb k (from + n)) (part body (136 + 512 * (k - from)) 512) (sector disk k))
      (λ p. either_by (λ (x : List ℕ). sector stored k ≡ x) (ltb k (from + n)) (λ q. stored_in (leb-true from k p) (ltb-true k (from + n) q))
      (λ q. stored_above (ltb-false k (from + n) q)))
      (λ p. stored_below (leb-false from k p)) (leb from k) refl

-- ---- the laws

module _ (disk body : List ℕ) (h : Lent disk body (data_length body)) where
  plain_reply : Replied body (answer_of body).status 0 (with_status body (ata_command body) (answer_of body))
  plain_reply = with_status_lem body (ata_command body) (answer_of body) (omega arith)

  filled_reply : (s : List ℕ) → 136 + length s ≤ length body → Replied body (answer_of body).status 0 (splice (with_status body (ata_command body) (answer_of body)) 136 s)
  filled_reply s m = with_data body (with_status body (ata_command body) (answer_of body)) s (answer_of body).status m plain_reply

  -- the disk keeps its length
  pub disk_length : length (performed disk body).disk ≡ 8192
  unfolding ata_command
  disk_length =
      performed_by disk body h (λ (s : Performed). length s.disk ≡ 8192)
      (record {
        refused = h.0;
        plain = λ _. h.0;
        filled = λ s _ m. h.0;
        written = λ _ i m.
            let l : length (part body 136 (512 * count body)) ≡ 512 * count body = length_part body 136 (512 * count body) m in
            length_splice disk (512 * lba body) (part body 136 (512 * count body)) (omega arith) ∙ h.0;
      })

  -- and one that is no write leaves it as it was
  pub disk_read : (command body ≡ 0x30 → ⊥) → (performed disk body).disk ≡ disk
  unfolding ata_command
  disk_read n =
      performed_by disk body h (λ (s : Performed). s.disk ≡ disk)
      (record {
        refused = refl;
        plain = λ _. refl;
        filled = λ _ _ _. refl;
        written = λ w _ _. absurd (n (eqb-true (command body) 0x30 (both_left (eqb (command body) 0x30) (eqb (answer_of body).status 0x50) w)));
      })

  -- a reply with code 0 tells whether the request wrote
  shows : (t : Bool) (reply : List ℕ) → Replied body (answer_of body).status 0 reply → writing (ata_command body) (answer_of body) ≡ t → writes 0 body reply ≡ t
  unfolding writes ata_command
  shows t reply p e = rw (p.shown refl) e

  -- each sector after the request
  pub sector_after_lem : (k : ℕ) → sector (performed disk body).disk k ≡ sector_after (performed disk body).code body (performed disk body).body k (sector disk k)
  unfolding sector_after writes covers ata_command stored
  sector_after_lem k =
      performed_by disk body h (λ (s : Performed). sector s.disk k ≡ sector_after s.code body s.body k (sector disk k))
      (record {
        refused = refl;
        plain = λ n. rw (shows false (with_status body (ata_command body) (answer_of body)) plain_reply n);
        filled = λ s n m. rw (shows false (splice (with_status body (ata_command body) (answer_of body)) 136 s) (filled_reply s m) n);
        written = λ y i m.
            rw (shows true (with_status body (ata_command body) (answer_of body)) plain_reply y) (stored_sector disk body (lba body) (count body) k (omega arith) m);
      })
