-- When two performances are the same, and what a success says of the request. Assumes nothing.
use mathlib.Core.Path.{◌≡◌, refl, ◌∙◌, ap}
use mathlib.Core.Bool.{Bool, true, false, cond}
use mathlib.Core.List.{List}
use Prim.Native.Nat.{ℕ, ◌+◌, ◌*◌, ◌≤◌}
use native.Mathlib.Omega.{arith}
use lib.Dec.{ltb}
use borrow.Author.Tests.{ltb-false}
use Rattle.laws.specs.Choice.{came_then, came_else}
use Rattle.disk.specs.Disk.{Answer, performs, succeeds, fails, transfer, answer_by}

-- two that agree in disk and body
pub performs_by : (code : ℕ) (disk disk' body body' : List ℕ) → disk ≡ disk' → body ≡ body' → performs code disk body ≡ performs code disk' body'
performs_by code disk disk' body body' p q = rw (p, q)

-- ---- what a success of 20h, 30h or ECh says of the request

-- the answer is not 51h, so it is 50h
abbrev pub Succeeds : Answer → Type 0
Succeeds a = a.status ≡ 0x51 → ⊥

transfer_success : (addressed : Bool) (lba count : ℕ) → Succeeds (transfer addressed lba count)
    → (lba + count ≤ 16) × (transfer addressed lba count ≡ succeeds (512 * count))
unfolding transfer
transfer_success addressed lba count h =
    let p : (addressed ≡ true) × Succeeds (cond (ltb 16 (lba + count)) (fails 0x10) (succeeds (512 * count))) = came_then Succeeds addressed (λ k. k refl) h in
    let q : (ltb 16 (lba + count) ≡ false) × Succeeds (succeeds (512 * count)) = came_else Succeeds (ltb 16 (lba + count)) (λ k. k refl) p.1 in
    (ltb-false 16 (lba + count) q.0, rw (p.0, q.0))

-- 20h and 30h answer as a transfer does
pub read_transfers : (command : ℕ) (addressed : Bool) (lba count : ℕ) → command ≡ 0x20 → answer_by command addressed lba count ≡ transfer addressed lba count
unfolding answer_by
read_transfers command addressed lba count e = rw e

pub write_transfers : (command : ℕ) (addressed : Bool) (lba count : ℕ) → command ≡ 0x30 → answer_by command addressed lba count ≡ transfer addressed lba count
unfolding answer_by
write_transfers command addressed lba count e = rw e

module _ (a : Answer) (command : ℕ) (addressed : Bool) (lba count : ℕ) (e : a ≡ answer_by command addressed lba count) where
  -- a transfer that succeeds ends on the disk and moves its sectors
  pub transferred : Succeeds a → answer_by command addressed lba count ≡ transfer addressed lba count
      → (lba + count ≤ 16) × (a ≡ succeeds (512 * count))
  transferred h t =
      let p : (lba + count ≤ 16) × (transfer addressed lba count ≡ succeeds (512 * count)) = transfer_success addressed lba count (rw (e ∙ t) at h) in
      (p.0, e ∙ t ∙ p.1)

  -- the sectors of a transfer lie on the disk, and their bytes in the body
  pub sectors_inside : Succeeds a → answer_by command addressed lba count ≡ transfer addressed lba count → lba + count ≤ 16
  sectors_inside h t = (transferred h t).0

  pub sectors_room : (m n : ℕ) → Succeeds a → answer_by command addressed lba count ≡ transfer addressed lba count → a.moved ≤ m → 136 + m ≤ n
      → 136 + 512 * count ≤ n
  sectors_room m n h t k l =
      let p : a.moved ≡ 512 * count = ap (λ (x : Answer). x.moved) (transferred h t).1 in
      omega arith

  -- the data of ECh lies in the body
  pub identify_room : (m n : ℕ) → command ≡ 0xec → a.moved ≤ m → 136 + m ≤ n → 136 + 512 ≤ n
  unfolding answer_by
  identify_room m n q k l =
      let p : a.moved ≡ 512 = ap (λ (x : Answer). x.moved) (rw q at e) in
      omega arith

pub ruleset rooms = (read_transfers, write_transfers, sectors_inside, sectors_room, identify_room)
