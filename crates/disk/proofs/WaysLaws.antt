-- The ways that a request can go, so that a law shows each of them once. Assumes nothing.
use mathlib.Core.Path.{◌≡◌, refl}
use mathlib.Core.Bool.{Bool, true, false, ◌&&◌}
use mathlib.Core.List.{List}
use Prim.Native.Nat.{ℕ, ◌+◌, ◌*◌, ◌≤◌}
use native.Mathlib.Omega.{arith}
use lib.Dec.{eqb, ltb}
use lib.ListN.{length}
use borrow.Author.Tests.{eqb-true, eqb-false, ltb-false}
use Rattle.laws.specs.Choice.{either_by}
use Rattle.laws.specs.Splice.{part, splice, length_part}
use Rattle.wire.specs.Number.{bytes}
use Rattle.disk.specs.declared.AtaCommand.{AtaCommand}
use Rattle.stp.specs.Body.{data_length}
use Rattle.disk.specs.Disk.{Answer, ata_command, succeeds, transfer, answer_of, answer_to, identify, sectors, with_status, Performed, performs, acted, performed, Lent}
use Rattle.disk.proofs.StoresLaws.{Succeeds, transferred, read_transfers, write_transfers, sectors_inside, sectors_room, identify_room}

no_and : (t : Bool) → t && false ≡ false
no_and true = refl
no_and false = refl

pub length_identify : length identify ≡ 512
unfolding identify splice bytes
length_identify = refl

-- the request is 30h and its answer 50h
abbrev pub writing : AtaCommand → Answer → Bool
writing r a = eqb r.command 0x30 && eqb a.status 0x50

-- what is shown of each: refused; a reply with no data; one with data s; a write
pub record Ways (disk body : List ℕ) (r : AtaCommand) (a : Answer) (P : Performed → Type 0) : Type 0 where
  pub refused : P (performs 3 disk body)
  pub plain : writing r a ≡ false → P (performs 0 disk (with_status body r a))
  pub filled : (s : List ℕ) → writing r a ≡ false → 136 + length s ≤ length body → P (performs 0 disk (splice (with_status body r a) 136 s))
  pub written : writing r a ≡ true → r.lba + r.count ≤ 16 → 136 + 512 * r.count ≤ length body
      → P (performs 0 (splice disk (512 * r.lba) (part body 136 (512 * r.count))) (with_status body r a))

module _ (disk body : List ℕ) (r : AtaCommand) (a : Answer) (e : a ≡ answer_to r) (h : Lent disk body r.data_length) where
  -- 20h, ECh and 30h, each where it succeeds
  reads : (P : Performed → Type 0) → Ways disk body r a P → Succeeds a → a.moved ≤ r.data_length → r.command ≡ 0x20
      → P (performs 0 disk (splice (with_status body r a) 136 (sectors disk r)))
  reads P w s k c =
      let t : answer_to r ≡ transfer r.addressed r.lba r.count = read_transfers r.command r.addressed r.lba r.count c in
      let i : r.lba + r.count ≤ 16 = sectors_inside a r.command r.addressed r.lba r.count e s t in
      w.filled (sectors disk r) (rw c)
      (rw (length_part disk (512 * r.lba) (512 * r.count) (omega arith))
      (sectors_room a r.command r.addressed r.lba r.count e r.data_length (length body) s t k h.1))

  names : (P : Performed → Type 0) → Ways disk body r a P → a.moved ≤ r.data_length → r.command ≡ 0xec
      → P (performs 0 disk (splice (with_status body r a) 136 identify))
  names P w k c =
      w.filled identify (rw c)
      (rw length_identify (identify_room a r.command r.addressed r.lba r.count e r.data_length (length body) c k h.1))

  stores : (P : Performed → Type 0) → Ways disk body r a P → Succeeds a → a.moved ≤ r.data_length → r.command ≡ 0x30
      → P (performs 0 (splice disk (512 * r.lba) (part body 136 (512 * r.count))) (with_status body r a))
  stores P w s k c =
      let t : answer_to r ≡ transfer r.addressed r.lba r.count = write_transfers r.command r.addressed r.lba r.count c in
      let p : (r.lba + r.count ≤ 16) × (a ≡ succeeds (512 * r.count)) = transferred a r.command r.addressed r.lba r.count e s t in
      w.written (rw (c, p.1)) p.0
      (sectors_room a r.command r.addressed r.lba r.count e r.data_length (length body) s t k h.1)

  -- each test in turn
  acted_by : (P : Performed → Type 0) → Ways disk body r a P → P (acted disk body r a)
  unfolding acted
  acted_by P w =
      either_by P (ltb r.data_length a.moved) (λ _. w.refused)
      (λ f. let k : a.moved ≤ r.data_length = ltb-false r.data_length a.moved f in
      either_by P (eqb a.status 0x51) (λ t. w.plain (rw (eqb-true a.status 0x51 t) (no_and (eqb r.command 0x30))))
      (λ g. let s : Succeeds a = eqb-false a.status 0x51 g in
      either_by P (eqb r.command 0x20) (λ t. reads P w s k (eqb-true r.command 0x20 t))
      (λ _. either_by P (eqb r.command 0xec) (λ t. names P w k (eqb-true r.command 0xec t))
      (λ _. either_by P (eqb r.command 0x30) (λ t. stores P w s k (eqb-true r.command 0x30 t)) (λ n. w.plain (rw n))))))

module _ (disk body : List ℕ) (h : Lent disk body (data_length body)) where
  -- what is shown of each way holds of the request
  pub performed_by : (P : Performed → Type 0) → Ways disk body (ata_command body) (answer_of body) P → P (performed disk body)
  unfolding performed ata_command
  performed_by P w = acted_by disk body (ata_command body) (answer_of body) refl h P w
