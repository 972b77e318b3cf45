-- A file whose file part gives 0 (the negotiated rates and the rows are judged after it): what was read passes the rules on
-- counts and fields, and is zero past p and a. Laws for the layers above. Assumes nothing.
use mathlib.Core.Path.{◌≡◌, ◌∙◌, ap}
use mathlib.Core.Bool.{true, ◌&&◌}
use mathlib.Core.List.{List, []}
use Prim.Native.Nat.{ℕ, ◌+◌, ◌-◌, ◌<◌, ◌≤◌}
use native.Mathlib.Omega.{arith}
use lib.Dec.{leb, eqb}
use lib.ListN.{length, get_or}
use borrow.Author.Tests.{eqb-true}
use Rattle.laws.specs.All.{all_by}
use Rattle.laws.specs.Choice.{both, both_right, came_then}
use Rattle.laws.specs.Fill.{padded, get_or_padded, get_or_past, length_padded}
use Rattle.block.specs.Check.{block_at, sound, sound_to}
use Rattle.phy.specs.Block.{no_phy, zero_phy}
use Rattle.fields.specs.Rules.{phy_zero}
use Rattle.fields.proofs.RulesLaws.{zero_phy_lem}
use Rattle.rows.specs.Row.{no_row, zero_row}
use Rattle.rows.proofs.RowLaws.{zero_by}
use Rattle.connectors.specs.Connector.{zero_connector}
use Rattle.connectors.proofs.Laws.{past_by_zero}
use Rattle.layout.specs.Layout.{phy_count, row_count, blocks, file_length}
use Rattle.unnamed.specs.Unnamed.{unnamed_zero}
use Rattle.adapter.specs.Adapter.{phy_in, counts_hold, fields_all, zero_past}
use Rattle.contents.specs.Contents.{file_phy, file_row, file_connector, adapter_of}
use Rattle.file.specs.File.{file_read}
use Rattle.file.specs.Steps.{sized_then, fields_number}
use Rattle.file.proofs.StepsLaws.{passed_number, passed_adapter}

-- what is known of a file that passed
pub record Accepted (file : List ℕ) : Type 0 where
  pub read : (file_read file).adapter ≡ adapter_of file (phy_count file) (row_count file)
  pub counts : counts_hold (phy_count file) (row_count file) ≡ true
  pub size : file_length (phy_count file) (row_count file) ≡ length file
  pub fields : fields_all (adapter_of file (phy_count file) (row_count file)) ≡ true

Zero : ℕ → Type 0
Zero n = n ≡ 0

pub accepted : (file : List ℕ) → (file_read file).call ≡ 0 → Accepted file
unfolding sized_then fields_number Zero
accepted file h =
    let p : ℕ = phy_count file in
    let a : ℕ = row_count file in
    let number = passed_number file h in
    let long = came_then Zero (leb 512 (length file)) (λ e. omega arith) number in
    let first = came_then Zero (sound (block_at file 0) 0) (λ e. omega arith) long.1 in
    let counts = came_then Zero (counts_hold p a) (λ e. omega arith) first.1 in
    let size = came_then Zero (eqb (file_length p a) (length file)) (λ e. omega arith) counts.1 in
    let blocks = came_then Zero (sound_to file (blocks p a)) (λ e. omega arith) size.1 in
    let rules = came_then Zero (unnamed_zero file p a && fields_all (adapter_of file p a)) (λ e. omega arith) blocks.1 in
    record {
      read = passed_adapter file number;
      counts = counts.0;
      size = eqb-true (file_length p a) (length file) size.0;
      fields = both_right (unnamed_zero file p a) (fields_all (adapter_of file p a)) rules.0;
    }

-- "zero past p and a"
pub zero_read : (file : List ℕ) (p a : ℕ) → zero_past (adapter_of file p a) ≡ true
unfolding adapter_of zero_past
zero_read file p a =
    both _ _
    (both _ _
    (all_by (λ (i : ℕ). phy_zero (get_or (padded (file_phy file) p 32 zero_phy) (p + i) no_phy)) (32 - p)
    (λ i l. ap phy_zero (get_or_past (file_phy file) p 32 (p + i) zero_phy no_phy (omega arith) (omega arith)) ∙ zero_phy_lem))
    (zero_by (padded (file_row file p) a 64 zero_row) a (λ i h k. get_or_past (file_row file p) a 64 i zero_row no_row h k)))
    (past_by_zero (padded (file_connector file p a) p 32 zero_connector) p
    (λ i h k. get_or_past (file_connector file p a) p 32 i zero_connector [] h k))

-- each phy of it
pub phy_read : (file : List ℕ) (p a n : ℕ) → n < p → phy_in (adapter_of file p a) n ≡ file_phy file n
unfolding adapter_of
phy_read file p a n h = get_or_padded (file_phy file) p 32 n zero_phy no_phy h

pub length_phys : (file : List ℕ) (p a : ℕ) → p ≤ 32 → length (adapter_of file p a).phys ≡ 32
unfolding adapter_of
length_phys file p a h = length_padded (file_phy file) p 32 zero_phy h
