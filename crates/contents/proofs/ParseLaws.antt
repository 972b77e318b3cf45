-- What is proved of the definitions in specs/Parse.antt. Assumes nothing.
use mathlib.Core.Path.{◌≡◌, sym, ◌∙◌, ap}
use mathlib.Core.List.{List, [], ◌∷◌}
use Prim.Native.Nat.{ℕ, ◌+◌, ◌*◌, ◌<◌, ◌≤◌}
use native.Mathlib.Nat.{add-zero, zero-add}
use native.Mathlib.Omega.{arith}
use lib.ListN.{length, get_or}
use Rattle.laws.specs.Clear.{zeros}
use Rattle.laws.specs.Fill.{list_to, padded, filled_as}
use Rattle.laws.specs.Flat.{length_pieces, piece_at, piece_past}
use Rattle.laws.specs.Splice.{part, splice, length_part, get_or_part, part_part, length_splice, part_splice, part_in, part_below, get_in, get_below}
use Rattle.phy.specs.Block.{phy_size, counters_at, phy_of, zero_phy, no_phy}
use Rattle.rows.specs.Row.{row_of, rows_size, row_start, rows_of, zero_row, no_row}
use Rattle.rows.proofs.ReadLaws.{row_part}
use Rattle.block.specs.Check.{block_at}
use Rattle.connectors.specs.Connector.{connectors_size, connector_of, connectors_of, zero_connector}
use Rattle.layout.specs.Layout.{phy_place, row_place, controller_place, controller_status_place, connector_place, file_length}
use Rattle.adapter.specs.Staged.{nothing_staged}
use Rattle.tables.specs.Tables.{tables_size, phys_size, phy_start, rows_start, controller_start, status_start, connectors_start, staged_start, staged_at, phy_at, tables_of}
use Rattle.tables.proofs.Laws.{staged_cleared}
use Rattle.tables.proofs.ZeroLaws.{phy_zeros, row_zeros}
use Rattle.contents.specs.Contents.{file_phy, file_row, file_connector, adapter_of}
use Rattle.contents.specs.Parse.{headed, phy_from, phys_from, row_from, rows_from, controlled, connectors_from, rest_from}

-- ---- a phy and a row in a piece

-- a phy stands in the first 105 bytes of its block
phy_front : (b : List ℕ) → phy_of (part b 0 phy_size) ≡ phy_of b
unfolding phy_of counters_at
phy_front b =
    rw (part_part b 0 phy_size 0 64 (omega arith), part_part b 0 phy_size 64 4 (omega arith), part_part b 0 phy_size 68 4 (omega arith))
    (rw (part_part b 0 phy_size 72 4 (omega arith), part_part b 0 phy_size 76 4 (omega arith), part_part b 0 phy_size 80 20 (omega arith))
    (rw (get_or_part b 0 phy_size 100 0 (omega arith), get_or_part b 0 phy_size 101 0 (omega arith), get_or_part b 0 phy_size 102 0 (omega arith))
    (rw (get_or_part b 0 phy_size 103 0 (omega arith), get_or_part b 0 phy_size 104 0 (omega arith)))))

phy_file : (file : List ℕ) (n : ℕ) → phy_of (phy_from file n) ≡ file_phy file n
unfolding phy_from file_phy block_at
phy_file file n = ap phy_of (sym (part_part file (phy_place n) 512 0 phy_size (omega arith) ∙ rw add-zero)) ∙ phy_front (part file (phy_place n) 512)

row_file : (file : List ℕ) (p i : ℕ) → row_of (row_from file p i) 0 ≡ file_row file p i
unfolding row_from file_row
row_file file p i = row_part file (row_place p i) 20 0 (omega arith) ∙ rw add-zero

-- a row by itself is that row among others
row_alone : (b : List ℕ) (at : ℕ) → row_of b at ≡ row_of (part b at 20) 0
row_alone b at = sym (row_part b at 20 0 (omega arith) ∙ rw add-zero)

-- ---- the tables

module _ (t file : List ℕ) (p a : ℕ) (size : length t ≡ tables_size) (k : p ≤ 32) (l : a ≤ 64) (m : length file ≡ file_length p a) where
  phy_long : (i : ℕ) → i < p → length (phy_from file i) ≡ phy_size
  unfolding phy_from
  phy_long i h = length_part file (phy_place i) phy_size (omega arith)

  row_long : (i : ℕ) → i < a → length (row_from file p i) ≡ 20
  unfolding row_from
  row_long i h = length_part file (row_place p i) 20 (omega arith)

  phys_long : length (phys_from file p) ≡ phys_size
  unfolding phys_from
  phys_long = length_pieces (phy_from file) phy_size p 32 0 phy_long k

  rows_long : length (rows_from file p a) ≡ rows_size
  unfolding rows_from
  rows_long = length_pieces (row_from file p) 20 a 64 0 row_long l

  info_long : length (part file 4 174) ≡ 174
  info_long = length_part file 4 174 (omega arith)

  -- the rows
  row_below : (i : ℕ) → i < a → row_of (rows_from file p a) (row_start i) ≡ file_row file p i
  unfolding rows_from
  row_below i h =
      row_alone (rows_from file p a) (row_start i)
      ∙ ap (λ (b : List ℕ). row_of b 0) (piece_at (row_from file p) 20 a 64 0 row_long l i h)
      ∙ row_file file p i

  row_past : (i : ℕ) → a ≤ i → i < 64 → row_of (rows_from file p a) (row_start i) ≡ zero_row
  unfolding rows_from
  row_past i h j =
      row_alone (rows_from file p a) (row_start i)
      ∙ ap (λ (b : List ℕ). row_of b 0) (piece_past (row_from file p) 20 a 64 0 row_long l i h j)
      ∙ row_zeros 20 0 (omega arith)

  rows_read : rows_of (rows_from file p a) ≡ padded (file_row file p) a 64 zero_row
  unfolding rows_of
  rows_read = filled_as (λ (i : ℕ). row_of (rows_from file p a) (row_start i)) (file_row file p) a 64 zero_row no_row l row_below row_past

  -- the connectors
  connector_long : (i : ℕ) → i < p → length (file_connector file p a i) ≡ 36
  unfolding file_connector
  connector_long i h = length_part file (connector_place p a i) 36 (omega arith)

  connectors_long : length (connectors_from file p a) ≡ connectors_size
  unfolding connectors_from
  connectors_long = length_pieces (file_connector file p a) 36 p 32 0 connector_long k

  connectors_read : connectors_of (connectors_from file p a) ≡ padded (file_connector file p a) p 32 zero_connector
  unfolding connectors_of connector_of connectors_from
  connectors_read =
      filled_as (connector_of (connectors_from file p a)) (file_connector file p a) p 32 zero_connector [] k
      (piece_at (file_connector file p a) 36 p 32 0 connector_long k)
      (piece_past (file_connector file p a) 36 p 32 0 connector_long k)

  -- the tables with the phys behind their head, with the rows behind these, with configuration and status, with the connectors, and with nothing staged
  abbrev manned : List ℕ
  manned = splice (headed t file p a) 176 (phys_from file p)

  abbrev with_rows : List ℕ
  with_rows = splice manned rows_start (rows_from file p a)

  abbrev connected : List ℕ
  connected = splice (controlled with_rows file p a) connectors_start (connectors_from file p a)

  abbrev read : List ℕ
  read = splice connected staged_start (zeros 9)

  counted_long : length (splice t 0 (p ∷ a ∷ [])) ≡ tables_size
  counted_long = length_splice t 0 (p ∷ a ∷ []) (omega arith) ∙ size

  headed_long : length (headed t file p a) ≡ tables_size
  unfolding headed
  headed_long = length_splice (splice t 0 (p ∷ a ∷ [])) 2 (part file 4 174) (omega (arith, counted_long, info_long)) ∙ counted_long

  manned_long : length manned ≡ tables_size
  manned_long = length_splice (headed t file p a) 176 (phys_from file p) (omega (arith, headed_long, phys_long)) ∙ headed_long

  with_rows_long : length with_rows ≡ tables_size
  with_rows_long = length_splice manned rows_start (rows_from file p a) (omega (arith, manned_long, rows_long)) ∙ manned_long

  pair_long : length (part file (controller_place p a) 212) ≡ 212
  pair_long = length_part file (controller_place p a) 212 (omega arith)

  controlled_long : length (controlled with_rows file p a) ≡ tables_size
  unfolding controlled
  controlled_long =
      length_splice with_rows controller_start (part file (controller_place p a) 212) (omega (arith, with_rows_long, pair_long)) ∙ with_rows_long

  connected_long : length connected ≡ tables_size
  connected_long = length_splice (controlled with_rows file p a) connectors_start (connectors_from file p a) (omega (arith, controlled_long, connectors_long)) ∙ controlled_long

  -- what stands below what is staged
  under : (i n : ℕ) → i + n ≤ staged_start → part read i n ≡ part connected i n
  under i n h = part_below connected staged_start (zeros 9) i n (omega (arith, connected_long)) h

  -- what stands below configuration and status
  low_byte : (i : ℕ) → i < controller_start → get_or read i 0 ≡ get_or with_rows i 0
  unfolding controlled
  low_byte i h =
      get_below connected staged_start (zeros 9) i 0 (omega (arith, connected_long)) (omega arith)
      ∙ get_below (controlled with_rows file p a) connectors_start (connectors_from file p a) i 0 (omega (arith, controlled_long)) (omega arith)
      ∙ get_below with_rows controller_start (part file (controller_place p a) 212) i 0 (omega (arith, with_rows_long)) h

  low_part : (i n : ℕ) → i + n ≤ controller_start → part read i n ≡ part with_rows i n
  unfolding controlled
  low_part i n h =
      under i n (omega arith)
      ∙ part_below (controlled with_rows file p a) connectors_start (connectors_from file p a) i n (omega (arith, controlled_long)) (omega arith)
      ∙ part_below with_rows controller_start (part file (controller_place p a) 212) i n (omega (arith, with_rows_long)) h

  -- a part of the two
  pair_part : (i n : ℕ) → i + n ≤ 212 → part read (controller_start + i) n ≡ part file (controller_place p a + i) n
  unfolding controlled
  pair_part i n h =
      under (controller_start + i) n (omega arith)
      ∙ part_below (controlled with_rows file p a) connectors_start (connectors_from file p a) (controller_start + i) n (omega (arith, controlled_long)) (omega arith)
      ∙ part_in with_rows controller_start (part file (controller_place p a) 212) i n (omega (arith, with_rows_long)) (omega (arith, pair_long))
      ∙ part_part file (controller_place p a) 212 i n h

  controller_part : part read controller_start 176 ≡ part file (controller_place p a) 176
  controller_part = pair_part 0 176 (omega arith) ∙ rw add-zero

  status_part : part read status_start 36 ≡ part file (controller_status_place p a) 36
  status_part = pair_part 176 36 (omega arith)

  connectors_part : part read connectors_start connectors_size ≡ connectors_from file p a
  connectors_part =
      under connectors_start connectors_size (omega arith)
      ∙ ap (part connected connectors_start) (sym connectors_long)
      ∙ part_splice (controlled with_rows file p a) connectors_start (connectors_from file p a) (omega (arith, controlled_long))

  staged_read : staged_at read ≡ nothing_staged
  staged_read = staged_cleared connected connected_long

  -- what stands in the head is the head's
  head_byte : (i : ℕ) → i < 176 → get_or read i 0 ≡ get_or (headed t file p a) i 0
  head_byte i h =
      low_byte i (omega arith)
      ∙ get_below manned rows_start (rows_from file p a) i 0 (omega (arith, manned_long)) (omega arith)
      ∙ get_below (headed t file p a) 176 (phys_from file p) i 0 (omega (arith, headed_long)) h

  count_byte : (i : ℕ) → i < 2 → get_or (headed t file p a) i 0 ≡ get_or (p ∷ a ∷ []) i 0
  unfolding headed
  count_byte i h =
      get_below (splice t 0 (p ∷ a ∷ [])) 2 (part file 4 174) i 0 (omega (arith, counted_long)) h
      ∙ ap (λ (j : ℕ). get_or (splice t 0 (p ∷ a ∷ [])) j 0) (sym (zero-add i))
      ∙ get_in t 0 (p ∷ a ∷ []) i 0 (omega arith) h

  info_part : part read 2 174 ≡ part file 4 174
  unfolding headed
  info_part =
      low_part 2 174 (omega arith)
      ∙ part_below manned rows_start (rows_from file p a) 2 174 (omega (arith, manned_long)) (omega arith)
      ∙ part_below (headed t file p a) 176 (phys_from file p) 2 174 (omega (arith, headed_long)) (omega arith)
      ∙ ap (part (headed t file p a) 2) (sym info_long)
      ∙ part_splice (splice t 0 (p ∷ a ∷ [])) 2 (part file 4 174) (omega (arith, counted_long))

  phy_part : (n : ℕ) → n < 32 → part read (phy_start n) phy_size ≡ part (phys_from file p) (phy_size * n) phy_size
  phy_part n h =
      low_part (phy_start n) phy_size (omega arith)
      ∙ part_below manned rows_start (rows_from file p a) (phy_start n) phy_size (omega (arith, manned_long)) (omega arith)
      ∙ part_in (headed t file p a) 176 (phys_from file p) (phy_size * n) phy_size (omega (arith, headed_long)) (omega (arith, phys_long))

  rows_part : part read rows_start rows_size ≡ rows_from file p a
  rows_part =
      low_part rows_start rows_size (omega arith)
      ∙ ap (part with_rows rows_start) (sym rows_long)
      ∙ part_splice manned rows_start (rows_from file p a) (omega (arith, manned_long))

  -- the phys
  phy_below : (n : ℕ) → n < p → phy_at read n ≡ file_phy file n
  unfolding phy_at phys_from
  phy_below n h = ap phy_of (phy_part n (omega arith) ∙ piece_at (phy_from file) phy_size p 32 0 phy_long k n h) ∙ phy_file file n

  phy_past : (n : ℕ) → p ≤ n → n < 32 → phy_at read n ≡ zero_phy
  unfolding phy_at phys_from
  phy_past n h j = ap phy_of (phy_part n j ∙ piece_past (phy_from file) phy_size p 32 0 phy_long k n h j) ∙ phy_zeros

  phys_read : list_to (phy_at read) 32 ≡ padded (file_phy file) p 32 zero_phy
  phys_read = filled_as (phy_at read) (file_phy file) p 32 zero_phy no_phy k phy_below phy_past

  tables_read : tables_of read ≡ adapter_of file p a
  unfolding tables_of adapter_of
  tables_read =
      let e = head_byte 0 (omega arith) in
      let f = head_byte 1 (omega arith) in
      let g = count_byte 0 (omega arith) in
      let h = count_byte 1 (omega arith) in
      cc (info_part, phys_read, rows_part, rows_read, controller_part, status_part, connectors_part, connectors_read, staged_read)

-- ---- what the code leaves

pub parsed : (t file : List ℕ) (p a : ℕ) (b c d x : List ℕ) → length t ≡ tables_size → p ≤ 32 → a ≤ 64 → length file ≡ file_length p a
    → b ≡ headed t file p a → c ≡ splice b 176 (phys_from file p) → d ≡ splice c rows_start (rows_from file p a)
    → x ≡ rest_from d file p a → tables_of x ≡ adapter_of file p a
unfolding rest_from
parsed t file p a b c d x size k l m e f g q = rw (q, g, f, e) (tables_read t file p a size k l m)
