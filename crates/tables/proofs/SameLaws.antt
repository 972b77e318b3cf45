-- Tables whose bytes are bytes are given by what they stand for: two of one meaning are the same bytes. So an equation over `tables_of` says what
-- becomes of every byte that is lent. Assumes nothing.
use mathlib.Core.Path.{◌≡◌, refl, sym, ◌∙◌, ap}
use mathlib.Core.Bool.{Bool}
use mathlib.Core.List.{List, [], ◌∷◌}
use Prim.Native.Nat.{ℕ, zero, suc, ◌+◌, ◌-◌, ◌/◌, ◌%◌, ◌<◌, ◌≤◌}
use native.Mathlib.Omega.{arith}
use lib.Dec.{ltb}
use lib.ListN.{length, get_or}
use lib.Seq.{ext_get_or}
use borrow.Author.Tests.{ltb-true, ltb-false}
use Rattle.laws.specs.Choice.{by_bool}
use Rattle.laws.specs.Splice.{part, length_part, get_or_part, part_all, part_add}
use Rattle.wire.proofs.NumberLaws.{Bytes, bytes_part, word_back}
use Rattle.phy.specs.Block.{phy_size, phy_of, counters_at}
use Rattle.rows.specs.Row.{rows_size}
use Rattle.rows.proofs.SameLaws.{rows_same}
use Rattle.connectors.specs.Connector.{connectors_size}
use Rattle.connectors.proofs.Laws.{connectors_same}
use Rattle.adapter.specs.Staged.{Staged}
use Rattle.adapter.specs.Adapter.{Adapter, phy_in}
use Rattle.tables.specs.PhyBytes.{counter_bytes, phy_bytes}
use Rattle.tables.specs.Tables.{tables_size, phys_size, phy_start, rows_start, controller_start, status_start, connectors_start, staged_start, staged_at, phy_at, tables_of}
use Rattle.tables.proofs.Laws.{phy_in_lem, rows_in, controller_in, status_in, connectors_in, staged_in}
use Rattle.tables.proofs.StoredLaws.{five}

-- ---- a phy's bytes, read and written back

module _ (b : List ℕ) (e : length b ≡ phy_size) (h : Bytes b) where
  counts_same : counter_bytes (counters_at b 64) ≡ part b 64 16
  unfolding counter_bytes counters_at
  counts_same =
      rw (word_back b 64 h (omega arith), word_back b 68 h (omega arith), word_back b 72 h (omega arith), word_back b 76 h (omega arith))
      (rw (← part_add b 72 4 4, ← part_add b 68 4 8, ← part_add b 64 4 12) refl)

  last_same : get_or b 100 0 ∷ get_or b 101 0 ∷ get_or b 102 0 ∷ get_or b 103 0 ∷ get_or b 104 0 ∷ [] ≡ part b 100 5
  last_same =
      let g : (i : ℕ) → i < 5 → get_or b (100 + i) 0 ≡ get_or (part b 100 5) i 0 = λ i l. sym (get_or_part b 100 5 i 0 l) in
      rw (g 0 (omega arith), g 1 (omega arith), g 2 (omega arith), g 3 (omega arith), g 4 (omega arith)) (five (part b 100 5) (length_part b 100 5 (omega arith)))

  bytes_back : phy_bytes (phy_of b) ≡ b
  unfolding phy_bytes phy_of
  bytes_back =
      rw (counts_same, last_same) (rw (← part_add b 80 20 5, ← part_add b 64 16 25, ← part_add b 0 64 41) (ap (part b 0) (sym e) ∙ part_all b))

-- ---- the tables

module _ (t u : List ℕ) (p : length t ≡ tables_size) (q : length u ≡ tables_size) (h : Bytes t) (k : Bytes u) (e : tables_of t ≡ tables_of u) where
  head_same : (get_or t 0 0 ≡ get_or u 0 0) × ((get_or t 1 0 ≡ get_or u 1 0) × (part t 2 174 ≡ part u 2 174))
  unfolding tables_of
  head_same = (ap (λ (a : Adapter). a.phy_count) e, (ap (λ (a : Adapter). a.row_count) e, ap (λ (a : Adapter). a.info) e))

  phy_same : (n : ℕ) → n < 32 → part t (phy_start n) phy_size ≡ part u (phy_start n) phy_size
  unfolding phy_at
  phy_same n l =
      let s : phy_of (part t (phy_start n) phy_size) ≡ phy_of (part u (phy_start n) phy_size) = sym (phy_in_lem t n l) ∙ ap (λ (a : Adapter). phy_in a n) e ∙ phy_in_lem u n l in
      sym (bytes_back (part t (phy_start n) phy_size) (length_part t (phy_start n) phy_size (omega arith)) (bytes_part t (phy_start n) phy_size h (omega arith)))
      ∙ ap phy_bytes s
      ∙ bytes_back (part u (phy_start n) phy_size) (length_part u (phy_start n) phy_size (omega arith)) (bytes_part u (phy_start n) phy_size k (omega arith))

  rows_here : part t rows_start rows_size ≡ part u rows_start rows_size
  rows_here =
      rows_same (part t rows_start rows_size) (part u rows_start rows_size) (length_part t rows_start rows_size (omega arith)) (length_part u rows_start rows_size (omega arith))
      (sym (rows_in t) ∙ ap (λ (a : Adapter). a.rows) e ∙ rows_in u)

  controller_here : part t controller_start 176 ≡ part u controller_start 176
  controller_here = sym (controller_in t) ∙ ap (λ (a : Adapter). a.controller) e ∙ controller_in u

  status_here : part t status_start 36 ≡ part u status_start 36
  status_here = sym (status_in t) ∙ ap (λ (a : Adapter). a.status) e ∙ status_in u

  connectors_here : part t connectors_start connectors_size ≡ part u connectors_start connectors_size
  connectors_here =
      connectors_same (part t connectors_start connectors_size) (part u connectors_start connectors_size) (length_part t connectors_start connectors_size (omega arith)) (length_part u connectors_start connectors_size (omega arith))
      (sym (connectors_in t) ∙ ap (λ (a : Adapter). a.connectors) e ∙ connectors_in u)

  staged_here : staged_at t ≡ staged_at u
  staged_here = sym (staged_in t) ∙ ap (λ (a : Adapter). a.staged) e ∙ staged_in u

  -- equal parts, byte by byte
  byte_in : (at n i : ℕ) → part t at n ≡ part u at n → i < n → get_or t (at + i) 0 ≡ get_or u (at + i) 0
  byte_in at n i s l = sym (get_or_part t at n i 0 l) ∙ ap (λ (x : List ℕ). get_or x i 0) s ∙ get_or_part u at n i 0 l

  abbrev Same : ℕ → Type 0
  Same i = get_or t i 0 ≡ get_or u i 0

  in_head : (i : ℕ) → i < 176 → Same i
  in_head zero l = head_same.0
  in_head (suc zero) l = head_same.1.0
  in_head (suc (suc i)) l =
      let s : 2 + i ≡ suc (suc i) = omega arith in
      rw s at (byte_in 2 174 i head_same.1.1 (omega arith))

  in_phys : (j : ℕ) → j < phys_size → Same (176 + j)
  in_phys j l =
      let s : phy_start (j / phy_size) + j % phy_size ≡ 176 + j = omega arith in
      rw s at (byte_in (phy_start (j / phy_size)) phy_size (j % phy_size) (phy_same (j / phy_size) (omega arith)) (omega arith))

  -- a byte of a part that starts at `at` and has n bytes, by where it stands
  within : (at n i : ℕ) → part t at n ≡ part u at n → at ≤ i → i < at + n → Same i
  within at n i s l m =
      let d : at + (i - at) ≡ i = omega arith in
      rw d at (byte_in at n (i - at) s (omega arith))

  -- one side of a place or the other
  split : (i k : ℕ) → (i < k → Same i) → (k ≤ i → Same i) → Same i
  split i k below above =
      by_bool (λ (c : Bool). ltb i k ≡ c → Same i) (λ c. below (ltb-true i k c)) (λ c. above (ltb-false i k c)) (ltb i k) refl

  in_staged : (i : ℕ) → staged_start ≤ i → i < tables_size → Same i
  in_staged i l m =
      split i (staged_start + 1)
      (λ a. let s : staged_start ≡ i = omega arith in
      rw s at (ap (λ (x : Staged). x.flag) staged_here))
      (λ a. within (staged_start + 1) 8 i (ap (λ (x : Staged). x.revisions) staged_here) a (omega arith))

  pub tables_same : t ≡ u
  tables_same = ext_get_or 0 t u (p ∙ sym q) (λ i l. at i (rw p at l))
    where
      at : (i : ℕ) → i < tables_size → Same i
      at i l =
          split i 176 (in_head i)
          (λ a. split i rows_start
          (λ b. let s : 176 + (i - 176) ≡ i = omega arith in
          rw s at (in_phys (i - 176) (omega arith)))
          (λ b. split i controller_start (λ c. within rows_start rows_size i rows_here b (omega arith))
          (λ c. split i status_start (λ d. within controller_start 176 i controller_here c (omega arith))
          (λ d. split i connectors_start (λ f. within status_start 36 i status_here d (omega arith))
          (λ f. split i staged_start (λ g. within connectors_start connectors_size i connectors_here f (omega arith))
          (λ g. in_staged i g l))))))
