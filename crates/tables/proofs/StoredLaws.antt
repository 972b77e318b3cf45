-- What a store of one phy's bytes does to the tables. Assumes nothing.
use mathlib.Core.Path.{◌≡◌, refl, sym, ◌∙◌, ap}
use mathlib.Core.Logic.{◌≢◌}
use mathlib.Core.Bool.{Bool}
use mathlib.Core.List.{List, [], ◌∷◌, ◌++◌, append_assoc}
use Prim.Native.Nat.{ℕ, ◌+◌, ◌-◌, ◌<◌, ◌≤◌}
use native.Mathlib.Omega.{arith}
use lib.Dec.{ltb}
use lib.ListN.{length, get_or, length-append}
use borrow.Author.Tests.{ltb-true, ltb-false}
use borrow.Rule.Slice.PartMut.{put_mid}
use Rattle.laws.specs.Choice.{by_bool}
use mir.Syntax.{w32}
use mir.Val.{Fits}
use Rattle.laws.specs.Fill.{list_to_set}
use Rattle.laws.specs.Splice.{part, splice, splice_next, part_splice, part_below, part_above, part_first, part_behind, get_below, get_above, get_behind, lent_back, splice_all}
use Rattle.wire.specs.Number.{number, bytes}
use Rattle.wire.proofs.NumberLaws.{length_bytes, number_bytes}
use Rattle.phy.specs.declared.Phy.{Phy}
use Rattle.phy.specs.Block.{phy_size, phy_of, no_phy, counters_at}
use Rattle.rows.specs.Row.{rows_size}
use Rattle.connectors.specs.Connector.{connectors_size}
use Rattle.adapter.specs.Adapter.{with_phy}
use Rattle.tables.specs.PhyBytes.{counter_bytes, last_bytes, phy_bytes}
use Rattle.tables.specs.Tables.{tables_size, phy_start, rows_start, controller_start, status_start, connectors_start, staged_start, phy_at, tables_of}

-- ---- a store of a phy's bytes at phy n's place

module _ (t b : List ℕ) (n : ℕ) (size : length t ≡ tables_size) (h : n < 32) (e : length b ≡ phy_size) where
  abbrev after : List ℕ
  after = splice t (phy_start n) b

  phy_here : phy_at after n ≡ phy_of b
  unfolding phy_at
  phy_here = ap phy_of (ap (part after (phy_start n)) (sym e) ∙ part_splice t (phy_start n) b (omega arith))

  phy_there : (i : ℕ) → i < 32 → i ≢ n → phy_at after i ≡ phy_at t i
  unfolding phy_at
  phy_there i l d = ap phy_of (by_bool (λ (c : Bool). ltb i n ≡ c → part after (phy_start i) phy_size ≡ part t (phy_start i) phy_size)
      (λ p. part_below t (phy_start n) b (phy_start i) phy_size (omega arith) (omega (arith, ltb-true i n p)))
      (λ p. part_above t (phy_start n) b (phy_start i) phy_size (omega arith) (omega (arith, ltb-false i n p)))
      (ltb i n) refl)

  -- what stands behind the phys
  behind : (at m : ℕ) → rows_start ≤ at → part after at m ≡ part t at m
  behind at m l = part_above t (phy_start n) b at m (omega arith) (omega arith)

  byte_behind : (i : ℕ) → rows_start ≤ i → get_or after i 0 ≡ get_or t i 0
  byte_behind i l = get_above t (phy_start n) b i 0 (omega arith) (omega arith)

  -- the tables after it are those before with another phy n
  tables_stored : (phy : Phy) → phy_of b ≡ phy → tables_of after ≡ with_phy (tables_of t) n phy
  unfolding tables_of with_phy
  tables_stored phy q =
      rw (
        get_below t (phy_start n) b 0 0 (omega arith) (omega arith),
        get_below t (phy_start n) b 1 0 (omega arith) (omega arith),
        part_below t (phy_start n) b 2 174 (omega arith) (omega arith),
        list_to_set (phy_at t) (phy_at after) 32 n phy no_phy h (phy_here ∙ q) phy_there,
        behind rows_start rows_size (omega arith),
        behind controller_start 176 (omega arith),
        behind status_start 36 (omega arith),
        behind connectors_start connectors_size (omega arith),
        byte_behind staged_start (omega arith),
        behind (staged_start + 1) 8 (omega arith),
      )

-- ---- what a phy's bytes read back as

pub four : (c : List ℕ) → length c ≡ 4 → get_or c 0 0 ∷ get_or c 1 0 ∷ get_or c 2 0 ∷ get_or c 3 0 ∷ [] ≡ c
four [] e = absurd (omega arith)
four (a ∷ []) e = absurd (omega arith)
four (a ∷ b ∷ []) e = absurd (omega arith)
four (a ∷ b ∷ d ∷ []) e = absurd (omega arith)
four (a ∷ b ∷ d ∷ f ∷ []) e = refl
four (a ∷ b ∷ d ∷ f ∷ g ∷ c) e = absurd (omega arith)

pub five : (c : List ℕ) → length c ≡ 5 → get_or c 0 0 ∷ get_or c 1 0 ∷ get_or c 2 0 ∷ get_or c 3 0 ∷ get_or c 4 0 ∷ [] ≡ c
five [] e = absurd (omega arith)
five (a ∷ c) e = ap (λ (x : List ℕ). a ∷ x) (four c (omega arith))

-- the number whose four bytes stand behind k others
word : (a r : List ℕ) (k n : ℕ) → length a ≡ k → Fits w32 n → number (part (a ++ (bytes 4 n ++ r)) (k + 0) 4) ≡ n
word a r k n e f =
    ap number (part_behind a (bytes 4 n ++ r) k 0 4 e ∙ part_first (bytes 4 n) r 4 (length_bytes 4 n)) ∙ number_bytes 4 n f.fits

module _ (phy : Phy) (e : length phy.entity ≡ 64) (c : length phy.counters ≡ 4) (s : length phy.signature ≡ 20)
    (f0 : Fits w32 (get_or phy.counters 0 0)) (f1 : Fits w32 (get_or phy.counters 1 0)) (f2 : Fits w32 (get_or phy.counters 2 0)) (f3 : Fits w32 (get_or phy.counters 3 0)) where
  abbrev count : ℕ → List ℕ
  count i = bytes 4 (get_or phy.counters i 0)

  abbrev rest : List ℕ
  rest = phy.signature ++ last_bytes phy

  -- the counters one behind the other
  flat : phy_bytes phy ≡ phy.entity ++ (count 0 ++ (count 1 ++ (count 2 ++ (count 3 ++ rest))))
  unfolding phy_bytes counter_bytes
  flat = simp append_assoc

  counters_back : counters_at (phy_bytes phy) 64 ≡ phy.counters
  unfolding counters_at
  counters_back =
      let l : (i : ℕ) → length (count i) ≡ 4 = λ i. length_bytes 4 (get_or phy.counters i 0) in
      let p1 : length (phy.entity ++ count 0) ≡ 68 = length-append phy.entity (count 0) ∙ rw (e, l 0) in
      let p2 : length ((phy.entity ++ count 0) ++ count 1) ≡ 72 = length-append (phy.entity ++ count 0) (count 1) ∙ rw (p1, l 1) in
      let p3 : length (((phy.entity ++ count 0) ++ count 1) ++ count 2) ≡ 76 = length-append ((phy.entity ++ count 0) ++ count 1) (count 2) ∙ rw (p2, l 2) in
      let w0 : number (part (phy_bytes phy) 64 4) ≡ get_or phy.counters 0 0 =
      rw flat (word phy.entity (count 1 ++ (count 2 ++ (count 3 ++ rest))) 64 (get_or phy.counters 0 0) e f0) in
      let w1 : number (part (phy_bytes phy) 68 4) ≡ get_or phy.counters 1 0 =
      rw flat (simp append_assoc at (word (phy.entity ++ count 0) (count 2 ++ (count 3 ++ rest)) 68 (get_or phy.counters 1 0) p1 f1)) in
      let w2 : number (part (phy_bytes phy) 72 4) ≡ get_or phy.counters 2 0 =
      rw flat (simp append_assoc at (word ((phy.entity ++ count 0) ++ count 1) (count 3 ++ rest) 72 (get_or phy.counters 2 0) p2 f2)) in
      let w3 : number (part (phy_bytes phy) 76 4) ≡ get_or phy.counters 3 0 =
      rw flat (simp append_assoc at (word (((phy.entity ++ count 0) ++ count 1) ++ count 2) rest 76 (get_or phy.counters 3 0) p3 f3)) in
      rw (w0, w1, w2, w3) (four phy.counters c)

  length_counts : length (counter_bytes phy.counters) ≡ 16
  unfolding counter_bytes
  length_counts = simp (length-append, length_bytes)

  entity_back : part (phy_bytes phy) 0 64 ≡ phy.entity
  unfolding phy_bytes
  entity_back = part_first phy.entity (counter_bytes phy.counters ++ rest) 64 e

  signature_back : part (phy_bytes phy) 80 20 ≡ phy.signature
  unfolding phy_bytes
  signature_back =
      part_behind phy.entity (counter_bytes phy.counters ++ rest) 64 16 20 e
      ∙ part_behind (counter_bytes phy.counters) rest 16 0 20 length_counts
      ∙ part_first phy.signature (last_bytes phy) 20 s

  last_back : (i : ℕ) → get_or (phy_bytes phy) (64 + (16 + (20 + i))) 0 ≡ get_or (last_bytes phy) i 0
  unfolding phy_bytes
  last_back i =
      get_behind phy.entity (counter_bytes phy.counters ++ rest) 64 (16 + (20 + i)) 0 e
      ∙ get_behind (counter_bytes phy.counters) rest 16 (20 + i) 0 length_counts
      ∙ get_behind phy.signature (last_bytes phy) 20 i 0 s

  phy_back : phy_of (phy_bytes phy) ≡ phy
  unfolding phy_of
  phy_back = rw (entity_back, counters_back, signature_back, last_back 0, last_back 1, last_back 2, last_back 3, last_back 4)

-- ---- what the code leaves

pub counters_stored : (d x y z r c : List ℕ)
    → r ≡ splice z 12 (bytes 4 (get_or c 3 0)) → z ≡ splice y 8 (bytes 4 (get_or c 2 0)) → y ≡ splice x 4 (bytes 4 (get_or c 1 0)) → x ≡ splice d 0 (bytes 4 (get_or c 0 0))
    → length d ≡ 16 → r ≡ counter_bytes c
unfolding counter_bytes
counters_stored d x y z r c s3 s2 s1 s0 h =
    let l : (i : ℕ) → length (bytes 4 (get_or c i 0)) ≡ 4 = λ i. length_bytes 4 (get_or c i 0) in
    let one_behind : r ≡ splice d 0 (counter_bytes c) =
    s3 ∙ rw (s2, s1, s0)
    (rw (splice_next d 0 4 (bytes 4 (get_or c 0 0)) (bytes 4 (get_or c 1 0)) (omega (arith, l 0)) (omega arith))
    (rw (splice_next d 0 8 (bytes 4 (get_or c 0 0) ++ bytes 4 (get_or c 1 0)) (bytes 4 (get_or c 2 0)) (rw (length-append, l 0, l 1)) (omega arith))
    (rw (splice_next d 0 12 ((bytes 4 (get_or c 0 0) ++ bytes 4 (get_or c 1 0)) ++ bytes 4 (get_or c 2 0)) (bytes 4 (get_or c 3 0)) (rw (length-append, length-append, l 0, l 1, l 2)) (omega arith))
    (simp append_assoc)))) in
    let long : length (counter_bytes c) ≡ 16 = simp (length-append, length_bytes) in
    splice_all d (counter_bytes c) r (long ∙ sym h) one_behind

-- the fields of a struct's value: how long its arrays are, and that each counter has 32 bits
pub record Whole (phy : Phy) : Type 0 where
  pub entity : length phy.entity ≡ 64
  pub counters : length phy.counters ≡ 4
  pub signature : length phy.signature ≡ 20
  pub fits0 : Fits w32 (get_or phy.counters 0 0)
  pub fits1 : Fits w32 (get_or phy.counters 1 0)
  pub fits2 : Fits w32 (get_or phy.counters 2 0)
  pub fits3 : Fits w32 (get_or phy.counters 3 0)

whole_bytes : (phy : Phy) → Whole phy → length (phy_bytes phy) ≡ phy_size
unfolding phy_bytes counter_bytes
whole_bytes phy w = simp (length-append, length_bytes, w.entity, w.signature)

-- a phy's bytes that were lent to the writing of one
pub phy_put : (t d : List ℕ) (from n : ℕ) (phy : Phy) → d ≡ phy_bytes phy → from ≡ phy_start n → n < 32 → length t ≡ tables_size
    → Whole phy → tables_of (put_mid from (from + phy_size - from) t d) ≡ with_phy (tables_of t) n phy
phy_put t d from n phy q p h e w =
    let k : from + phy_size - from ≡ phy_size = omega arith in
    let l : length (phy_bytes phy) ≡ phy_size = whole_bytes phy w in
    let back : phy_of (phy_bytes phy) ≡ phy = phy_back phy w.entity w.counters w.signature w.fits0 w.fits1 w.fits2 w.fits3 in
    rw (k, q, p, lent_back t (phy_start n) phy_size (phy_bytes phy) l) (tables_stored t (phy_bytes phy) n e h l phy back)
