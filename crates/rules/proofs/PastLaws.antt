-- What is proved of the definitions in specs/Past.antt. Assumes nothing.
use mathlib.Core.Path.{◌≡◌, refl, sym, ◌∙◌, ap}
use mathlib.Core.Bool.{Bool, ◌&&◌}
use mathlib.Core.List.{List}
use Prim.Native.Nat.{ℕ, ◌+◌, ◌-◌, ◌*◌, ◌<◌, ◌≤◌}
use native.Mathlib.Omega.{arith}
use lib.Dec.{eqb}
use lib.ListN.{length, get_or}
use Rattle.laws.specs.All.{all_to}
use Rattle.laws.specs.Splice.{part, part_all, length_part}
use Rattle.wire.specs.Same.{all_zero}
use Rattle.wire.proofs.ZeroLaws.{zero_split, zero_none, zero_one, zero_number, zero_run}
use Rattle.phy.specs.Block.{phy_size, counters_at, phy_of}
use Rattle.fields.specs.Rules.{phy_zero}
use Rattle.rows.specs.Row.{zero_from, rows_of, rows_size}
use Rattle.connectors.specs.Connector.{connectors_size, connectors_of, connectors_past}
use Rattle.adapter.specs.Adapter.{phy_in, zero_past}
use Rattle.tables.specs.Tables.{tables_size, phy_start, rows_start, connectors_start, phy_at, tables_of}
use Rattle.tables.proofs.Laws.{phy_in_lem, rows_in, connectors_in}
use Rattle.rules.specs.Past.{phys_past}

-- ---- a phy is zero where its bytes are

counters_zero : (b : List ℕ) → all_zero (part b 64 16) ≡ all_to (λ (i : ℕ). eqb (get_or (counters_at b 64) i 0) 0) 4
unfolding all_to counters_at
counters_zero b =
    let a = zero_split b 64 12 4 in
    let c = zero_split b 64 8 4 in
    let d = zero_split b 64 4 4 in
    let e = zero_split b 64 0 4 in
    let z = zero_none b 64 in
    cc (zero_number (part b 64 4), zero_number (part b 68 4), zero_number (part b 72 4), zero_number (part b 76 4))

phy_zero_lem : (b : List ℕ) → length b ≡ phy_size → all_zero b ≡ phy_zero (phy_of b)
unfolding phy_zero phy_of
phy_zero_lem b n =
    let w : b ≡ part b 0 phy_size = sym (ap (part b 0) (sym n) ∙ part_all b) in
    let s = zero_split b 0 104 1 in
    let s0 = zero_split b 0 103 1 in
    let s1 = zero_split b 0 102 1 in
    let s2 = zero_split b 0 101 1 in
    let s3 = zero_split b 0 100 1 in
    let s4 = zero_split b 0 80 20 in
    let s5 = zero_split b 0 64 16 in
    let o0 = zero_one b 100 (omega arith) in
    let o1 = zero_one b 101 (omega arith) in
    let o2 = zero_one b 102 (omega arith) in
    let o3 = zero_one b 103 (omega arith) in
    let o4 = zero_one b 104 (omega arith) in
    ap all_zero w ∙ cc (counters_zero b)

-- ---- the phys from p on, the rows from a on, and the connectors

one_phy : (t : List ℕ) (p i : ℕ) → length t ≡ tables_size → p + i < 32
    → all_zero (part t (phy_start p + phy_size * i) phy_size) ≡ phy_zero (phy_in (tables_of t) (p + i))
unfolding phy_at
one_phy t p i n h =
    let e : phy_start p + phy_size * i ≡ phy_start (p + i) = omega arith in
    rw (e, phy_in_lem t (p + i) h) (phy_zero_lem (part t (phy_start (p + i)) phy_size) (length_part t (phy_start (p + i)) phy_size (omega arith)))

pub phys_past_lem : (t : List ℕ) (p : ℕ) (r : Bool) → length t ≡ tables_size → p ≤ 32 → r ≡ all_zero (part t (phy_start p) (phy_size * (32 - p)))
    → r ≡ phys_past (tables_of t).phys p
unfolding phys_past
phys_past_lem t p r n h q =
    q
    ∙ zero_run (λ (i : ℕ). phy_zero (phy_in (tables_of t) (p + i))) t (phy_start p) phy_size (32 - p) (omega arith) (λ i l. one_phy t p i n (omega arith))

-- all three, where the rows and the connectors are their parts of the tables
pub past_by : (t rows connectors : List ℕ) (p a : ℕ) (r s c : Bool) → p ≡ (tables_of t).phy_count → a ≡ (tables_of t).row_count
    → rows ≡ part t rows_start rows_size → connectors ≡ part t connectors_start connectors_size → r ≡ phys_past (tables_of t).phys p
    → s ≡ zero_from (rows_of rows) a → c ≡ connectors_past (connectors_of connectors) p → r && s && c ≡ zero_past (tables_of t)
unfolding zero_past phys_past
past_by t rows connectors p a r s c e f x y q k l = rw (q, k, l, e, f, x, y, rows_in t, connectors_in t) refl
