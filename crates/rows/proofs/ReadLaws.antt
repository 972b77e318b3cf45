-- Rows out of bytes ("rows of 20 bytes", document 01, "Adapter file"). Assumes nothing.
use mathlib.Core.Path.{◌≡◌, refl, sym, ◌∙◌, ap}
use mathlib.Core.Bool.{Bool, false}
use mathlib.Core.List.{List, [], ◌∷◌, map}
use Prim.Native.Nat.{ℕ, ◌+◌, ◌-◌, ◌*◌, ◌/◌, ◌<◌, ◌≤◌}
use native.Mathlib.Omega.{arith}
use lib.ListN.{length, get_or, take}
use Rattle.laws.specs.Fill.{list_to, list_to_same, get_or_list_to}
use Rattle.std.specs.Simd.{first_chunks}
use Rattle.std.proofs.lemmas.List.{get_or-map, length-map, take-map}
use Rattle.std.specs.List.{list_all}
use Rattle.rows.specs.Read.{rows_in}
use Rattle.rows.proofs.Chunks.{chunks_parts, map_list_to, all_first}
use Rattle.laws.specs.Splice.{part, length_part, part_part, get_or_part}
use Rattle.wire.specs.Same.{same_bytes, all_zero}
use Rattle.wire.proofs.SameLaws.{ne_same}
use Rattle.wire.proofs.ZeroLaws.{zero_split, zero_run}
use Rattle.rows.specs.Row.{Row, row_of, rows_size, row_start, rows_of, no_row, row_at, apart, fresh, row_zero, zero_from}

-- ---- a row in a part is that in the whole, and how long its fields are

pub row_part : (bytes : List ℕ) (from n at : ℕ) → at + 20 ≤ n → row_of (part bytes from n) at ≡ row_of bytes (from + at)
unfolding row_of
row_part bytes from n at h =
    let e : from + (at + 16) ≡ from + at + 16 = omega arith in
    rw (part_part bytes from n at 16 (omega arith), part_part bytes from n (at + 16) 4 (omega arith), e)

pub length_sas : (bytes : List ℕ) (at : ℕ) → at + 20 ≤ length bytes → length (row_of bytes at).sas ≡ 16
unfolding row_of
length_sas bytes at h = length_part bytes at 16 (omega arith)

pub length_os : (bytes : List ℕ) (at : ℕ) → at + 20 ≤ length bytes → length (row_of bytes at).os ≡ 4
unfolding row_of
length_os bytes at h = length_part bytes (at + 16) 4 (omega arith)

-- ---- row i

pub row_in : (b : List ℕ) (i : ℕ) → i < 64 → row_at (rows_of b) i ≡ row_of b (row_start i)
unfolding rows_of
row_in b i h = get_or_list_to (λ (j : ℕ). row_of b (row_start j)) 64 i no_row h

-- ---- rows in chunks of 20 bytes, as the code holds them

-- the first k
rows_chunked_to : (b : List ℕ) (k : ℕ) → rows_in (first_chunks 20 k b) ≡ list_to (λ (i : ℕ). row_of b (row_start i)) k
rows_chunked_to b k =
    ap (map (λ (chunk : List ℕ). row_of chunk 0)) (chunks_parts 20 k b)
    ∙ map_list_to (λ (chunk : List ℕ). row_of chunk 0) (λ (i : ℕ). part b (20 * i) 20) k
    ∙ list_to_same (λ (i : ℕ). row_of (part b (20 * i) 20) 0) (λ (i : ℕ). row_of b (row_start i)) k
    (λ i l. let e : 20 * i + 0 ≡ row_start i = omega arith in row_part b (20 * i) 20 0 (omega arith) ∙ rw e refl)

-- all 64 of them
pub rows_chunked : (b : List ℕ) → length b ≡ rows_size → rows_in (first_chunks 20 (length b / 20) b) ≡ rows_of b
unfolding rows_of
rows_chunked b n =
    let k : length b / 20 ≡ 64 = rw n refl in
    rows_chunked_to b (length b / 20) ∙ ap (list_to (λ (i : ℕ). row_of b (row_start i))) k

-- one of them
pub row_chunk : (chunks : List (List ℕ)) (i : ℕ) (d : List ℕ) → i < length chunks → row_at (rows_in chunks) i ≡ row_of (get_or chunks i d) 0
row_chunk chunks i d h = get_or-map (λ (chunk : List ℕ). row_of chunk 0) chunks i d no_row h

-- one of them shares nothing with those before it
pub fresh_chunk : (chunks : List (List ℕ)) (i : ℕ) (row : Row) → i < length chunks → row ≡ row_of (get_or chunks i []) 0
    → list_all (λ (other : Row). apart other row) (rows_in (take i chunks)) ≡ fresh (rows_in chunks) i
unfolding fresh
fresh_chunk chunks i row h e =
    let r : row ≡ row_at (rows_in chunks) i = e ∙ sym (row_chunk chunks i [] h) in
    let l : i ≤ length (rows_in chunks) = rw length-map (omega arith) in
    rw (r, ← take-map)
    (all_first (λ (other : Row). apart other (row_at (rows_in chunks) i)) (rows_in chunks) no_row i l)

-- a test of each where it stands
all_rows : (f : Row → Bool) (chunks : List (List ℕ)) → list_all (λ (chunk : List ℕ). f (row_of chunk 0)) chunks ≡ list_all f (rows_in chunks)
all_rows f [] = refl
all_rows f (x ∷ xs) = rw (all_rows f xs) refl

pub fresh_chunks : (chunks : List (List ℕ)) (i : ℕ) (row : Row) → i < length chunks → row ≡ row_of (get_or chunks i []) 0
    → list_all (λ (chunk : List ℕ). apart (row_of chunk 0) row) (take i chunks) ≡ fresh (rows_in chunks) i
fresh_chunks chunks i row h e = all_rows (λ (other : Row). apart other row) (take i chunks) ∙ fresh_chunk chunks i row h e

-- two that differ in the byte that is compared first
pub sas_pair_unlike : (l m : List ℕ) → (get_or l 7 0 ≡ get_or m 7 0 → ⊥) → same_bytes (part l 0 16) (part m 0 16) ≡ false
sas_pair_unlike l m h =
    ne_same (part l 0 16) (part m 0 16)
    (λ e. h (sym (get_or_part l 0 16 7 0 (omega arith)) ∙ ap (λ (x : List ℕ). get_or x 7 0) e ∙ get_or_part m 0 16 7 0 (omega arith)))

pub os_pair_unlike : (l m : List ℕ) → (get_or l 18 0 ≡ get_or m 18 0 → ⊥) → same_bytes (part l 16 4) (part m 16 4) ≡ false
os_pair_unlike l m h =
    ne_same (part l 16 4) (part m 16 4)
    (λ e. h (sym (get_or_part l 16 4 2 0 (omega arith)) ∙ ap (λ (x : List ℕ). get_or x 2 0) e ∙ get_or_part m 16 4 2 0 (omega arith)))

-- ---- zero from a on is a test of bytes

row_zero_lem : (l : List ℕ) (at : ℕ) → at + 20 ≤ length l → all_zero (part l at 20) ≡ row_zero (row_of l at)
unfolding row_zero row_of all_zero
row_zero_lem l at h = zero_split l at 16 4 ∙ rw (length_part l at 16 (omega arith), length_part l (at + 16) 4 (omega arith))

one_row : (b : List ℕ) (a i : ℕ) → length b ≡ rows_size → a + i < 64 → all_zero (part b (row_start a + 20 * i) 20) ≡ row_zero (row_at (rows_of b) (a + i))
one_row b a i n h =
    let e : row_start a + 20 * i ≡ row_start (a + i) = omega arith in
    rw (e, row_in b (a + i) h) (row_zero_lem b (row_start (a + i)) (omega arith))

pub rows_past : (b : List ℕ) (a : ℕ) (r : Bool) → length b ≡ rows_size → a ≤ 64 → r ≡ all_zero (part b (20 * a) (20 * (64 - a)))
    → r ≡ zero_from (rows_of b) a
unfolding zero_from
rows_past b a r n h q =
    q
    ∙ (zero_run (λ (i : ℕ). row_zero (row_at (rows_of b) (a + i))) b (row_start a) 20 (64 - a) (omega arith) (λ i l. one_row b a i n (omega arith)))
