-- What std finds among the first of some rows, by the index that the rows' definitions give, and what is put of a row. Assumes nothing.
use Rattle.std.proofs.Common.{◌≡◌, refl, sym, ◌∙◌, ap, subst, ℕ, zero, suc, ◌+◌, ◌<◌, ◌≤◌, Bool, false, cond, List, [], ◌∷◌, length, get_or, take, drop, Option, Some, None, arith, drop-cons}
use Rattle.std.specs.List.{position_or_len}
use lib.Dec.{ltb}
use borrow.Author.Tests.{ltb-true, ltb-false}
use Rattle.std.proofs.lemmas.List.{take-map, length-map, length-take-le}
use Rattle.laws.specs.Choice.{by_bool}
use Rattle.laws.specs.First.{first, first_from}
use Rattle.laws.specs.Splice.{part, splice, part_all, get_or_part}
use Rattle.wire.specs.Same.{same_bytes}
use Rattle.wire.proofs.SameLaws.{ne_same}
use Rattle.rows.specs.Row.{Row, row_of, no_row, row_at}
use Rattle.rows.specs.declared.Row.{Row as Held}
use Rattle.rows.specs.Read.{rows_in, row_held}
use Rattle.conversions.specs.Found.{found}

module _ (p : Row → Bool) where
  step : (x : Row) (xs : List Row) → position_or_len p (x ∷ xs) ≡ cond (p x) 0 (suc (position_or_len p xs))
  step x xs = by_bool (λ (b : Bool). p x ≡ b → position_or_len p (x ∷ xs) ≡ cond b 0 (suc (position_or_len p xs))) (λ e. rw e refl) (λ e. rw e (omega arith)) (p x) refl

  module _ (rows : List Row) where
    place_from : (i k n : ℕ) → i + k ≡ n → n ≤ length rows → i + position_or_len p (take k (drop i rows)) ≡ first_from (λ j. p (row_at rows j)) i k
    unfolding first_from
    place_from i zero n e h = omega arith
    place_from i (suc k) n e h =
        let d : drop i rows ≡ row_at rows i ∷ drop (suc i) rows = drop-cons rows i no_row (omega arith) in
        rw (d, step (row_at rows i) (take k (drop (suc i) rows)))
        (by_bool
        (λ (b : Bool). p (row_at rows i) ≡ b
        → i + cond b 0 (suc (position_or_len p (take k (drop (suc i) rows)))) ≡ cond b i (first_from (λ j. p (row_at rows j)) (suc i) k))
        (λ q. omega arith) (λ q. omega (arith, place_from (suc i) k n (omega arith) h)) (p (row_at rows i)) refl)

    -- among the first a
    place_first : (a : ℕ) → a ≤ length rows → position_or_len p (take a rows) ≡ first (λ j. p (row_at rows j)) a
    place_first a h = omega (arith, place_from 0 a a (omega arith) h)

-- the same of rows in chunks of 20 bytes
pub found_in : (p : Row → Bool) (chunks : List (List ℕ)) (rows : List Row) (a : ℕ) → rows_in chunks ≡ rows → a ≤ length chunks
    → cond (ltb (position_or_len p (rows_in (take a chunks))) (length (rows_in (take a chunks)))) (Some (position_or_len p (rows_in (take a chunks)))) None
    ≡ found a (first (λ j. p (row_at rows j)) a)
unfolding found
found_in p chunks rows a e h =
    let l : length rows ≡ length chunks = rw (← e) (length-map chunks (λ chunk. row_of chunk 0)) in
    let t : rows_in (take a chunks) ≡ take a rows = rw (← take-map, e) refl in
    rw (t, place_first p rows a (rw l h), length-take-le a rows (rw l h)) refl

-- in chunks, a row is tested where it stands
position_rows : (p : Row → Bool) (chunks : List (List ℕ)) → position_or_len (λ chunk. p (row_of chunk 0)) chunks ≡ position_or_len p (rows_in chunks)
position_rows p [] = refl
position_rows p (x ∷ xs) = rw (position_rows p xs) refl

pub found_chunks : (p : Row → Bool) (chunks : List (List ℕ)) (rows : List Row) (a : ℕ) → rows_in chunks ≡ rows → a ≤ length chunks
    → cond (ltb (position_or_len (λ chunk. p (row_of chunk 0)) (take a chunks)) (length (take a chunks))) (Some (position_or_len (λ chunk. p (row_of chunk 0)) (take a chunks))) None
    ≡ found a (first (λ j. p (row_at rows j)) a)
found_chunks p chunks rows a e h =
    let l : length (rows_in (take a chunks)) ≡ length (take a chunks) = length-map (take a chunks) (λ chunk. row_of chunk 0) in
    rw (position_rows p (take a chunks), ← l) (found_in p chunks rows a e h)

-- what the tests of a row where it stands say of it
pub sas_told : (l m : List ℕ) (r : Bool) → length m ≡ 16 → r ≡ same_bytes (part l 0 16) (part m 0 16) → r ≡ same_bytes (row_of l 0).sas m
unfolding row_of
sas_told l m r q e = e ∙ ap (same_bytes (part l 0 16)) (ap (part m 0) (sym q) ∙ part_all m)

pub os_told : (l m : List ℕ) (r : Bool) → length m ≡ 4 → r ≡ same_bytes (part l 16 4) (part m 0 4) → r ≡ same_bytes (row_of l 0).os m
unfolding row_of
os_told l m r q e = e ∙ ap (same_bytes (part l 16 4)) (ap (part m 0) (sym q) ∙ part_all m)

-- two that differ in the byte that is compared first
pub sas_unlike : (l m : List ℕ) → (get_or l 7 0 ≡ get_or m 7 0 → ⊥) → same_bytes (row_of l 0).sas m ≡ false
unfolding row_of
sas_unlike l m h = ne_same (part l 0 16) m (λ e. h (sym (get_or_part l 0 16 7 0 (omega arith)) ∙ ap (λ (x : List ℕ). get_or x 7 0) e))

pub os_unlike : (l m : List ℕ) → (get_or l 18 0 ≡ get_or m 2 0 → ⊥) → same_bytes (row_of l 0).os m ≡ false
unfolding row_of
os_unlike l m h = ne_same (part l 16 4) m (λ e. h (sym (get_or_part l 16 4 2 0 (omega arith)) ∙ ap (λ (x : List ℕ). get_or x 2 0) e))

-- ---- what the index says

abbrev held : ℕ → Option ℕ → ℕ
held n None = n
held n (Some i) = i

abbrev IsThere : Option ℕ → Type 0
IsThere None = ⊥
IsThere (Some i) = Unit {0}

pub found_some : (a n i : ℕ) → Some i ≡ found a n → (i ≡ n) × (n < a)
unfolding found
found_some a n i e =
    by_bool (λ (b : Bool). ltb n a ≡ b → Some i ≡ cond b (Some n) None → (i ≡ n) × (n < a)) (λ q s. (ap (held n) s, ltb-true n a q)) (λ q s. absurd (subst IsThere s tt)) (ltb n a) refl e

pub found_none : (a n : ℕ) → None ≡ found a n → a ≤ n
unfolding found
found_none a n e =
    by_bool (λ (b : Bool). ltb n a ≡ b → None ≡ cond b (Some n) None → a ≤ n) (λ q s. absurd (subst IsThere (sym s) tt)) (λ q s. ltb-false n a q) (ltb n a) refl e

-- ---- what is put of a row

pub sas_put : (row : Held) (r : Row) (d e : List ℕ) (at : ℕ) → row_held row ≡ r → e ≡ splice d at row.sas → e ≡ splice d at r.sas
sas_put row r d e at p q = q ∙ ap (λ (x : Row). splice d at x.sas) p

pub os_put : (row : Held) (r : Row) (d e : List ℕ) (at : ℕ) → row_held row ≡ r → e ≡ splice d at row.os → e ≡ splice d at r.os
os_put row r d e at p q = q ∙ ap (λ (x : Row). splice d at x.os) p
