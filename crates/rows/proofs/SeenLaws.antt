-- What is proved of the definitions in specs/Seen.antt. Assumes nothing.
use mathlib.Core.Path.{◌≡◌, refl, sym, ◌∙◌, ap}
use mathlib.Core.Bool.{Bool, true, false, ◌&&◌, false≢true}
use mathlib.Core.List.{List, []}
use Prim.Native.Nat.{ℕ, ◌+◌, ◌<◌}
use native.Mathlib.Omega.{arith}
use native.Mathlib.Decide.{ℕ_discrete}
use lib.ListN.{length, get_or, set, length-set}
use lib.Seq.{get_or-set_same, get_or-set_other}
use Rattle.laws.specs.All.{all_to, all_at, all_by, all_more, all_none}
use Rattle.laws.specs.Choice.{both, both_left, both_right}
use Rattle.wire.proofs.SameLaws.{ne_same}
use Rattle.rows.specs.Row.{Row, row_of, rows_of, row_at, apart, fresh, rows_hold}
use Rattle.rows.specs.Read.{rows_in}
use Rattle.rows.proofs.ReadLaws.{row_chunk}
use Rattle.rows.specs.Seen.{key, marked}

-- no rows
pub none_hold : (b : List ℕ) (a : ℕ) → a ≡ 0 → true ≡ rows_hold (rows_of b) a
unfolding rows_hold
none_hold b a e = rw e (sym (all_none (fresh (rows_of b))))

-- ---- a row that is not marked, where those before it are

-- one that was marked has another key
other_key : (seen : List Bool) (at : List ℕ → ℕ) (x y : List ℕ) → get_or seen (at x) false ≡ true → get_or seen (at y) false ≡ false → x ≡ y → ⊥
other_key seen at x y p q e = false≢true (sym q ∙ ap (λ (l : List ℕ). get_or seen (at l) false) (sym e) ∙ p)

module _ (seen : List Bool) (rows : List Row) (i : ℕ) (m : all_to (marked seen rows) i ≡ true) (d : get_or seen (key (row_at rows i).sas) false ≡ false)
    (o : get_or seen (1024 + key (row_at rows i).os) false ≡ false) where
  apart_from : (j : ℕ) → j < i → apart (row_at rows j) (row_at rows i) ≡ true
  unfolding marked apart
  apart_from j l =
      let r : Row = row_at rows j in
      let s : Row = row_at rows i in
      let k : get_or seen (key r.sas) false && get_or seen (1024 + key r.os) false ≡ true = all_at (marked seen rows) i j m l in
      let sas = ne_same r.sas s.sas (other_key seen key r.sas s.sas (both_left (get_or seen (key r.sas) false) (get_or seen (1024 + key r.os) false) k) d) in
      let os = ne_same r.os s.os (other_key seen (λ (l : List ℕ). 1024 + key l) r.os s.os (both_right (get_or seen (key r.sas) false) (get_or seen (1024 + key r.os) false) k) o) in
      rw (sas, os) refl

  unmarked_fresh : true ≡ fresh rows i
  unfolding fresh
  unmarked_fresh = sym (all_by (λ (j : ℕ). apart (row_at rows j) (row_at rows i)) i apart_from)

-- ---- both keys of a row marked

-- what is marked stays so
stays : (seen : List Bool) (n k : ℕ) → n < length seen → get_or seen k false ≡ true → get_or (set seen n true) k false ≡ true
stays seen n k h p = at (ℕ_discrete k n)
  where
    at : Dec (k ≡ n) → get_or (set seen n true) k false ≡ true
    at (yes e) = rw (e, get_or-set_same seen n true false h) refl
    at (no d) = rw (get_or-set_other seen n k true false d) p

here : (seen : List Bool) (n : ℕ) → n < length seen → get_or (set seen n true) n false ≡ true
here seen n h = get_or-set_same seen n true false h

module _ (seen : List Bool) (rows : List Row) (i x y : ℕ) (n : length seen ≡ 2048) (e : x ≡ key (row_at rows i).sas) (f : y ≡ 1024 + key (row_at rows i).os) (h : x < 2048) (k : y < 2048) where
  abbrev first : List Bool
  first = set seen x true

  abbrev after : List Bool
  after = set first y true

  long : y < length first
  long = omega (arith, length-set seen x true)

  kept : (j : ℕ) → marked seen rows j ≡ true → marked after rows j ≡ true
  unfolding marked
  kept j p =
      let r : Row = row_at rows j in
      let d = both_left (get_or seen (key r.sas) false) (get_or seen (1024 + key r.os) false) p in
      let o = both_right (get_or seen (key r.sas) false) (get_or seen (1024 + key r.os) false) p in
      both (get_or after (key r.sas) false) (get_or after (1024 + key r.os) false)
      (stays first y (key r.sas) long (stays seen x (key r.sas) (omega arith) d))
      (stays first y (1024 + key r.os) long (stays seen x (1024 + key r.os) (omega arith) o))

  now_marked : marked after rows i ≡ true
  unfolding marked
  now_marked =
      rw (← e, ← f)
      (both (get_or after x false) (get_or after y false) (stays first y x long (here seen x (omega arith))) (here first y long))

  marked_more : all_to (marked seen rows) i ≡ true → all_to (marked after rows) (i + 1) ≡ true
  marked_more m = all_more (marked after rows) i (all_by (marked after rows) i (λ j l. kept j (all_at (marked seen rows) i j m l))) now_marked

-- ---- row i, as the code reads it

module _ (seen : List Bool) (chunks : List (List ℕ)) (i x y : ℕ) (row : Row) (h : i < length chunks) (r : row ≡ row_of (get_or chunks i []) 0) (e : x ≡ key row.sas) (f : y ≡ key row.os)
    (m : all_to (marked seen (rows_in chunks)) i ≡ true) where
  row_is : row ≡ row_at (rows_in chunks) i
  row_is = r ∙ sym (row_chunk chunks i [] h)

  sas_is : x ≡ key (row_at (rows_in chunks) i).sas
  sas_is = e ∙ ap (λ (s : Row). key s.sas) row_is

  os_is : y ≡ key (row_at (rows_in chunks) i).os
  os_is = f ∙ ap (λ (s : Row). key s.os) row_is

  pub look_fresh : get_or seen x false ≡ false → get_or seen (1024 + y) false ≡ false → true ≡ fresh (rows_in chunks) i
  look_fresh d o = unmarked_fresh seen (rows_in chunks) i m (rw sas_is at d) (rw os_is at o)

  pub look_marks : length seen ≡ 2048 → x < 1024 → y < 1024 → all_to (marked (set (set seen x true) (1024 + y) true) (rows_in chunks)) (i + 1) ≡ true
  look_marks n k l = marked_more seen (rows_in chunks) i x (1024 + y) n sas_is (ap (λ z. 1024 + z) os_is) (omega arith) (omega arith) m
