-- What the stores of this crate do to the tables. Assumes nothing.
use mathlib.Core.Path.{◌≡◌, refl, sym, ◌∙◌, ap, ap₂}
use mathlib.Core.List.{List, [], ◌∷◌, append_assoc}
use Prim.Native.Nat.{ℕ, ◌+◌, ◌<◌, ◌≤◌}
use native.Mathlib.Omega.{arith}
use lib.ListN.{length, get_or, set, take, drop}
use Rattle.std.specs.List.{copy_within}
use Rattle.laws.specs.Clear.{zeros}
use Rattle.laws.specs.Fill.{list_to_same}
use Rattle.laws.specs.Splice.{part, splice, length_part, length_splice, part_splice, part_below, part_above, part_inside, get_one, get_in, stores}
use Rattle.phy.specs.Block.{phy_size, phy_of}
use Rattle.rows.specs.Row.{rows_size}
use Rattle.connectors.specs.Connector.{connectors_size}
use Rattle.adapter.specs.Staged.{staged, image_staged, nothing_staged, revisions_place, running_with}
use Rattle.adapter.specs.Adapter.{with_firmware, with_staged, made_current}
use Rattle.tables.proofs.Laws.{controller_in, staged_in, staged_cleared}
use Rattle.tables.specs.Tables.{tables_size, phy_start, rows_start, controller_start, status_start, connectors_start, staged_start, staged_at, phy_at, tables_of}

-- ---- bytes that differ in the configuration and in what is staged alone

module _ (t u : List ℕ) (low : (i n : ℕ) → i + n ≤ controller_start → part u i n ≡ part t i n)
    (between : (i n : ℕ) → status_start ≤ i → i + n ≤ staged_start → part u i n ≡ part t i n) where
  byte : (i : ℕ) → i < controller_start → get_or u i 0 ≡ get_or t i 0
  byte i l = get_one u i 0 ∙ ap (λ (x : List ℕ). get_or x 0 0) (low i 1 (omega arith)) ∙ sym (get_one t i 0)

  phy_low : (n : ℕ) → n < 32 → phy_at u n ≡ phy_at t n
  unfolding phy_at
  phy_low n l = ap phy_of (low (phy_start n) phy_size (omega arith))

  firmware_stored : tables_of u ≡ with_firmware (tables_of t) (part u controller_start 176) (staged_at u)
  unfolding tables_of with_firmware
  firmware_stored =
      rw (
        byte 0 (omega arith),
        byte 1 (omega arith),
        low 2 174 (omega arith),
        list_to_same (phy_at u) (phy_at t) 32 phy_low,
        low rows_start rows_size (omega arith),
        between status_start 36 (omega arith) (omega arith),
        between connectors_start connectors_size (omega arith) (omega arith),
      )

-- ---- an image is noted: its revisions, and the byte before them

module _ (t v : List ℕ) (size : length t ≡ tables_size) (e : length v ≡ 8) where
  abbrev written : List ℕ
  written = splice t (staged_start + 1) v

  abbrev noted : List ℕ
  noted = splice written staged_start (1 ∷ [])

  written_long : length written ≡ tables_size
  written_long = length_splice t (staged_start + 1) v (omega arith) ∙ size

  noted_under : (i n : ℕ) → i + n ≤ staged_start → part noted i n ≡ part t i n
  noted_under i n h = part_below written staged_start (1 ∷ []) i n (omega (arith, written_long)) h ∙ part_below t (staged_start + 1) v i n (omega arith) (omega arith)

  noted_staged : staged_at noted ≡ image_staged v
  noted_staged =
      ap₂ staged (get_in written staged_start (1 ∷ []) 0 0 (omega (arith, written_long)) (omega arith))
      (part_above written staged_start (1 ∷ []) (staged_start + 1) 8 (omega (arith, written_long)) (omega arith)
      ∙ ap (part written (staged_start + 1)) (sym e)
      ∙ part_splice t (staged_start + 1) v (omega arith))

  noted_tables : tables_of noted ≡ with_staged (tables_of t) (image_staged v)
  noted_tables =
      firmware_stored t noted (λ i n h. noted_under i n (omega arith)) (λ i n k h. noted_under i n h)
      ∙ ap₂ (with_firmware (tables_of t)) (noted_under controller_start 176 (omega arith) ∙ sym (controller_in t)) noted_staged

pub image_noted : (t v x : List ℕ) → length t ≡ tables_size → length v ≡ 8 → x ≡ splice t (staged_start + 1) v
    → tables_of (set x staged_start 1) ≡ with_staged (tables_of t) (image_staged v)
image_noted t v x size l e =
    ap (λ (y : List ℕ). tables_of (set y staged_start 1)) e
    ∙ ap tables_of (stores (splice t (staged_start + 1) v) staged_start (1 ∷ []) (omega (arith, written_long t v size l)))
    ∙ noted_tables t v size l

-- ---- the staged revisions become the running ones

module _ (t : List ℕ) (size : length t ≡ tables_size) where
  abbrev revisions : List ℕ
  revisions = part t (staged_start + 1) 8

  abbrev running : List ℕ
  running = splice t (controller_start + revisions_place) revisions

  abbrev current : List ℕ
  current = splice running staged_start (zeros 9)

  revisions_long : length revisions ≡ 8
  revisions_long = length_part t (staged_start + 1) 8 (omega arith)

  running_long : length running ≡ tables_size
  running_long = length_splice t (controller_start + revisions_place) revisions (omega (arith, revisions_long)) ∙ size

  current_under : (i n : ℕ) → i + n ≤ staged_start → part current i n ≡ part running i n
  current_under i n h = part_below running staged_start (zeros 9) i n (omega (arith, running_long)) h

  current_low : (i n : ℕ) → i + n ≤ controller_start → part current i n ≡ part t i n
  current_low i n h = current_under i n (omega arith) ∙ part_below t (controller_start + revisions_place) revisions i n (omega arith) (omega arith)

  current_between : (i n : ℕ) → status_start ≤ i → i + n ≤ staged_start → part current i n ≡ part t i n
  current_between i n k h = current_under i n h ∙ part_above t (controller_start + revisions_place) revisions i n (omega arith) (omega (arith, revisions_long))

  current_controller : part current controller_start 176 ≡ running_with (part t controller_start 176) revisions
  unfolding running_with
  current_controller = current_under controller_start 176 (omega arith) ∙ part_inside t revisions controller_start revisions_place 8 35 revisions_long (omega arith)

  current_staged : staged_at current ≡ nothing_staged
  current_staged = staged_cleared running running_long

  current_tables : tables_of current ≡ made_current (tables_of t)
  unfolding made_current
  current_tables =
      firmware_stored t current current_low current_between
      ∙ ap₂ (with_firmware (tables_of t)) (current_controller ∙ rw (controller_in t, staged_in t)) current_staged

-- as std moves them
moved_part : (t : List ℕ) → length t ≡ tables_size → copy_within t (staged_start + 1) tables_size (controller_start + revisions_place) ≡ splice t (controller_start + revisions_place) (part t (staged_start + 1) 8)
unfolding part splice
moved_part t size =
    rw (length_part t (staged_start + 1) 8 (omega arith)) (append_assoc (take (controller_start + revisions_place) t) (part t (staged_start + 1) 8) (drop (controller_start + revisions_place + 8) t))

pub current_made : (t x y : List ℕ) → y ≡ splice x staged_start (zeros 9) → x ≡ copy_within t (staged_start + 1) tables_size (controller_start + revisions_place)
    → length t ≡ tables_size → tables_of y ≡ made_current (tables_of t)
current_made t x y r q size =
    let moved : copy_within t (staged_start + 1) tables_size (controller_start + revisions_place) ≡ running t size = moved_part t size in
    ap tables_of (r ∙ rw (q, moved) refl) ∙ current_tables t size
