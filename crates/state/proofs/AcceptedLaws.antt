-- What an opening that gives 0 tells, and that 107 accepts its state. Laws for the layers above. Assumes nothing.
use mathlib.Core.Path.{◌≡◌, refl}
use mathlib.Core.Bool.{Bool, true, ◌&&◌, cond}
use mathlib.Core.List.{List}
use Prim.Native.Nat.{ℕ}
use native.Mathlib.Omega.{arith}
use lib.Dec.{eqb, leb}
use lib.ListN.{length}
use borrow.Author.Tests.{le-leb, eqb-true, eqb-false}
use Rattle.laws.specs.Choice.{by_bool, both, came_then, both_zero}
use Rattle.level.specs.Text.{text_level}
use Rattle.level.proofs.BoundLaws.{level_bound}
use Rattle.rows.specs.Row.{rows_hold}
use Rattle.adapter.specs.Staged.{staged_holds}
use Rattle.staged.proofs.Laws.{staged_none}
use Rattle.adapter.specs.Adapter.{Adapter, counts_hold, fields_all, zero_past, medium_size}
use Rattle.link.specs.All.{negotiated_all}
use Rattle.layout.specs.Layout.{phy_count, row_count}
use Rattle.contents.specs.Contents.{adapter_of}
use Rattle.file.specs.File.{file_read}
use Rattle.file.proofs.AcceptedLaws.{Accepted, accepted, zero_read}
use Rattle.state.specs.State.{tables_hold, adapter_holds, state_holds}
use Rattle.state.specs.Open.{Opened, refused_opening, opened, tables_number, open_number, opened_file, opened_text, opened_of}

-- the opening's number is 0
abbrev Fine : Opened → Type 0
Fine o = o.call ≡ 0

abbrev file_adapter : List ℕ → Adapter
file_adapter file = adapter_of file (phy_count file) (row_count file)

-- what is known of an opening that gives 0: the state is the text's level and the file's adapter, which pass every rule
pub record Open (text file medium : List ℕ) : Type 0 where
  pub levelled : (text_level text).call ≡ 0
  pub read : Accepted file
  pub negotiated : negotiated_all (file_adapter file) ≡ true
  pub rows : rows_hold (file_adapter file).rows (file_adapter file).row_count ≡ true
  pub disks : medium_size (file_adapter file) ≡ length medium
  pub opened : opened_of text file medium ≡ opened (text_level text).level (file_adapter file)

counted : (file : List ℕ) → Accepted file → counts_hold (file_adapter file).phy_count (file_adapter file).row_count ≡ true
unfolding adapter_of
counted file a = a.counts

pub open_accepted : (text file medium : List ℕ) → (opened_of text file medium).call ≡ 0 → Open text file medium
unfolding opened_of opened_text opened_file open_number tables_number
open_accepted text file medium h =
    let t = passes (text_level text).call _ h in
    let n = settles (open_number (file_read file) (length medium)) _ t.1 in
    let f = both_zero (file_read file).call _ n in
    let a : Accepted file = accepted file f.0 in
    let g = came_then Zero (negotiated_all (file_read file).adapter) (λ e. omega arith) f.1 in
    let r = came_then Zero (rows_hold (file_read file).adapter.rows (file_read file).adapter.row_count) (λ e. omega arith) g.1 in
    let m = came_then Zero (eqb (medium_size (file_read file).adapter) (length medium)) (λ e. omega arith) r.1 in
    record {
      levelled = t.0;
      read = a;
      negotiated = rw a.read at g.0;
      rows = rw a.read at r.0;
      disks = rw a.read at (eqb-true (medium_size (file_read file).adapter) (length medium) m.0);
      opened = rw (t.0, f.0, g.0, r.0, m.0, a.read);
    }
  where
    Zero : ℕ → Type 0
    Zero n = n ≡ 0

    passes : (n : ℕ) (o : Opened) → Fine (cond (eqb n 0) o (refused_opening n)) → (n ≡ 0) × Fine o
    passes n o h = by_bool (λ (b : Bool). eqb n 0 ≡ b → Fine (cond b o (refused_opening n)) → (n ≡ 0) × Fine o) (λ e p. (eqb-true n 0 e, p)) (λ e p. absurd (eqb-false n 0 e p)) (eqb n 0) refl h

    settles : (n : ℕ) (o : Opened) → Fine (cond (eqb n 0) o (refused_opening n)) → n ≡ 0
    settles n o h = (passes n o h).0

none_staged : (file : List ℕ) → staged_holds (file_adapter file).staged ≡ true
unfolding adapter_of
none_staged file = staged_none

-- 107 accepts the state of an opening that gives 0
pub open_holds : (text file medium : List ℕ) → (opened_of text file medium).call ≡ 0 → state_holds (opened_of text file medium).state ≡ true
unfolding state_holds adapter_holds tables_hold
open_holds text file medium h =
    let o : Open text file medium = open_accepted text file medium h in
    let ad : Adapter = file_adapter file in
    rw o.opened
    (both (leb (text_level text).level.0 3) (adapter_holds ad) (le-leb (text_level text).level.0 3 (level_bound text))
    (both (counts_hold ad.phy_count ad.row_count) (tables_hold ad) (counted file o.read)
    (both (fields_all ad && negotiated_all ad && rows_hold ad.rows ad.row_count && zero_past ad) (staged_holds ad.staged)
    (both (fields_all ad && negotiated_all ad && rows_hold ad.rows ad.row_count) (zero_past ad)
    (both (fields_all ad && negotiated_all ad) (rows_hold ad.rows ad.row_count) (both (fields_all ad) (negotiated_all ad) o.read.fields o.negotiated) o.rows)
    (zero_read file (phy_count file) (row_count file)))
    (none_staged file))))
