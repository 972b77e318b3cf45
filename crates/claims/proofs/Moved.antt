-- What no request changes of an adapter, and that storing a phy keeps it and the rules of the state. Assumes nothing.
use mathlib.Core.Path.{◌≡◌, refl, sym, ◌∙◌}
use mathlib.Core.Logic.{◌≢◌}
use mathlib.Core.Bool.{true, ◌&&◌}
use mathlib.Core.List.{List}
use Prim.Native.Nat.{ℕ, ◌<◌, ◌≤◌}
use native.Mathlib.Omega.{arith}
use native.Mathlib.Decide.{ℕ_discrete}
use lib.ListN.{length, drop, length-drop, length-set}
use Rattle.laws.specs.Choice.{both, both_left, both_right}
use Rattle.phy.specs.declared.Phy.{Phy}
use Rattle.phy.proofs.KeptLaws.{Kept, kept_refl, kept_trans}
use Rattle.fields.specs.Rules.{fields_hold}
use Rattle.rows.specs.Row.{rows_hold}
use Rattle.adapter.specs.Staged.{Staged, staged_holds}
use Rattle.adapter.specs.Adapter.{Adapter, phy_in, with_phy, with_firmware, counts_hold, fields_all, zero_past}
use Rattle.adapter.proofs.StoreLaws.{phy_stored, phy_other, counts_stored, rows_stored, fields_at, fields_stored, zero_stored, phys_bound}
use Rattle.link.specs.Rule.{negotiated_holds}
use Rattle.link.specs.All.{negotiated_all}
use Rattle.link.proofs.AllLaws.{negotiated_at, negotiated_stored}
use Rattle.tables.proofs.Laws.{tables_phys, tables_entity}
use Rattle.state.specs.State.{state_size, state_of, tables_hold, adapter_holds, state_holds}
use Rattle.state.proofs.Laws.{state_phys}

-- the arrays have the lengths of their types: 32 phys, and 64 entity bytes in each below p
pub record Sized (ad : Adapter) : Type 0 where
  pub phys : length ad.phys ≡ 32
  pub entities : (n : ℕ) → n < ad.phy_count → length (phy_in ad n).entity ≡ 64

-- the arrays of a lent state have the lengths of their types
pub sized_lent : (t : List ℕ) → length t ≡ state_size → state_holds (state_of t) ≡ true → Sized (state_of t).adapter
unfolding state_of
sized_lent t e h =
    record {
      phys = tables_phys (drop 1 t);
      entities = λ n l. tables_entity (drop 1 t) n (rw (length-drop, e) refl) (omega (arith, state_phys (state_of t) true (sym h) refl));
    }

-- ---- what no request changes: the counts, the rows, and of every phy what `Kept` says

pub record Moved (ad bd : Adapter) : Type 0 where
  pub count : bd.phy_count ≡ ad.phy_count
  pub row_count : bd.row_count ≡ ad.row_count
  pub rows : bd.rows ≡ ad.rows
  pub size : length bd.phys ≡ length ad.phys
  pub phys : (n : ℕ) → length (phy_in ad n).entity ≡ 64 → Kept (phy_in ad n) (phy_in bd n)

pub moved_refl : (ad : Adapter) → Moved ad ad
moved_refl ad = record { count = refl; row_count = refl; rows = refl; size = refl; phys = λ n _. kept_refl (phy_in ad n) }

pub moved_trans : (ad bd cd : Adapter) → Moved ad bd → Moved bd cd → Moved ad cd
moved_trans ad bd cd v w =
    record {
      count = w.count ∙ v.count;
      row_count = w.row_count ∙ v.row_count;
      rows = w.rows ∙ v.rows;
      size = w.size ∙ v.size;
      phys = λ n e. kept_trans (phy_in ad n) (phy_in bd n) (phy_in cd n) (v.phys n e) (w.phys n ((v.phys n e).size ∙ e));
    }

pub sized_moved : (ad bd : Adapter) → Sized ad → Moved ad bd → Sized bd
sized_moved ad bd z v =
    record {
      phys = v.size ∙ z.phys;
      entities = λ n h. let k : n < ad.phy_count = rw v.count at h in (v.phys n (z.entities n k)).size ∙ z.entities n k;
    }

-- ---- a phy stored

-- what holds of the phy stored and of every other one
pub stored_by : (P : ℕ → Phy → Type 0) (ad : Adapter) (n : ℕ) (phy : Phy) → n < length ad.phys → P n phy → ((m : ℕ) → m ≢ n → P m (phy_in ad m))
    → (m : ℕ) → P m (phy_in (with_phy ad n phy) m)
stored_by P ad n phy h here other m = at (ℕ_discrete m n)
  where
    at : Dec (m ≡ n) → P m (phy_in (with_phy ad n phy) m)
    at (yes e) = rw (e, phy_stored ad n phy h) here
    at (no d) = rw (phy_other ad n m phy d) (other m d)

length_stored : (ad : Adapter) (n : ℕ) (phy : Phy) → length (with_phy ad n phy).phys ≡ length ad.phys
unfolding with_phy
length_stored ad n phy = length-set ad.phys n phy

pub moved_stored : (ad : Adapter) (n : ℕ) (phy : Phy) → n < length ad.phys → Kept (phy_in ad n) phy → Moved ad (with_phy ad n phy)
moved_stored ad n phy h k =
    record {
      count = (counts_stored ad n phy).0;
      row_count = (counts_stored ad n phy).1;
      rows = rows_stored ad n phy;
      size = length_stored ad n phy;
      phys = stored_by (λ (m : ℕ) (x : Phy). length (phy_in ad m).entity ≡ 64 → Kept (phy_in ad m) x) ad n phy h (λ _. k) (λ m _ _. kept_refl (phy_in ad m));
    }

-- ---- the rules of the state

module _ (ad : Adapter) (h : adapter_holds ad ≡ true) where
  counted : counts_hold ad.phy_count ad.row_count ≡ true
  unfolding adapter_holds
  counted = both_left (counts_hold ad.phy_count ad.row_count) (tables_hold ad) h

  pub few_phys : ad.phy_count ≤ 32
  few_phys = phys_bound ad.phy_count ad.row_count true (sym counted) refl

  -- phys and rows; zero past p and a; what is staged
  tables : (fields_all ad && negotiated_all ad && rows_hold ad.rows ad.row_count ≡ true) × (zero_past ad ≡ true) × (staged_holds ad.staged ≡ true)
  unfolding adapter_holds tables_hold
  tables =
      let t : tables_hold ad ≡ true = both_right (counts_hold ad.phy_count ad.row_count) (tables_hold ad) h in
      let z = both_left (fields_all ad && negotiated_all ad && rows_hold ad.rows ad.row_count && zero_past ad) (staged_holds ad.staged) t in (
        both_left (fields_all ad && negotiated_all ad && rows_hold ad.rows ad.row_count) (zero_past ad) z,
        both_right (fields_all ad && negotiated_all ad && rows_hold ad.rows ad.row_count) (zero_past ad) z,
        both_right (fields_all ad && negotiated_all ad && rows_hold ad.rows ad.row_count && zero_past ad) (staged_holds ad.staged) t,
      )

  pub rows_hold_lem : rows_hold ad.rows ad.row_count ≡ true
  rows_hold_lem = both_right (fields_all ad && negotiated_all ad) (rows_hold ad.rows ad.row_count) tables.0

  phys_hold : fields_all ad && negotiated_all ad ≡ true
  phys_hold = both_left (fields_all ad && negotiated_all ad) (rows_hold ad.rows ad.row_count) tables.0

  fields : fields_all ad ≡ true
  fields = both_left (fields_all ad) (negotiated_all ad) phys_hold

  negotiated : negotiated_all ad ≡ true
  negotiated = both_right (fields_all ad) (negotiated_all ad) phys_hold

  module _ (n : ℕ) (k : n < ad.phy_count) where
    pub fields_in : fields_hold (phy_in ad n) (record { 0 = n }) ad.phy_count ≡ true
    fields_in = fields_at ad n fields k

    pub negotiated_in : negotiated_holds (phy_in ad n) ≡ true
    negotiated_in = negotiated_at ad n negotiated k

    -- a phy that passes them may be stored
    pub stored_holds : (phy : Phy) → length ad.phys ≡ 32 → fields_hold phy (record { 0 = n }) ad.phy_count ≡ true → negotiated_holds phy ≡ true
        → adapter_holds (with_phy ad n phy) ≡ true
    unfolding adapter_holds tables_hold with_phy
    stored_holds phy z f g =
        let m : n < length ad.phys = rw z (omega (arith, few_phys)) in
        let bd : Adapter = with_phy ad n phy in
        both (counts_hold ad.phy_count ad.row_count) (tables_hold bd) counted
        (both (fields_all bd && negotiated_all bd && rows_hold ad.rows ad.row_count && zero_past bd) (staged_holds ad.staged)
        (both (fields_all bd && negotiated_all bd && rows_hold ad.rows ad.row_count) (zero_past bd)
        (both (fields_all bd && negotiated_all bd) (rows_hold ad.rows ad.row_count)
        (both (fields_all bd) (negotiated_all bd) (fields_stored ad n phy m fields f) (negotiated_stored ad n phy m negotiated g))
        rows_hold_lem)
        (zero_stored ad n phy k ∙ tables.1))
        tables.2)

  -- firmware staged, or made current
  pub firmware_holds : (controller : List ℕ) (staged : Staged) → staged_holds staged ≡ true → adapter_holds (with_firmware ad controller staged) ≡ true
  unfolding adapter_holds tables_hold with_firmware fields_all negotiated_all zero_past
  firmware_holds controller staged s =
      both (counts_hold ad.phy_count ad.row_count) _ counted
      (both (fields_all ad && negotiated_all ad && rows_hold ad.rows ad.row_count && zero_past ad) (staged_holds staged)
      (both (fields_all ad && negotiated_all ad && rows_hold ad.rows ad.row_count) (zero_past ad) tables.0 tables.1) s)

pub moved_firmware : (ad : Adapter) (controller : List ℕ) (staged : Staged) → Moved ad (with_firmware ad controller staged)
unfolding with_firmware
moved_firmware ad controller staged = record { count = refl; row_count = refl; rows = refl; size = refl; phys = λ n _. kept_refl (phy_in ad n) }
