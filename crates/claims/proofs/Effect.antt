-- What a request does to the tables and to what is lent beside them, said once for each control code: one record, from which every statement about
-- a run takes its part. Assumes nothing.
use mathlib.Core.Path.{◌≡◌, refl, sym, ◌∙◌}
use mathlib.Core.Logic.{◌≢◌}
use mathlib.Core.Bool.{Bool, true, false, cond, ◌&&◌}
use mathlib.Core.List.{List}
use Prim.Native.Nat.{ℕ, ◌<◌, ◌≤◌}
use native.Mathlib.Omega.{arith}
use lib.Dec.{eqb}
use lib.ListN.{length, get_or}
use borrow.Author.Tests.{eq-eqb, ne_eqb}
use Rattle.laws.specs.Choice.{by_bool}
use Rattle.codes.specs.Codes.{set_phy_info, stp_passthru}
use Rattle.phy.specs.declared.Phy.{Phy}
use Rattle.phy.specs.Entity.{programmed_minimum, programmed_maximum}
use Rattle.phy.proofs.KeptLaws.{Kept, Settings}
use Rattle.fields.specs.Rules.{fields_hold}
use Rattle.adapter.specs.Adapter.{Adapter, phy_in, with_phy}
use Rattle.link.specs.Rule.{negotiated_holds}
use Rattle.select.specs.Select.{Selection}
use Rattle.select.specs.Select.{select_in}
use Rattle.stp.specs.Body.{phy_asked, port_asked}
use Rattle.state.specs.State.{adapter_holds}
use Rattle.service.specs.Serve.{Store, Served}
use Rattle.claims.specs.LastWriter.{Told, Writer, after, Sector, sector_in, sector_writer, rate_writer}
use Rattle.claims.specs.SpinUp.{spinup_writer}
use Rattle.claims.proofs.Ways.{told_of}
use Rattle.claims.proofs.Moved.{Sized, Moved, moved_refl, stored_by, moved_stored, few_phys, stored_holds}

-- ---- what writes nothing

-- nothing that a writer has keys for is changed
abbrev pub Quiet : {K A : Type 0} → Writer K A → Told → Type 0
Quiet {K} {A} w t = (key : K) (before : A) → after w key t before ≡ before

module _ {K A : Type 0} (w : Writer K A) (t : Told) where
  -- what was not granted
  quiet_refused : t.granted ≡ false → Quiet w t
  unfolding after
  quiet_refused g key before = rw g refl

  -- and another control code
  pub quiet_other : (t.control ≡ w.code → ⊥) → Quiet w t
  unfolding after
  quiet_other n key before =
      by_bool (λ (b : Bool). cond (b && (eqb t.control w.code && w.writes key t)) (w.puts key t) before ≡ before) (rw (ne_eqb t.control w.code n) refl) refl t.granted

-- ---- the effect

-- the phy that a request selects, in an adapter
abbrev pub selects_in : Adapter → List ℕ → Selection
selects_in ad body = select_in ad (phy_asked body) (port_asked body)

-- on the tables: what no request changes stays, the rules of the state go on holding, and the programmed rates and the
-- holds at spin-up are as the request tells
pub record OnTables (ad : Adapter) (t : Told) (bd : Adapter) : Type 0 where
  pub moved : Moved ad bd
  pub holds : adapter_holds ad ≡ true → adapter_holds bd ≡ true
  pub minima : (n : ℕ) → programmed_minimum (phy_in bd n) ≡ after (rate_writer 2) n t (programmed_minimum (phy_in ad n))
  pub maxima : (n : ℕ) → programmed_maximum (phy_in bd n) ≡ after (rate_writer 3) n t (programmed_maximum (phy_in ad n))
  pub spinup : (n : ℕ) → (phy_in bd n).spinup_hold ≡ after spinup_writer n t (phy_in ad n).spinup_hold

-- on what is lent beside them: disks and stage keep their lengths, and the sectors are as the request tells
pub record OnStore (ad : Adapter) (t : Told) (before next : Store) : Type 0 where
  pub size : length next.medium ≡ length before.medium
  pub stage : length next.stage ≡ length before.stage
  pub sectors : (s : Sector) → sector_in next s ≡ after (sector_writer (selects_in ad)) s t (sector_in before s)

pub record Effect (ad : Adapter) (before : Store) (t : Told) (bd : Adapter) (next : Store) : Type 0 where
  pub tables : OnTables ad t bd
  pub store : OnStore ad t before next

-- a request that was served: its return code is small, and its effect
pub record Does (ad : Adapter) (store : Store) (control : ℕ) (body : List ℕ) (x : Served) : Type 0 where
  pub small : x.code ≤ 2014
  pub effect : Effect ad store (told_of control body x) x.adapter x.store

-- ---- none

module _ (ad : Adapter) (t : Told) where
  -- where whatever code 21 writes of a phy stays
  pub tables_kept : ((w : Writer ℕ ℕ) → w.code ≡ set_phy_info → Quiet w t) → OnTables ad t ad
  tables_kept q =
      record {
        moved = moved_refl ad;
        holds = λ h. h;
        minima = λ n. sym (q (rate_writer 2) refl n _);
        maxima = λ n. sym (q (rate_writer 3) refl n _);
        spinup = λ n. sym (q spinup_writer refl n _);
      }

  pub store_kept : (store : Store) → Quiet (sector_writer (selects_in ad)) t → OnStore ad t store store
  store_kept store q = record { size = refl; stage = refl; sectors = λ s. sym (q s _) }

  -- of what was not granted
  pub no_effect : (store : Store) → t.granted ≡ false → Effect ad store t ad store
  no_effect store g =
      record { tables = tables_kept (λ w _. quiet_refused w t g); store = store_kept store (quiet_refused (sector_writer (selects_in ad)) t g) }

  -- of a code that sets no rate and writes no sector: those that only report, whether they were granted or not
  pub report_effect : (store : Store) → (t.control ≡ set_phy_info → ⊥) → (t.control ≡ stp_passthru → ⊥) → Effect ad store t ad store
  report_effect store n m =
      record { tables = tables_kept (λ w e. quiet_other w t (λ q. n (q ∙ e))); store = store_kept store (quiet_other (sector_writer (selects_in ad)) t m) }

-- ---- one phy stored

-- a writer that writes of no phy but the one that the body names, as those of code 21 do
abbrev pub OwnPhy : Writer ℕ ℕ → Type 0
OwnPhy w = (n : ℕ) (t : Told) → eqb (get_or t.body 0 0) n ≡ false → w.writes n t ≡ false

own_rate : (place : ℕ) → OwnPhy (rate_writer place)
own_rate place n t e = rw e refl

own_spinup : OwnPhy spinup_writer
own_spinup n t e = e

-- a granted code 21 leaves the phy that it names not held
pub spinup_told : (t : Told) (n before : ℕ) → t.granted ≡ true → t.control ≡ set_phy_info → get_or t.body 0 0 ≡ n → after spinup_writer n t before ≡ 0
unfolding after
spinup_told t n before g c b = rw (g, eq-eqb t.control set_phy_info c, eq-eqb (get_or t.body 0 0) n b) refl

-- a phy that may be stored as phy n: it keeps what no request changes, passes the rules, and has the rates and the hold that the request tells,
-- which sets those of no other phy
pub record Storing (ad : Adapter) (t : Told) (n : ℕ) (phy : Phy) : Type 0 where
  pub below : n < ad.phy_count
  pub kept : Kept (phy_in ad n) phy
  pub fields : fields_hold phy (record { 0 = n }) ad.phy_count ≡ true
  pub negotiated : negotiated_holds phy ≡ true
  pub minimum : programmed_minimum phy ≡ after (rate_writer 2) n t (programmed_minimum (phy_in ad n))
  pub maximum : programmed_maximum phy ≡ after (rate_writer 3) n t (programmed_maximum (phy_in ad n))
  pub spinup : phy.spinup_hold ≡ after spinup_writer n t (phy_in ad n).spinup_hold
  pub others : (w : Writer ℕ ℕ) → w.code ≡ set_phy_info → OwnPhy w → (m before : ℕ) → m ≢ n → after w m t before ≡ before

-- one that a code other than 21 stores: its settings stay
pub storing_kept : (ad : Adapter) (t : Told) (n : ℕ) (phy : Phy) → (t.control ≡ set_phy_info → ⊥) → n < ad.phy_count → Kept (phy_in ad n) phy
    → fields_hold phy (record { 0 = n }) ad.phy_count ≡ true → negotiated_holds phy ≡ true → Settings (phy_in ad n) phy → Storing ad t n phy
storing_kept ad t n phy c k v f g s =
    record {
      below = k;
      kept = v;
      fields = f;
      negotiated = g;
      minimum = s.minimum ∙ sym (quiet_other (rate_writer 2) t c n (programmed_minimum (phy_in ad n)));
      maximum = s.maximum ∙ sym (quiet_other (rate_writer 3) t c n (programmed_maximum (phy_in ad n)));
      spinup = s.spinup ∙ sym (quiet_other spinup_writer t c n (phy_in ad n).spinup_hold);
      others = λ w e _ m before _. quiet_other w t (λ q. c (q ∙ e)) m before;
    }

pub stored_effect : (ad : Adapter) (t : Told) (n : ℕ) (phy : Phy) → adapter_holds ad ≡ true → Sized ad → Storing ad t n phy → OnTables ad t (with_phy ad n phy)
stored_effect ad t n phy h z s =
    let m : n < length ad.phys = rw z.phys (omega (arith, s.below, few_phys ad h)) in
    record {
      moved = moved_stored ad n phy m s.kept;
      holds = λ _. stored_holds ad h n s.below phy z.phys s.fields s.negotiated;
      minima = stored_by (λ (i : ℕ) (x : Phy). programmed_minimum x ≡ after (rate_writer 2) i t (programmed_minimum (phy_in ad i))) ad n phy m s.minimum
          (λ i d. sym (s.others (rate_writer 2) refl (own_rate 2) i _ d));
      maxima = stored_by (λ (i : ℕ) (x : Phy). programmed_maximum x ≡ after (rate_writer 3) i t (programmed_maximum (phy_in ad i))) ad n phy m s.maximum
          (λ i d. sym (s.others (rate_writer 3) refl (own_rate 3) i _ d));
      spinup = stored_by (λ (i : ℕ) (x : Phy). x.spinup_hold ≡ after spinup_writer i t (phy_in ad i).spinup_hold) ad n phy m s.spinup
          (λ i d. sym (s.others spinup_writer refl own_spinup i _ d));
    }
