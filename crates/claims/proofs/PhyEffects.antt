-- The effects of codes 21 and 22: the phy that each stores. Assumes nothing.
use mathlib.Core.Path.{◌≡◌, refl, sym, ◌∙◌}
use mathlib.Core.Logic.{◌≢◌}
use mathlib.Core.Bool.{Bool, true, false, cond, ◌&&◌, not, true≢false}
use mathlib.Core.List.{List}
use Prim.Native.Nat.{ℕ, ◌<◌}
use native.Mathlib.Omega.{arith}
use lib.Dec.{eqb, leb, ltb}
use lib.ListN.{length, get_or}
use borrow.Author.Tests.{eq-eqb, ne_eqb, ltb-true}
use Rattle.laws.specs.Choice.{and_false, by_bool, both_right, either, either_by}
use Rattle.codes.specs.Codes.{success, set_phy_info, get_link_errors, reset_place, link_error_reset_counts}
use Rattle.phy.specs.declared.Phy.{Phy}
use Rattle.phy.specs.declared.PhyIdentifier.{PhyIdentifier}
use Rattle.phy.specs.Entity.{programmed_minimum, programmed_maximum}
use Rattle.phy.specs.Change.{released, cleared, configured}
use Rattle.phy.proofs.KeptLaws.{Kept, Settings, kept_trans}
use Rattle.phy.proofs.ChangedLaws.{kept_released, spinup_released, kept_cleared, settings_cleared, kept_configured, spinup_configured, minimum_configured, maximum_configured}
use Rattle.fields.specs.Rules.{range_holds, fields_hold}
use Rattle.fields.proofs.HoldLaws.{range_released, fields_released, fields_cleared, fields_configured}
use Rattle.link.specs.Rule.{negotiated_holds}
use Rattle.link.proofs.KeptLaws.{kept_reset, settings_reset, kept_disabled, settings_disabled, holds_cleared, holds_reset, holds_disabled, fields_reset, fields_disabled}
use Rattle.adapter.specs.Adapter.{Adapter, phy_in, with_phy}
use Rattle.adapter.specs.Changed.{Stored, Changed, leaves, with_body}
use Rattle.set_phy_info.specs.declared.PhySetting.{PhySetting}
use Rattle.set_phy_info.specs.SetPhyInfo.{phy_setting, programmable, resulting, parameters_hold, rates_allowed, relinked, set_to, set_checked, set_phy, phy_set, set_info}
use Rattle.link_errors.specs.LinkErrors.{after_reset, link_errors, counters_shown}
use Rattle.state.specs.State.{adapter_holds}
use Rattle.service.specs.Serve.{Store, changed}
use Rattle.claims.specs.LastWriter.{Told, Writer, after, rate_writer, sector_writer}
use Rattle.claims.proofs.Ways.{Own}
use Rattle.claims.proofs.Moved.{Sized, fields_in, negotiated_in}
use Rattle.claims.proofs.Effect.{quiet_other, selects_in, Does, store_kept, no_effect, report_effect, OwnPhy, spinup_told, Storing, storing_kept, stored_effect}

-- the phy that a body names
abbrev named : List ℕ → ℕ
named body = get_or body 0 0

-- ---- code 21: a phy that it sets

module _ (phy : Phy) (s : PhySetting) (minimum maximum : ℕ) (e : length phy.entity ≡ 64) where
  -- no longer held at spin-up, and then with other settings
  abbrev set : Phy
  set = configured (released phy) s.class minimum maximum

  released_long : length (released phy).entity ≡ 64
  released_long = (kept_released phy).size ∙ e

  kept_set : Kept phy set
  kept_set = kept_trans phy (released phy) set (kept_released phy) (kept_configured (released phy) s.class minimum maximum released_long)

  long : length set.entity ≡ 64
  long = kept_set.size ∙ e

  set_spinup : set.spinup_hold ≡ 0
  set_spinup = spinup_configured (released phy) s.class minimum maximum ∙ spinup_released phy

  set_settings : Settings set (set_to phy s minimum maximum)
  unfolding set_to relinked
  set_settings = either (λ (x : Phy). Settings set x) (eqb s.negotiated 1) (settings_disabled set) (settings_reset set)

  set_kept : Kept phy (set_to phy s minimum maximum)
  unfolding set_to relinked
  set_kept =
      kept_trans phy set (set_to phy s minimum maximum) kept_set
      (either (λ (x : Phy). Kept set x) (eqb s.negotiated 1) (kept_disabled set) (kept_reset set))

  set_negotiated : negotiated_holds (set_to phy s minimum maximum) ≡ true
  unfolding set_to relinked
  set_negotiated = either (λ (x : Phy). negotiated_holds x ≡ true) (eqb s.negotiated 1) (holds_disabled set long) (holds_reset set long)

  set_fields : (n : PhyIdentifier) (p : ℕ) → parameters_hold s ≡ true → rates_allowed phy s minimum maximum ≡ true → fields_hold phy n p ≡ true
      → fields_hold (set_to phy s minimum maximum) n p ≡ true
  unfolding set_to relinked parameters_hold rates_allowed
  set_fields n p a r f =
      let c : leb s.class 3 ≡ true = both_right (leb s.negotiated 1) (leb s.class 3) a in
      let q : range_holds phy minimum maximum ≡ true = both_right (programmable s.minimum && programmable s.maximum) (range_holds phy minimum maximum) r in
      let g : fields_hold set n p ≡ true =
      fields_configured (released phy) s.class minimum maximum n p released_long c (range_released phy minimum maximum ∙ q) (fields_released phy n p f) in
      either (λ (x : Phy). fields_hold x n p ≡ true) (eqb s.negotiated 1) (fields_disabled set n p ∙ g) (fields_reset set n p ∙ g)

-- ---- code 21: the ways that it can go

unfoldable pub set_now : Phy → List ℕ → Phy
set_now phy body =
    set_to phy (phy_setting body) (resulting (get_or body 2 0) (programmed_minimum phy)) (resulting (get_or body 3 0) (programmed_maximum phy))

abbrev Allowed : Phy → List ℕ → Type 0
Allowed phy body =
    (parameters_hold (phy_setting body) ≡ true)
    × (rates_allowed phy (phy_setting body) (resulting (get_or body 2 0) (programmed_minimum phy)) (resulting (get_or body 3 0) (programmed_maximum phy)) ≡ true)

pub set_by : (ad : Adapter) (body : List ℕ) (P : Changed → Type 0) → ((code : ℕ) → 0 < code → Own code → P (leaves code ad body))
    → (named body < ad.phy_count → Allowed (phy_in ad (named body)) body
    → P (leaves success (with_phy ad (named body) (set_now (phy_in ad (named body)) body)) body))
    → P (set_info ad body)
unfolding set_info phy_set set_phy set_checked phy_setting set_now
set_by ad body P refused done =
    let phy : Phy = phy_in ad (named body) in
    let Q : (Stored → Type 0) = λ s. P (with_body s body) in
    either_by Q (ltb (named body) ad.phy_count)
    (λ h. either Q (eqb phy.fixed 1) (refused 2000 (omega arith) (omega arith, λ e. omega arith))
    (either_by Q (parameters_hold (phy_setting body))
    (λ k. either_by Q (rates_allowed phy (phy_setting body) (resulting (get_or body 2 0) (programmed_minimum phy)) (resulting (get_or body 3 0) (programmed_maximum phy)))
    (λ r. done (ltb-true (named body) ad.phy_count h) (k, r)) (λ _. refused 2001 (omega arith) (omega arith, λ e. omega arith)))
    (λ _. refused 3 (omega arith) (omega arith, λ e. omega arith))))
    (λ _. refused 2002 (omega arith) (omega arith, λ e. omega arith))

-- ---- code 21: the rates that it tells

-- a granted one
abbrev told_set : List ℕ → Told
told_set body = record { granted = true; control = set_phy_info; body = body; reply = body }

told_rate : (place : ℕ) (body : List ℕ) (before : ℕ) → after (rate_writer place) (named body) (told_set body) before ≡ resulting (get_or body place 0) before
unfolding after resulting
told_rate place body before =
    rw (eq-eqb (named body) (named body) refl)
    (by_bool (λ (t : Bool). cond (not t) (get_or body place 0) before ≡ cond t before (get_or body place 0)) refl refl (eqb (get_or body place 0) 0))

-- of no other phy it writes anything
told_other : (body : List ℕ) (w : Writer ℕ ℕ) → OwnPhy w → (m before : ℕ) → m ≢ named body → after w m (told_set body) before ≡ before
unfolding after
told_other body w own m before d = rw (own m (told_set body) (ne_eqb (named body) m (λ q. d (sym q))), and_false) refl

-- ---- code 22: the ways that it can go

module _ (ad : Adapter) (body : List ℕ) where
  pub errors_by : (P : Changed → Type 0) → ((code : ℕ) → 0 < code → Own code → P (leaves code ad body))
      → (eqb (get_or body reset_place 0) link_error_reset_counts ≡ true → named body < ad.phy_count
      → P (leaves success (with_phy ad (named body) (cleared (phy_in ad (named body)))) (counters_shown body (phy_in ad (named body)).counters)))
      → (eqb (get_or body reset_place 0) link_error_reset_counts ≡ false → P (leaves success ad (counters_shown body (phy_in ad (named body)).counters))) → P (link_errors ad body)
  unfolding link_errors after_reset
  errors_by P refused cleared kept =
      either P (leb (get_or body reset_place 0) 1)
      (either_by P (ltb (named body) ad.phy_count)
      (λ k. either_by (λ (s : Stored). P (with_body s (counters_shown body (phy_in ad (named body)).counters))) (eqb (get_or body reset_place 0) link_error_reset_counts)
      (λ t. cleared t (ltb-true (named body) ad.phy_count k)) kept)
      (λ _. refused 2002 (omega arith) (omega arith, λ e. omega arith)))
      (refused 3 (omega arith) (omega arith, λ e. omega arith))

  -- one that does not clear leaves the tables
  pub errors_read : eqb (get_or body reset_place 0) link_error_reset_counts ≡ false → (link_errors ad body).adapter ≡ ad
  errors_read e = errors_by (λ (c : Changed). c.adapter ≡ ad) (λ _ _ _. refl) (λ t _. absurd (true≢false (sym t ∙ e))) (λ _. refl)

-- ---- their effects

module _ (ad : Adapter) (store : Store) (body : List ℕ) (h : adapter_holds ad ≡ true) (z : Sized ad) where
  abbrev n : ℕ
  n = named body

  abbrev phy : Phy
  phy = phy_in ad n

  set_storing : n < ad.phy_count → Allowed phy body → Storing ad (told_set body) n (set_now phy body)
  unfolding set_now phy_setting
  set_storing k a =
      let e : length phy.entity ≡ 64 = z.entities n k in
      let l : ℕ = resulting (get_or body 2 0) (programmed_minimum phy) in
      let u : ℕ = resulting (get_or body 3 0) (programmed_maximum phy) in
      let s = set_settings phy (phy_setting body) l u e in
      let f : length (released phy).entity ≡ 64 = released_long phy (phy_setting body) l u e in
      record {
        below = k;
        kept = set_kept phy (phy_setting body) l u e;
        fields = set_fields phy (phy_setting body) l u e (record { 0 = n }) ad.phy_count a.0 a.1 (fields_in ad h n k);
        negotiated = set_negotiated phy (phy_setting body) l u e;
        minimum = s.minimum ∙ minimum_configured (released phy) (phy_setting body).class l u f ∙ sym (told_rate 2 body (programmed_minimum phy));
        maximum = s.maximum ∙ maximum_configured (released phy) (phy_setting body).class l u f ∙ sym (told_rate 3 body (programmed_maximum phy));
        spinup = s.spinup ∙ set_spinup phy (phy_setting body) l u e ∙ sym (spinup_told (told_set body) n phy.spinup_hold refl refl refl);
        others = λ w _. told_other body w;
      }

  pub set_effect : Does ad store set_phy_info body (changed store (set_info ad body))
  set_effect =
      set_by ad body (λ (c : Changed). Does ad store set_phy_info body (changed store c))
      (λ code k own. record { small = own.0; effect = no_effect ad _ store (ne_eqb code success (λ e. omega arith)) })
      (λ k a. record {
        small = omega arith;
        effect = record {
          tables = stored_effect ad (told_set body) n (set_now phy body) h z (set_storing k a);
          store = store_kept ad (told_set body) store (quiet_other (sector_writer (selects_in ad)) (told_set body) (λ e. omega arith));
        };
      })

  -- ---- code 22: the phy that it clears

  abbrev told_errors : Told
  told_errors = record { granted = true; control = get_link_errors; body = body; reply = counters_shown body phy.counters }

  errors_storing : n < ad.phy_count → Storing ad told_errors n (cleared phy)
  errors_storing k =
      storing_kept ad told_errors n (cleared phy) (λ e. omega arith) k (kept_cleared phy)
      (fields_cleared phy (record { 0 = n }) ad.phy_count ∙ fields_in ad h n k) (holds_cleared phy ∙ negotiated_in ad h n k) (settings_cleared phy)

  pub errors_effect : Does ad store get_link_errors body (changed store (link_errors ad body))
  errors_effect =
      errors_by ad body (λ (c : Changed). Does ad store get_link_errors body (changed store c))
      (λ code k own. record { small = own.0; effect = no_effect ad _ store (ne_eqb code success (λ e. omega arith)) })
      (λ _ k. record {
        small = omega arith;
        effect = record {
          tables = stored_effect ad told_errors n (cleared phy) h z (errors_storing k);
          store = store_kept ad told_errors store (quiet_other (sector_writer (selects_in ad)) told_errors (λ e. omega arith));
        };
      })
      (λ _. record { small = omega arith; effect = report_effect ad told_errors store (λ e. omega arith) (λ e. omega arith) })
