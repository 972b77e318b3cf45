-- The proof of what W-205 says of a phy, and over whole runs of its byte. Assumes nothing.
use mathlib.Core.Path.{◌≡◌, refl, sym, ◌∙◌, ap}
use mathlib.Core.Logic.{◌≢◌}
use mathlib.Core.Bool.{true, false, true≢false}
use mathlib.Core.List.{List}
use Prim.Native.Nat.{ℕ, ◌<◌, ◌≤◌}
use native.Mathlib.Omega.{arith}
use lib.ListN.{length, get_or}
use borrow.Author.Tests.{ne_eqb}
use Rattle.laws.specs.Choice.{and_false}
use Rattle.codes.specs.Codes.{success, set_phy_info, stp_passthru, sata_spinup_hold}
use Rattle.phy.specs.declared.Phy.{Phy}
use Rattle.phy.specs.Entity.{is_sata, negotiated_of}
use Rattle.fields.proofs.HoldLaws.{spinup_sata}
use Rattle.link.specs.Rule.{negotiated_holds}
use Rattle.link.proofs.SpinUpLaws.{rate_waits, rate_shows, rate_rateless}
use Rattle.stp.specs.Body.{connection_rate, destination_of}
use Rattle.passthrough.specs.Passthrough.{Passed, passes, connected}
use Rattle.state.specs.State.{state_of, adapter_holds}
use Rattle.service.specs.Serve.{Served, passed}
use Rattle.header.specs.Sent.{Request, form_of, control_of, body_of}
use Rattle.dispatch.specs.Request.{Point, point, Outcome, handled}
use Rattle.claims.specs.Run.{exchange_of, step, opened_at}
use Rattle.claims.specs.LastWriter.{granted, Told, told_by}
use Rattle.claims.specs.RoundTrip.{grants}
use Rattle.claims.specs.SpinUp.{phy_at_point, spinup_writer, SpinUp}
use Rattle.claims.proofs.Ways.{Own, served_by, tables_hold_lem, reply_with, handled_by, told_number, told_refused, told_served}
use Rattle.claims.proofs.Moved.{Sized, sized_lent, fields_in, negotiated_in}
use Rattle.claims.proofs.Effect.{selects_in, spinup_told}
use Rattle.claims.proofs.DiskEffect.{passed_by}
use Rattle.claims.proofs.Reached.{request_effect, sized_reached}
use Rattle.claims.proofs.Demand3.{sized_opened, phys_last}

module _ (p : Point) (n : ℕ) (h : adapter_holds p.state.adapter ≡ true) (l : n < p.state.adapter.phy_count) where
  abbrev phy : Phy
  phy = phy_at_point p n

  rule_here : negotiated_holds phy ≡ true
  rule_here = negotiated_in p.state.adapter h n l

  -- ---- code 25

  not_connected : phy.spinup_hold ≡ 1 → (rate : ℕ) (destination : List ℕ) → connected phy rate destination ≡ false
  unfolding connected
  not_connected e rate destination = rw (rate_rateless phy rule_here e, and_false (is_sata phy)) refl

  module _ (e : phy.spinup_hold ≡ 1) (r : Request) (c : control_of r ≡ stp_passthru) (s : (selects_in p.state.adapter (body_of r)).phy.0 ≡ n) where
    -- not granted, and where it was
    abbrev Silent : Outcome → Type 0
    Silent o = (granted (exchange_of r o) ≡ false) × (o.point ≡ p)

    -- a code 25 that is refused
    refused_silent : (form_of r).size ≤ length r.buffer → (code : ℕ) → 0 < code → Own code
        → Silent (reply_with p r (passed p.state.adapter p.store (passes code p.store.medium (body_of r))))
    unfolding told_by
    refused_silent long code z own =
        let t = told_served p r (passed p.state.adapter p.store (passes code p.store.medium (body_of r))) own.0 long in
        (ap (λ (y : Told). y.granted) t ∙ ne_eqb code success (λ q. omega arith), refl)

    silent_all : Silent (handled p r)
    unfolding told_by
    silent_all =
        handled_by p r Silent (λ call z. (told_number p r call z, refl)) (λ code z k long. (told_refused p r code z k long, refl))
        (λ _ long _.
        served_by p.state.adapter p.store (control_of r) (body_of r) (λ (x : Served). Silent (reply_with p r x))
        (λ q. absurd (omega (arith, c, q)))
        (λ q. absurd (omega (arith, c, q)))
        (λ _. passed_by p.state.adapter p.store.medium (body_of r) (λ (x : Passed). Silent (reply_with p r (passed p.state.adapter p.store x)))
        (refused_silent long)
        (λ _ q. let d : true ≡ false = sym q ∙ rw s (not_connected e (connection_rate (body_of r)) (destination_of (body_of r))) in absurd (true≢false d)))
        (λ q. absurd (omega (arith, c, q)))
        (λ _ _ m _. absurd (m c)))

-- ---- code 21

reset_rate : (p : Point) (n : ℕ) → Sized p.state.adapter → adapter_holds p.state.adapter ≡ true → n < p.state.adapter.phy_count → (r : Request)
    → grants r (handled p r) → control_of r ≡ set_phy_info → get_or (body_of r) 0 0 ≡ n → negotiated_of (phy_at_point (step p r) n) ≢ sata_spinup_hold
unfolding told_by
reset_rate p n z h l r g c b q =
    let f = request_effect p r z in
    let e : (phy_at_point (step p r) n).spinup_hold ≡ 0 =
    f.tables.spinup n ∙ spinup_told (told_by (exchange_of r (handled p r))) n (phy_at_point p n).spinup_hold g c b in
    let w = rate_waits (phy_at_point (step p r) n) (rule_here (step p r) n (f.tables.holds h) (rw f.tables.moved.count l)) q in
    omega (arith, e, w.0)

-- ---- all

pub spin_up : SpinUp
spin_up =
    record {
      phys = λ state store n e h l.
          let p : Point = point (state_of state) store in
          let rules : adapter_holds p.state.adapter ≡ true = tables_hold_lem (state_of state) h in
          record {
            sata = spinup_sata (phy_at_point p n) (record { 0 = n }) p.state.adapter.phy_count (fields_in p.state.adapter rules n l);
            waits = rate_waits (phy_at_point p n) (rule_here p n rules l);
            shows = rate_shows (phy_at_point p n) (rule_here p n rules l);
            silent = λ held r c s.
                let x = silent_all p n rules l held r c s in
                (λ g. true≢false (sym g ∙ x.0), x.1);
            reset = reset_rate p n (sized_lent state e h) rules l;
          };
      byte = λ text file store h requests n l.
          phys_last text file store h spinup_writer (λ (x : Phy). x.spinup_hold) n l
          (λ p r i. (request_effect p r (sized_reached (opened_at text file store) (sized_opened text file store h) p i)).tables.spinup n) requests;
    }
