-- The proof that the conversions undo each other at every point of a run. Assumes nothing.
use mathlib.Core.Path.{◌≡◌, refl, sym, ◌∙◌, ap}
use mathlib.Core.Bool.{Bool, true, false, cond, false≢true}
use mathlib.Core.List.{List}
use Prim.Native.Nat.{ℕ, ◌+◌, ◌<◌, ◌≤◌}
use native.Mathlib.Omega.{arith}
use lib.Dec.{eqb, ltb}
use lib.ListN.{length}
use borrow.Author.Tests.{le-ltb, lt-ltb, eqb-true, eqb-false, ltb-true}
use Rattle.laws.specs.Choice.{by_bool, either, came_then}
use Rattle.laws.specs.Fill.{get_or_padded}
use Rattle.laws.specs.Splice.{part, splice, part_splice}
use Rattle.codes.specs.Codes.{success, get_scsi_address, get_device_address, no_scsi_address, no_device_address}
use Rattle.rows.proofs.ReadLaws.{length_sas, length_os}
use Rattle.rows.specs.Row.{Row, no_row, zero_row, row_at, rows_hold, sas_index, os_index}
use Rattle.rows.proofs.ConversionsLaws.{sas_found, os_found, sas_own, os_own}
use Rattle.layout.specs.Layout.{phy_count, row_count, row_place}
use Rattle.contents.specs.Contents.{file_row, adapter_of}
use Rattle.contents.proofs.Laws.{row_within}
use Rattle.reports.specs.Report.{Report, filled, report}
use Rattle.lookups.specs.Conversion.{converted}
use Rattle.lookups.specs.ScsiAddress.{scsi_address}
use Rattle.lookups.specs.DeviceAddress.{device_address}
use Rattle.state.specs.Open.{opened_of}
use Rattle.state.proofs.AcceptedLaws.{Open, open_accepted}
use Rattle.control_codes.specs.Table.{structure_size}
use Rattle.service.specs.Serve.{Store, reported, changed, report_of, served}
use Rattle.header.proofs.SentLaws.{checks_room}
use Rattle.dispatch.proofs.Laws.{number_state}
use Rattle.header.specs.Sent.{Request, form_of, control_of, body_of}
use Rattle.dispatch.specs.Request.{Point, Outcome, buffer_number, point_number, answered, answered_at, handled}
use Rattle.claims.specs.Run.{exchange_of, step, opened_at, whole_run}
use Rattle.claims.specs.LastWriter.{granted, Told, told_by}
use Rattle.claims.proofs.Ways.{tables_hold_lem, reply_with, told_of, told_number, told_served}
use Rattle.claims.proofs.Moved.{rows_hold_lem}
use Rattle.claims.proofs.Reached.{refused_stays, Reached, reached}
use Rattle.claims.specs.RoundTrip.{Sound, body_shown, grants, RoundTrip, ConversionsClaim}
use Rattle.claims.proofs.Demand3.{sized_opened}

-- a point whose state, medium and stage are accepted, and whose rows have 16 and 4 bytes
record AcceptedRows (p : Point) : Type 0 where
  number : point_number p ≡ 0
  sas : (i : ℕ) → i < p.state.adapter.row_count → length (row_at p.state.adapter.rows i).sas ≡ 16
  os : (i : ℕ) → i < p.state.adapter.row_count → length (row_at p.state.adapter.rows i).os ≡ 4

-- what it is answered with, of a code that only reports
unfoldable reported_by : Point → Request → Report → Outcome
reported_by p r x = reply_with p r (changed p.store (reported p.state.adapter x))

handled_sound : (p : Point) (r : Request) (control : ℕ) → point_number p ≡ 0 → Sound p r control
    → handled p r ≡ reply_with p r (served p.state.adapter p.store control (body_of r))
unfolding handled buffer_number answered_at answered
handled_sound p r control n o = rw (n, le-ltb (length r.buffer) (form_of r).size o.long, o.passes, o.coded) refl

-- ---- what the reply shows

module _ (p : Point) (r : Request) (x : Report) (h : (form_of r).size ≤ length r.buffer) (k : x.code ≤ 2014) where
  told_report : told_by (exchange_of r (reported_by p r x)) ≡ told_of (control_of r) (body_of r) (changed p.store (reported p.state.adapter x))
  unfolding reported_by
  told_report = told_served p r (changed p.store (reported p.state.adapter x)) k h

  granted_report : granted (exchange_of r (reported_by p r x)) ≡ eqb x.code success
  unfolding told_by
  granted_report = ap (λ (t : Told). t.granted) told_report

  body_report : body_shown r (reported_by p r x) ≡ x.body
  body_report = ap (λ (t : Told). t.reply) told_report

-- a report leaves the point as it was
reported_stays : (p : Point) (r : Request) (x : Report) → (reported_by p r x).point ≡ p
unfolding reported_by
reported_stays p r x = refl

-- ---- a row that was looked up, one way or the other: its bytes v go to a place of the body

module _ (p : Point) (r : Request) (h : (form_of r).size ≤ length r.buffer) (i a place : ℕ) (v : List ℕ) (none : ℕ) (z : 0 < none) (k : none ≤ 2014) where
  abbrev looked : Report
  looked = cond (ltb i a) (filled (splice (body_of r) place v)) (report none (body_of r))

  small : looked.code ≤ 2014
  small = either (λ (x : Report). x.code ≤ 2014) (ltb i a) (omega arith) k

  -- a reply that grants was found
  found : grants r (reported_by p r looked) → i < a
  found g =
      let e : looked.code ≡ 0 = eqb-true looked.code 0 (sym (granted_report p r looked h small) ∙ g) in
      ltb-true i a (came_then (λ (x : Report). x.code ≡ 0) (ltb i a) (λ q. omega arith) e).0

  -- and one that was found grants and shows the bytes
  shown : i < a → place ≤ length (body_of r) → grants r (reported_by p r looked) × (part (body_shown r (reported_by p r looked)) place (length v) ≡ v)
  shown l b =
      let y : looked ≡ filled (splice (body_of r) place v) = rw (lt-ltb i a l) refl in (
        granted_report p r looked h small ∙ ap (λ (x : Report). eqb x.code 0) y,
        ap (λ (l : List ℕ). part l place (length v)) (body_report p r looked h small) ∙ ap (λ (x : Report). part x.body place (length v)) y ∙ part_splice (body_of r) place v b,
      )

-- ---- both ways

module _ (p : Point) (w : AcceptedRows p) where
  abbrev rows : List Row
  rows = p.state.adapter.rows

  abbrev a : ℕ
  a = p.state.adapter.row_count

  -- the structure of both is 20 bytes
  room : (r : Request) (control : ℕ) → Sound p r control → structure_size control ≡ 20 → 20 ≤ length (body_of r)
  room r control o e = let x = checks_room p.state.level r o.passes in omega (arith, (rw (o.coded, e) at x))

  -- what a 27 and a 28 are answered with
  abbrev scsi_report : Request → Report
  scsi_report r = converted sas_index (λ (x : Row). x.os) 16 no_scsi_address rows a (body_of r)

  abbrev device_report : Request → Report
  device_report r = converted os_index (λ (x : Row). x.sas) 4 no_device_address rows a (body_of r)

  scsi_handled : (r : Request) → Sound p r get_scsi_address → handled p r ≡ reported_by p r (scsi_report r)
  unfolding served report_of scsi_address reported_by
  scsi_handled r o = handled_sound p r get_scsi_address w.number o

  device_handled : (r : Request) → Sound p r get_device_address → handled p r ≡ reported_by p r (device_report r)
  unfolding served report_of device_address reported_by
  device_handled r o = handled_sound p r get_device_address w.number o

  hold : rows_hold rows a ≡ true
  hold = rows_hold_lem p.state.adapter (tables_hold_lem p.state (number_state p.state (length p.store.medium) (length p.store.stage) w.number))

  -- either leaves the point
  scsi_stays : (q : Request) → Sound p q get_scsi_address → step p q ≡ p
  scsi_stays q o = ap (λ (x : Outcome). x.point) (scsi_handled q o) ∙ reported_stays p q (scsi_report q)

  device_stays : (q : Request) → Sound p q get_device_address → step p q ≡ p
  device_stays q o = ap (λ (x : Outcome). x.point) (device_handled q o) ∙ reported_stays p q (device_report q)

  both_ways : RoundTrip p
  unfolding converted structure_size
  both_ways =
      record {
        sas = λ q r oq or g e.
            let key : List ℕ = part (body_of q) 0 16 in
            let i : ℕ = sas_index rows a key in
            let l : i < a = found p q oq.long i a 16 (row_at rows i).os no_scsi_address (omega arith) (omega arith) (rw (scsi_handled q oq) at g) in
            let v = shown p q oq.long i a 16 (row_at rows i).os no_scsi_address (omega arith) (omega arith) l (omega (arith, room q get_scsi_address oq refl)) in
            let x : part (body_of r) 0 4 ≡ (row_at rows i).os = e ∙ rw (scsi_handled q oq) (rw (w.os i l) at v.1) in
            let j : os_index rows a (part (body_of r) 0 4) ≡ i = rw x (os_own rows a i hold l) in
            let u = shown p r or.long i a 4 (row_at rows i).sas no_device_address (omega arith) (omega arith) l (omega (arith, room r get_device_address or refl)) in
            rw (scsi_stays q oq, device_handled r or, j) (u.0, rw (w.sas i l) at u.1 ∙ sas_found rows a key l);
        os = λ q r oq or g e.
            let key : List ℕ = part (body_of q) 0 4 in
            let i : ℕ = os_index rows a key in
            let l : i < a = found p q oq.long i a 4 (row_at rows i).sas no_device_address (omega arith) (omega arith) (rw (device_handled q oq) at g) in
            let v = shown p q oq.long i a 4 (row_at rows i).sas no_device_address (omega arith) (omega arith) l (omega (arith, room q get_device_address oq refl)) in
            let x : part (body_of r) 0 16 ≡ (row_at rows i).sas = e ∙ rw (device_handled q oq) (rw (w.sas i l) at v.1) in
            let j : sas_index rows a (part (body_of r) 0 16) ≡ i = rw x (sas_own rows a i hold l) in
            let u = shown p r or.long i a 16 (row_at rows i).os no_scsi_address (omega arith) (omega arith) l (omega (arith, room r get_scsi_address or refl)) in
            rw (device_stays q oq, scsi_handled r or, j) (u.0, rw (w.os i l) at u.1 ∙ os_found rows a key l);
      }

-- ---- every point of a run from an opening that accepts is such a point

opened_rows : (text file : List ℕ) (store : Store) → (opened_of text file store.medium).call ≡ 0 → point_number (opened_at text file store) ≡ 0 → AcceptedRows (opened_at text file store)
unfolding adapter_of file_row
opened_rows text file store h n =
    let o : Open text file store.medium = open_accepted text file store.medium h in
    let p : ℕ = phy_count file in
    let a : ℕ = row_count file in
    let inside : (i : ℕ) → i < a → row_place p i + 20 ≤ length file = λ i l. row_within file p a i l (sym o.read.size) in
    record {
      number = n;
      sas = rw o.opened (λ i l. ap (λ (x : Row). length x.sas) (get_or_padded (file_row file p) a 64 i zero_row no_row l) ∙ length_sas file (row_place p i) (inside i l));
      os = rw o.opened (λ i l. ap (λ (x : Row). length x.os) (get_or_padded (file_row file p) a 64 i zero_row no_row l) ∙ length_os file (row_place p i) (inside i l));
    }

-- rows never change
rows_reached : (start p : Point) → Reached start p → AcceptedRows start → AcceptedRows p
rows_reached start p i w =
    record { number = i.number ∙ w.number; sas = rw (i.moved.rows, i.moved.row_count) w.sas; os = rw (i.moved.rows, i.moved.row_count) w.os }

-- where no request is answered, none of the two is granted
silent_trip : (p : Point) → eqb (point_number p) 0 ≡ false → RoundTrip p
unfolding told_by
silent_trip p n = record { sas = λ q r _ _ g _. absurd (none q g); os = λ q r _ _ g _. absurd (none q g) }
  where
    none : (q : Request) → grants q (handled p q) → ⊥
    none q g =
        let z : (point_number p ≡ 0 → ⊥) = eqb-false (point_number p) 0 n in
        false≢true (sym (told_number p q (point_number p) (omega arith)) ∙ rw (refused_stays p q n) at g)

pub round_trip : ConversionsClaim
round_trip text file store h requests =
    let start : Point = opened_at text file store in
    let p : Point = (whole_run text file store requests).point in
    let i : Reached start p = reached start (sized_opened text file store h) requests in
    by_bool (λ (b : Bool). eqb (point_number start) 0 ≡ b → RoundTrip p)
    (λ e. both_ways p (rows_reached start p i (opened_rows text file store h (eqb-true (point_number start) 0 e))))
    (λ e. silent_trip p (rw i.number e))
    (eqb (point_number start) 0) refl
