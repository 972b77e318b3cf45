-- The proof that a request gets the same answer under either header. Assumes nothing.
use mathlib.Core.Path.{◌≡◌, refl, sym, ◌∙◌}
use mathlib.Core.Bool.{true}
use mathlib.Core.List.{◌++◌}
use Prim.Native.Nat.{◌≤◌}
use native.Mathlib.Omega.{arith}
use lib.Dec.{leb}
use lib.ListN.{length, take}
use borrow.Author.Tests.{leb-true, le-ltb}
use Rattle.laws.specs.Choice.{both_left}
use Rattle.level.specs.declared.Level.{Level}
use Rattle.level.specs.Text.{full}
use Rattle.wire.specs.Number.{number, bytes}
use Rattle.adapter.specs.Adapter.{Adapter}
use Rattle.state.specs.State.{state_with, adapter_holds, state_holds}
use Rattle.header.specs.declared.Kind.TheVariants.{Srb, Linux}
use Rattle.header.specs.Form.{Form, behind_header, return_code}
use Rattle.header.specs.Sent.{Request, sent, level_by, form_of, control_of, body_of}
use Rattle.header.proofs.SentLaws.{form_room, full_checks}
use Rattle.header.proofs.FormLaws.{code_there, header_kept, body_shown_lem}
use Rattle.service.specs.Serve.{Store, Served, served}
use Rattle.dispatch.specs.Request.{Outcome, buffer_number, point_number, in_buffer, answered, replied, answered_at, handled}
use Rattle.dispatch.proofs.Laws.{number_state}
use Rattle.claims.specs.Sameness.{PastHeader, at_level, Sameness}
use Rattle.claims.proofs.HigherSteps.{number_same}

-- ---- a request that is held to Full, and passes its header's checks, is served

-- it leaves what was served, with the return code at its place
record Leaves (f : Form) (x : Served) (o : Outcome) : Type 0 where
  call : o.call ≡ 0
  code : return_code f o.buffer ≡ number (bytes 4 x.code)
  body : behind_header f o.buffer ≡ x.body
  store : o.point.store ≡ x.store
  adapter : o.point.state.adapter ≡ x.adapter

module _ (level : Level) (ad : Adapter) (store : Store) (r : Request) (z : point_number (at_level level ad store) ≡ 0) (f : level_by r.kind level ≡ full)
    (h : PastHeader r)
  where
    abbrev x : Served
    x = served ad store (control_of r) (body_of r)

    past_served : handled (at_level level ad store) r ≡ replied (form_of r) level (in_buffer r x)
    unfolding handled buffer_number answered_at answered
    past_served = rw (z, le-ltb (length r.buffer) (form_of r).size h.long, full_checks level r f, h.checked) refl

    past_leaves : Leaves (form_of r) x (handled (at_level level ad store) r)
    past_leaves =
        rw past_served
        (record {
          call = refl;
          code = code_there (form_of r) (form_room r) (take (form_of r).size r.buffer ++ x.body) x.code (header_kept (form_of r) (form_room r) r.buffer x.body h.long);
          body = body_shown_lem (form_of r) (form_room r) r.buffer x.body h.long x.code;
          store = refl;
          adapter = refl;
        })

-- ---- both headers

-- what passes the checks of state, medium and stage at a level does so at Full
number_full : (level : Level) (ad : Adapter) (store : Store) → point_number (at_level level ad store) ≡ 0 → point_number (at_level full ad store) ≡ 0
unfolding state_holds
number_full level ad store z =
    let h : state_holds (state_with level ad) ≡ true = number_state (state_with level ad) (length store.medium) (length store.stage) z in
    let b : level.0 ≤ 3 = leb-true level.0 3 (both_left (leb level.0 3) (adapter_holds ad) h) in
    sym (number_same ad level full b (omega arith) (length store.medium) (length store.stage)) ∙ z

pub sameness : Sameness
sameness level ad store control linux_buffer srb_buffer z hq hr t =
    let a = past_leaves level ad store (sent (Linux control) linux_buffer) z refl hq in
    let b = rw (← t.control, ← t.body) at (past_leaves full ad store (sent Srb srb_buffer) (number_full level ad store z) refl hr) in
    record {
      answered = (a.call, b.call);
      code = a.code ∙ sym b.code;
      body = a.body ∙ sym b.body;
      store = a.store ∙ sym b.store;
      adapter = a.adapter ∙ sym b.adapter;
    }
