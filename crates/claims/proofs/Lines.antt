-- What the line of a request can read: 4 says that it was denied, and both numbers are of 32 bits. Assumes nothing.
use mathlib.Core.Path.{◌≡◌, refl, sym, subst}
use mathlib.Core.Bool.{Bool, true, false, cond, ◌&&◌}
use mathlib.Core.List.{List, ◌++◌}
use Prim.Native.Nat.{ℕ, ◌<◌, ◌≤◌}
use native.Mathlib.Omega.{arith}
use lib.Dec.{eqb, ltb}
use lib.ListN.{length, take}
use borrow.Author.Tests.{eqb-true, eqb-false, ne_eqb}
use Rattle.laws.specs.Choice.{by_bool, either, either_by, both_left}
use Rattle.codes.specs.Codes.{success, write_attempted}
use Rattle.level.specs.declared.Level.{Level}
use Rattle.tally.specs.declared.Line.{Line}
use Rattle.tally.specs.Kinds.{Granted, Denied, is, line, no_code}
use Rattle.tally.proofs.RecordLaws.{Fits}
use Rattle.adapter.specs.Adapter.{medium_size}
use Rattle.state.specs.State.{state_holds}
use Rattle.header.specs.Form.{return_code, with_code}
use Rattle.header.specs.Sent.{Request, form_of, control_of, body_of, refused_by_level, checks_code}
use Rattle.header.proofs.FormLaws.{code_shown, header_kept}
use Rattle.header.proofs.SentLaws.{form_room, checks_other}
use Rattle.service.specs.Serve.{Served, served}
use Rattle.firmware.specs.Firmware.{stage_size}
use Rattle.dispatch.specs.Request.{Point, Outcome, Pending, stage_number, state_number, buffer_number, call_number, point_number, replied, answered, answered_at, handled}
use Rattle.dispatch.proofs.Laws.{heard_buffer}
use Rattle.claims.specs.Run.{Exchange, exchange_of, denied}
use Rattle.claims.specs.LastWriter.{granted}
use Rattle.claims.specs.Lines.{code_of, line_of}
use Rattle.claims.proofs.Steps.{denied_step}
use Rattle.claims.proofs.Ways.{Own}
use Rattle.claims.proofs.OwnCodes.{served_own}

-- its line is granted where it is
pub granted_line : (x : Exchange) → is Granted (line_of x) ≡ granted x
unfolding granted code_of
granted_line x =
    by_bool (λ (b : Bool). b && eqb (cond b (return_code (form_of x.sent) x.reply.buffer) no_code) success
    ≡ b && eqb (return_code (form_of x.sent) x.reply.buffer) success) refl refl (eqb x.reply.call 0)

module _ (p : Point) (r : Request) where
  abbrev pub own_line : Line
  own_line = line_of (exchange_of r (handled p r))

  number_small : call_number p r ≤ 107
  unfolding buffer_number state_number stage_number
  number_small =
      either Small (eqb (point_number p) 0) (either Small (ltb (length r.buffer) (form_of r).size) (omega arith) (omega arith))
      (either Small (state_holds p.state) (either Small (eqb (medium_size p.state.adapter) (length p.store.medium))
      (either Small (eqb (length p.store.stage) stage_size) (omega arith) (omega arith)) (omega arith)) (omega arith))
    where
      Small : ℕ → Type 0
      Small n = n ≤ 107

  room : eqb (call_number p r) 0 ≡ true → (form_of r).size ≤ length r.buffer
  room e = heard_buffer (form_of r) (point_number p) (length r.buffer) (call_number p r) refl (eqb-true (call_number p r) 0 e)

  -- the ways that the line of a request that is not denied can read
  undenied_by : (P : Line → Type 0) → ((call : ℕ) → 0 < call → call ≤ 107 → P (line call no_code)) → ((code : ℕ) → Own code → P (line 0 code)) → denied p r ≡ false
      → P own_line
  unfolding handled answered_at answered denied code_of
  undenied_by P number answer d =
      let level : Level = p.state.level in
      let s : Served = served p.state.adapter p.store (control_of r) (body_of r) in
      either_by (λ (o : Outcome). P (line_of (exchange_of r o))) (eqb (call_number p r) 0)
      (λ z. let long : (form_of r).size ≤ length r.buffer = room z in
      let n : checks_code level r ≤ 3 = checks_other level r (rw z at d) in
      either_by (λ (x : Pending). P (line_of (exchange_of r (replied (form_of r) level x)))) (eqb (checks_code level r) success)
      (λ _. shows (take (form_of r).size r.buffer ++ s.body) s.code (header_kept (form_of r) (form_room r) r.buffer s.body long)
      (served_own p.state.adapter p.store (control_of r) (body_of r)))
      (λ _. shows r.buffer (checks_code level r) long (omega arith, λ e. omega arith)))
      (λ z. let n : (call_number p r ≡ 0 → ⊥) = eqb-false (call_number p r) 0 z in
      rw z (number (call_number p r) (omega arith) number_small))
    where
      -- a return code that is written
      shows : (buffer : List ℕ) (code : ℕ) → (form_of r).size ≤ length buffer → Own code → P (line 0 (return_code (form_of r) (with_code (form_of r) buffer code)))
      shows buffer code l own = rw (code_shown (form_of r) (form_room r) buffer code l (omega arith)) (answer code own)

  denied_reads : denied p r ≡ true → own_line ≡ line 0 write_attempted
  unfolding code_of denied
  denied_reads d =
      let l : (form_of r).size ≤ length r.buffer = room (both_left (eqb (call_number p r) 0) (refused_by_level p.state.level r) d) in
      rw (denied_step p r d, code_shown (form_of r) (form_room r) r.buffer write_attempted l (omega arith)) refl

  -- 4 says denied
  pub denied_line : is Denied own_line ≡ denied p r
  denied_line =
      by_bool (λ (b : Bool). denied p r ≡ b → is Denied own_line ≡ b) (λ d. subst (λ (l : Line). is Denied l ≡ true) (sym (denied_reads d)) refl)
      (undenied_by (λ (l : Line). is Denied l ≡ false) (λ call z _. rw (ne_eqb call 0 (λ e. omega arith)) refl) (λ code own. ne_eqb code write_attempted own.1))
      (denied p r) refl

  -- both numbers are of 32 bits
  pub line_fits : Fits own_line
  line_fits =
      by_bool (λ (b : Bool). denied p r ≡ b → Fits own_line) (λ d. subst Fits (sym (denied_reads d)) (omega arith, omega arith))
      (undenied_by Fits (λ call _ k. (omega arith, omega arith)) (λ code own. let k : code ≤ 2014 = own.0 in (omega arith, omega arith)))
      (denied p r) refl
