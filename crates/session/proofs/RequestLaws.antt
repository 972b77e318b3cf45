-- What one request of a session and its line leave. Assumes nothing.
use mathlib.Core.Path.{◌≡◌, refl, sym, ◌∙◌, ap}
use mathlib.Core.Bool.{true}
use mathlib.Core.List.{List, [], ◌++◌, append-nil}
use Prim.Native.Nat.{ℕ, ◌-◌, ◌≤◌}
use native.Mathlib.Nat.{zero-add}
use native.Mathlib.Omega.{arith}
use lib.ListN.{length, take, drop, length-append, length-drop, drop_of_length-le}
use lib.Seq.{take_at, length-take-le}
use borrow.Author.Tests.{ne_eqb}
use Rattle.laws.specs.Splice.{splice, rest, rest_end}
use Rattle.wire.specs.Number.{bytes}
use Rattle.wire.proofs.NumberLaws.{length_bytes}
use Rattle.state.specs.State.{State, state_holds}
use Rattle.adapter.specs.Adapter.{medium_size}
use Rattle.header.specs.declared.Kind.{Kind}
use Rattle.header.specs.Form.{return_code}
use Rattle.header.specs.Sent.{Request, sent, form_by, form_of}
use Rattle.firmware.specs.Firmware.{stage_size}
use Rattle.service.specs.Serve.{store_of}
use Rattle.dispatch.specs.Request.{Point, point, Outcome, outcome, state_number, buffer_number, call_number, untouched, answered_at, handled}
use Rattle.dispatch.proofs.Laws.{heard_state, heard_medium, heard_stage, heard_room}
use Rattle.frames.specs.declared.Framing.{Framing}
use Rattle.frames.specs.declared.Prefix.{Prefix}
use Rattle.frames.specs.Frames.{prefix_size, prefix_of, kind_of}
use Rattle.tally.specs.Kinds.{no_code}
use Rattle.claims.specs.Lines.{code_of}
use Rattle.session.specs.Session.{Recorded, records, after_request, behind_prefix, after_framed, before_rests, after_first}

-- ---- a line of the record

-- what two writes leave
pub line_written : (line first second : List ℕ) (call code : ℕ) → length line ≡ 8 → first ≡ splice line 0 (bytes 4 call) → second ≡ splice first 4 (bytes 4 code)
    → second ≡ bytes 4 call ++ bytes 4 code
unfolding splice
line_written line first second call code h p q =
    let l : length (bytes 4 call) ≡ 4 = length_bytes 4 call in
    let e : first ≡ bytes 4 call ++ drop 4 line = rw (l, zero-add) at p in
    let a : take 4 first ≡ bytes 4 call = ap (take 4) e ∙ take_at (bytes 4 call) (drop 4 line) 4 l in
    let b : drop 8 first ≡ [] = drop_of_length-le first {i = 8} (rw (e, length-append (bytes 4 call) (drop 4 line), l, length-drop) (omega arith)) in
    q ∙ rw (length_bytes 4 code, a, b, append-nil) refl

-- the first bytes of a session or a record, as they are lent
pub front_lent : (n : ℕ) (l : List ℕ) → n ≤ length l → n ≡ length (take n l)
front_lent n l h = sym (length-take-le n l h)

pub prefix_lent : (k n : ℕ) (l : List ℕ) → k ≤ n → n ≤ length l → k ≤ length (take n l)
prefix_lent k n l h b = rw (length-take-le n l b) h

-- ---- a request

-- what is known where the call's number is 0
module _ (kind : Kind) (s : State) (medium stage buffer number call : ℕ) (n : number ≡ state_number s medium stage) (e : call ≡ buffer_number (form_by kind) number buffer) (z : call ≡ 0) where
  called : call ≡ buffer_number (form_by kind) (state_number s medium stage) buffer
  called = rw (← n) e

  pub reply_state : state_holds s ≡ true
  reply_state = heard_state kind s medium stage buffer call called z

  pub reply_medium : medium ≡ medium_size s.adapter
  reply_medium = heard_medium kind s medium stage buffer call called z

  pub reply_stage : stage ≡ stage_size
  reply_stage = heard_stage kind s medium stage buffer call called z

  pub reply_buffer : (form_by kind).size ≤ buffer
  reply_buffer = heard_room kind s medium stage buffer call called z

module _ (kind : Kind) (s : State) (medium stage buffer : List ℕ) (number call : ℕ) (n : number ≡ state_number s (length medium) (length stage))
    (e : call ≡ buffer_number (form_by kind) number (length buffer))
  where
    abbrev p : Point
    p = point s (store_of medium stage)

    abbrev r : Request
    r = sent kind buffer

    numbered : call_number p r ≡ call
    numbered = rw (← n, e) refl

    -- it is answered
    pub handled_replied : (x : Recorded) → call ≡ 0 → x ≡ after_request r (answered_at p r) → x ≡ after_request r (handled p r)
    unfolding handled
    handled_replied x z q = rw (numbered, z) q

    -- or the call gives a number, and nothing is written but that
    pub handled_refused : (line : List ℕ) → (call ≡ 0 → ⊥) → line ≡ bytes 4 call ++ bytes 4 no_code → records p buffer line ≡ after_request r (handled p r)
    unfolding handled code_of
    handled_refused line h q =
        let o : handled p r ≡ untouched call p r = rw (numbered, ne_eqb call 0 h) refl in
        rw (o, q, ne_eqb call 0 h) refl

-- what an answered request and its line leave
pub replied_left : (r : Request) (p : Point) (o : Outcome) (code n : ℕ) (buffer line : List ℕ) → outcome 0 p buffer ≡ o → code ≡ return_code (form_of r) buffer
    → n ≡ code → line ≡ bytes 4 0 ++ bytes 4 n → records p buffer line ≡ after_request r o
unfolding code_of
replied_left r p o code n buffer line e c m q = rw (q, m, c) (ap (λ (x : Outcome). after_request r x) e)

-- the same behind its prefix
pub framed_left : (f : Framing) (kind : Kind) (x : Prefix) (before : ℕ) (p q : Point) (request buffer line : List ℕ)
    → x ≡ prefix_of f request → kind ≡ kind_of x → before ≡ prefix_size f
    → let r = sent kind (take (length request - before) (drop before request)) in
    records q buffer line ≡ after_request r (handled p r)
    → records q (take before request ++ (buffer ++ drop (length request - before) (drop before request))) line ≡ after_framed f p request
unfolding after_framed
framed_left f kind x before p q request buffer line a k b e =
    rw (rest_end request before, append-nil, b) (ap (behind_prefix (take (prefix_size f) request)) (rw (rest, k, a, b) at e))

-- and before the rest of a session and of a record
pub first_left : (f : Framing) (size : ℕ) (p q : Point) (session request lines line : List ℕ) → records q request line ≡ after_framed f p (take size session)
    → records q (request ++ drop size session) (line ++ drop 8 lines) ≡ after_first f size p session lines
unfolding after_first
first_left f size p q session request lines line e = ap (before_rests (drop size session) (drop 8 lines)) e
