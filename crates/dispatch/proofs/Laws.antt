-- What the proofs of this crate and the layers above cite. Assumes nothing.
use mathlib.Core.Path.{◌≡◌, refl, sym, ◌∙◌, ap}
use mathlib.Core.Bool.{true, false, cond}
use mathlib.Core.List.{List, [], ◌++◌, append-nil}
use Prim.Native.Nat.{ℕ, ◌+◌, ◌-◌, ◌<◌, ◌≤◌}
use native.Mathlib.Omega.{arith}
use lib.Dec.{eqb, ltb}
use lib.ListN.{length, get_or, take, drop}
use lib.Seq.{drop-length}
use borrow.Author.Tests.{eqb-true, ltb-false, lt-ltb, le-ltb, ne_eqb}
use Rattle.std.proofs.Math.Seq.{take_all}
use Rattle.laws.specs.Choice.{came_then, came_else, both_zero}
use Rattle.laws.specs.Splice.{part, splice, rest, rest_end}
use Rattle.codes.specs.Codes.{short_buffer, bad_state}
use Rattle.codes.specs.declared.call_error.CallError.{CallError}
use Rattle.std.proofs.Common.{Result, Err}
use Rattle.codes.specs.Numbers.{error_number, call_of}
use Rattle.codes.proofs.NumbersLaws.{error_some}
use mir.Syntax.{w32}
use mir.Val.{Fits}
use Rattle.wire.specs.Number.{bytes}
use Rattle.level.specs.declared.Level.{Level}
use Rattle.tables.specs.Tables.{tables_size, tables_of}
use Rattle.header.specs.declared.Kind.{Kind}
use Rattle.header.specs.Form.{Form, return_code, with_code}
use Rattle.control_codes.specs.Table.{structure_size, data_size}
use Rattle.header.specs.Sent.{sent, form_by, control_by, HasStructure, checks_code}
use Rattle.header.proofs.FormLaws.{code_shown}
use Rattle.header.proofs.SentLaws.{form_room, checks_room}
use Rattle.state.specs.State.{State, state_with, state_size, state_of, state_holds}
use Rattle.state.proofs.Laws.{tables_behind, state_back, state_phys, state_rows}
use Rattle.adapter.specs.Adapter.{Adapter, medium_size}
use Rattle.firmware.specs.Firmware.{stage_size}
use Rattle.service.specs.Serve.{Store, store_of, serves, served}
use Rattle.dispatch.specs.Request.{Point, point, outcome, stage_number, state_number, buffer_number, untouched, pending, in_buffer, served_request, refused_request, answered, replied, answered_at, handled, RequestCall}

-- ---- the body, lent as the rest of the buffer

module _ (kind : Kind) (buffer : List ℕ) (code size : ℕ) (e : code ≡ control_by kind buffer) (f : size ≡ (form_by kind).size) where
  abbrev lent : List ℕ
  lent = take (length buffer - size) (drop size buffer)

  pub body_room : HasStructure (sent kind buffer) → structure_size code + data_size code lent ≤ length lent
  body_room h = rw (rest, e, f) h

  pub body_back : (ad bd : Adapter) (answer' : ℕ) (store store' : Store) (body : List ℕ) → serves answer' bd store' body ≡ served ad store code lent
      → pending answer' bd store' (take size buffer ++ (body ++ drop (length buffer - size) (drop size buffer))) ≡ served_request ad store (sent kind buffer)
  body_back ad bd answer' store store' body p =
      rw (rest_end buffer size, append-nil, f) (ap (in_buffer (sent kind buffer)) (rw (rest, e, f) at p))

-- ---- a call whose number is 0

Zero : ℕ → Type 0
Zero n = n ≡ 0

-- what is known of the state, the medium and the stage then
module _ (s : State) (medium stage : ℕ) (z : state_number s medium stage ≡ 0) where
  number_known : (state_holds s ≡ true) × (medium ≡ medium_size s.adapter) × (stage ≡ stage_size)
  unfolding state_number stage_number Zero
  number_known =
      let b = came_then Zero (state_holds s) (λ q. omega arith) z in
      let c = came_then Zero (eqb (medium_size s.adapter) medium) (λ q. omega arith) b.1 in
      let d = came_then Zero (eqb stage stage_size) (λ q. omega arith) c.1 in
      (b.0, sym (eqb-true (medium_size s.adapter) medium c.0), eqb-true stage stage_size d.0)

  pub number_state : state_holds s ≡ true
  number_state = number_known.0

  pub number_medium : medium ≡ medium_size s.adapter
  number_medium = number_known.1

  pub number_stage : stage ≡ stage_size
  number_stage = number_known.2

-- and of the buffer
module _ (f : Form) (number buffer call : ℕ) (e : call ≡ buffer_number f number buffer) (z : call ≡ 0) where
  buffer_known : (number ≡ 0) × (f.size ≤ buffer)
  unfolding buffer_number Zero
  buffer_known =
      let a = both_zero number (cond (ltb buffer f.size) short_buffer 0) (sym e ∙ z) in
      (a.0, ltb-false buffer f.size (came_else Zero (ltb buffer f.size) (λ q. omega arith) a.1).0)

  pub heard_number : number ≡ 0
  heard_number = buffer_known.0

  pub heard_buffer : f.size ≤ buffer
  heard_buffer = buffer_known.1

module _ (kind : Kind) (s : State) (medium stage buffer call : ℕ) (e : call ≡ buffer_number (form_by kind) (state_number s medium stage) buffer) (z : call ≡ 0) where
  pub heard_state : state_holds s ≡ true
  heard_state = number_state s medium stage (heard_number (form_by kind) (state_number s medium stage) buffer call e z)

  pub heard_medium : medium ≡ medium_size s.adapter
  heard_medium = number_medium s medium stage (heard_number (form_by kind) (state_number s medium stage) buffer call e z)

  pub heard_stage : stage ≡ stage_size
  heard_stage = number_stage s medium stage (heard_number (form_by kind) (state_number s medium stage) buffer call e z)

  pub heard_room : (form_by kind).size ≤ buffer
  heard_room = heard_buffer (form_by kind) (state_number s medium stage) buffer call e z

-- ---- what a callee gave

-- a header's size
pub under_size : (buffer size n : ℕ) → size ≡ n → buffer < size → ltb buffer n ≡ true
under_size buffer size n e h = lt-ltb buffer n (rw (← e) h)

pub has_size : (buffer size n : ℕ) → size ≡ n → size ≤ buffer → ltb buffer n ≡ false
has_size buffer size n e h = le-ltb buffer n (rw (← e) h)

-- a code of the checks up to the level
pub checked_room : (kind : Kind) (level : Level) (buffer : List ℕ) (code : ℕ) → code ≡ checks_code level (sent kind buffer) → code ≡ 0 → HasStructure (sent kind buffer)
checked_room kind level buffer code e z = checks_room level (sent kind buffer) (sym e ∙ z)

pub refused_by : (kind : Kind) (code n : ℕ) (ad : Adapter) (store : Store) (buffer : List ℕ) → code ≡ n
    → pending code ad store buffer ≡ refused_request n ad store (sent kind buffer)
refused_by kind code n ad store buffer e = rw e

-- ---- an answer whose return code was written

module _ (kind : Kind) where
  pub reply_by : (level : Level) (ad bd : Adapter) (code : ℕ) (store store' : Store) (buffer buffer' reply : List ℕ)
      → pending code bd store' buffer' ≡ answered ad store (sent kind buffer) (checks_code level (sent kind buffer)) → reply ≡ with_code (form_by kind) buffer' code
      → outcome 0 (point (state_with level bd) store') reply ≡ answered_at (point (state_with level ad) store) (sent kind buffer)
  unfolding answered_at
  reply_by level ad bd code store store' buffer buffer' reply p q = rw q (ap (replied (form_by kind) level) p)

  module _ (place : ℕ) (e : place ≡ (form_by kind).place) where
    -- its place is in the header
    pub code_room : (n : ℕ) → (form_by kind).size ≤ n → place + 4 ≤ n
    code_room n h = rw e (omega (arith, form_room (sent kind [])))

    pub code_placed : (code : ℕ) (buffer reply : List ℕ) → reply ≡ splice buffer place (bytes 4 code) → reply ≡ with_code (form_by kind) buffer code
    code_placed code buffer reply q = rw e at q

    -- it is what stands there
    pub code_written : (code : ℕ) (buffer reply : List ℕ) → Fits w32 code → (form_by kind).size ≤ length buffer → reply ≡ splice buffer place (bytes 4 code)
        → code ≡ return_code (form_by kind) reply
    code_written code buffer reply f h q =
        sym (ap (return_code (form_by kind)) (code_placed code buffer reply q) ∙ code_shown (form_by kind) (form_room (sent kind [])) buffer code h f.fits)

-- ---- bytes lent as an array, which are all of them

all_lent : (n : ℕ) (l t : List ℕ) → length l ≡ n → t ≡ take n l → t ≡ l
all_lent n l t e p = p ∙ take_all n l (omega arith)

none_left : (n : ℕ) (l : List ℕ) → length l ≡ n → drop n l ≡ []
none_left n l e = ap (λ (k : ℕ). drop k l) (sym e) ∙ drop-length l

-- ---- the tables lent from the state, and given back

module _ (s f b t : List ℕ) (e : length s ≡ state_size) (p : f ≡ take 1 s) (q : b ≡ drop 1 s) (u : t ≡ take tables_size b) where
  lent_adapter : tables_of t ≡ (state_of s).adapter
  unfolding part
  lent_adapter = tables_behind s t e (u ∙ ap (take tables_size) q)

  pub lent_few : state_holds (state_of s) ≡ true → ((tables_of t).phy_count ≤ 32) × ((tables_of t).row_count ≤ 64)
  lent_few h = rw lent_adapter (state_phys (state_of s) true (sym h) refl, state_rows (state_of s) true (sym h) refl)

  pub lent_medium : (medium : ℕ) → medium ≡ medium_size (state_of s).adapter → medium ≡ medium_size (tables_of t)
  lent_medium medium h = rw lent_adapter h

  pub reply_back : (kind : Kind) (t' m m' g h h' buffer buffer' : List ℕ) → length g ≡ stage_size → h ≡ take stage_size g
      → outcome 0 (point (state_with (record { 0 = get_or s 0 0 }) (tables_of t')) (store_of m' h')) buffer'
      ≡ answered_at (point (state_with (record { 0 = get_or s 0 0 }) (tables_of t)) (store_of m h)) (sent kind buffer)
      → outcome 0 (point (state_of (f ++ (t' ++ drop tables_size b))) (store_of m' (h' ++ drop stage_size g))) buffer'
      ≡ answered_at (point (state_of s) (store_of m g)) (sent kind buffer)
  unfolding state_of
  reply_back kind t' m m' g h h' buffer buffer' l k x =
      let back : state_of (f ++ (t' ++ drop tables_size b)) ≡ state_with (state_of s).level (tables_of t') = rw (p, q) (rw e at (state_back s t' e)) in
      rw (back, none_left stage_size g l, append-nil) (rw (lent_adapter, all_lent stage_size g h l k) at x)

-- ---- the call

-- the error of a call that gave one
pub error_told : {A : Type 0} (r : Result A CallError) (error : CallError) (n : ℕ) → r ≡ Err error → call_of r ≡ n → error_number error ≡ n
error_told r error n p q = sym (ap call_of p) ∙ q

-- its number is that of a check before the buffer's
pub number_first : (f : Form) (number buffer : ℕ) (error : CallError) → error_number error ≡ number → error_number error ≡ buffer_number f number buffer
unfolding buffer_number
number_first f number buffer error h = rw (← h, ne_eqb (error_number error) 0 (error_some error)) refl

-- its number is another one than 0
pub untouched_by : (kind : Kind) (call n : ℕ) (p : Point) (buffer : List ℕ) → call ≡ n → outcome call p buffer ≡ untouched n p (sent kind buffer)
untouched_by kind call n p buffer e = rw e

module _ (kind : Kind) (state : List ℕ) (store : Store) (buffer : List ℕ) where
  pub request_whole : (call : ℕ) (state' : List ℕ) (store' : Store) (buffer' : List ℕ) → length state ≡ state_size → length state' ≡ length state
      → outcome call (point (state_of state') store') buffer' ≡ handled (point (state_of state) store) (sent kind buffer)
      → RequestCall kind state store buffer call state' store' buffer'
  request_whole call state' store' buffer' e l p =
      record {
        size = l;
        whole = λ _. p;
        other_call = λ n. absurd (n e);
        other_state = λ n. absurd (n e);
        other_store = λ n. absurd (n e);
        other_buffer = λ n. absurd (n e);
      }

  pub request_other : (length state ≡ state_size → ⊥) → RequestCall kind state store buffer bad_state state store buffer
  request_other n =
      record {
        size = refl;
        whole = λ e. absurd (n e);
        other_call = λ _. refl;
        other_state = λ _. refl;
        other_store = λ _. refl;
        other_buffer = λ _. refl;
      }

  -- where the state is lent as an array
  pub request_lent : (call : ℕ) (t t' : List ℕ) (store' : Store) (buffer' : List ℕ) → length state ≡ state_size → length t' ≡ state_size → t ≡ take state_size state
      → outcome call (point (state_of t') store') buffer' ≡ handled (point (state_of t) store) (sent kind buffer)
      → RequestCall kind state store buffer call (t' ++ drop state_size state) store' buffer'
  request_lent call t t' store' buffer' e l u p =
      rw (none_left state_size state e, append-nil)
      (request_whole call t' store' buffer' e (l ∙ sym e) (rw (all_lent state_size state t e u) at p))
