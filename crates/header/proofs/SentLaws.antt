-- A request under either header: what its checks tell, and what the level does. Assumes nothing.
use mathlib.Core.Path.{◌≡◌, refl, sym, ◌∙◌}
use mathlib.Core.Bool.{Bool, true, false, cond, ◌&&◌}
use mathlib.Core.List.{List}
use Prim.Native.Nat.{ℕ, ◌+◌, ◌-◌, ◌≤◌}
use native.Mathlib.Nat.{le_trans}
use native.Mathlib.Omega.{arith}
use lib.Dec.{eqb, leb, ltb}
use lib.ListN.{length, take, drop, length-drop}
use borrow.Author.Tests.{leb-true, le-ltb, ltb-false, eq-eqb, eqb-true}
use Rattle.laws.specs.Choice.{by_bool, both_left, both_right, came_then, came_else, either, and_false}
use Rattle.laws.specs.Splice.{rest}
use Rattle.codes.specs.Codes.{success, write_attempted}
use Rattle.level.specs.declared.Level.{Level}
use Rattle.level.specs.Text.{full}
use Rattle.header.specs.declared.Kind.{Kind}
use Rattle.header.specs.declared.Kind.TheVariants.{Srb, Linux}
use Rattle.header.specs.Form.{srb, linux}
use Rattle.control_codes.specs.Table.{known, structure_size, data_size, need}
use Rattle.header.specs.Srb.{header_length, control_code, length_field, srb_body, signature_holds, length_holds, code_checked, srb_code}
use Rattle.header.specs.Linux.{linux_length, linux_body, direction_holds, linux_length_holds, linux_code}
use Rattle.header.specs.Sent.{Request, sent, form_by, control_by, code_by, level_by, form_of, control_of, body_of, HasStructure, header_code, above, refused_by_level, checks_code}
use Rattle.control_codes.proofs.TableLaws.{need_full}
use Rattle.header.proofs.LengthLaws.{length_room}

-- ---- fields, as they were read

pub control_srb : (kind : Kind) (buffer : List ℕ) (r : ℕ) → kind ≡ Srb → r ≡ control_code buffer → r ≡ control_by kind buffer
control_srb kind buffer r k e = rw k e

pub checked_by : (buffer : List ℕ) (control r : ℕ) → control ≡ control_code buffer → r ≡ code_checked control buffer → r ≡ code_checked (control_code buffer) buffer
checked_by buffer control r e p = rw e at p

-- ---- the body, lent as the rest of the buffer

module _ (buffer : List ℕ) (code : ℕ) where
  pub length_by : (n m : ℕ) (r : Bool) → m ≡ n → r ≡ length_holds code m (take (length buffer - 28) (drop 28 buffer)) → r ≡ length_holds code n (srb_body buffer)
  length_by n m r e p = p ∙ rw (rest, e)

  pub room_by : code ≡ control_code buffer → structure_size (control_code buffer) ≤ length (srb_body buffer)
      → structure_size code ≤ length (take (length buffer - 28) (drop 28 buffer))
  room_by e h = rw (rest, e) h

  pub above_by : (level n : Level) → code ≡ control_code buffer → n ≡ need code (take (length buffer - 28) (drop 28 buffer)) → ltb level.0 n.0 ≡ above level (sent Srb buffer)
  unfolding above
  above_by level n e p = rw (p, rest, e)

-- ---- a header that passed

Passes : ℕ → Type 0
Passes code = code ≡ 0

-- its structure and its data are there
srb_room : (buffer : List ℕ) → srb_code buffer ≡ 0 → HasStructure (sent Srb buffer)
unfolding srb_code code_checked Passes
srb_room buffer h =
    let a = came_then Passes (eqb (header_length buffer) 28) (λ e. omega arith) h in
    let b = came_then Passes (known (control_code buffer)) (λ e. omega arith) a.1 in
    let c = came_then Passes (signature_holds (control_code buffer) buffer) (λ e. omega arith) b.1 in
    let d = came_then Passes (length_holds (control_code buffer) (length_field buffer) (srb_body buffer)) (λ e. omega arith) c.1 in
    length_room (control_code buffer) (length_field buffer) (srb_body buffer) d.0

linux_room : (control : ℕ) (buffer : List ℕ) → linux_code control buffer ≡ 0 → HasStructure (sent (Linux control) buffer)
unfolding linux_code linux_length_holds Passes
linux_room control buffer h =
    let a = came_then Passes (direction_holds buffer) (λ e. omega arith) h in
    let b = came_then Passes (known control) (λ e. omega arith) a.1 in
    let c = came_then Passes (linux_length_holds control buffer) (λ e. omega arith) b.1 in
    let size : ℕ = structure_size control + data_size control (linux_body buffer) in
    let n : ℕ = linux_length buffer in
    let least : 20 + size ≤ n = leb-true (20 + size) n (both_left (leb (20 + size) n) (leb n (length buffer)) c.0) in
    let most : n ≤ length buffer = leb-true n (length buffer) (both_right (leb (20 + size) n) (leb n (length buffer)) c.0) in
    rw (length-drop 20 buffer) (omega arith)

header_room : (r : Request) → header_code r ≡ 0 → HasStructure r
header_room r = by_kind r.kind r.buffer
  where
    by_kind : (kind : Kind) (buffer : List ℕ) → code_by kind buffer ≡ 0 → HasStructure (sent kind buffer)
    by_kind Srb buffer = srb_room buffer
    by_kind (Linux control) buffer = linux_room control buffer

-- the same of a callee's answer
pub structure_room : (buffer : List ℕ) (code : ℕ) → code ≡ srb_code buffer → code ≡ 0 → structure_size (control_code buffer) ≤ length (srb_body buffer)
structure_room buffer code e z = omega (arith, srb_room buffer (sym e ∙ z))

-- the return code is in the header
pub form_room : (r : Request) → (form_of r).place + 4 ≤ (form_of r).size
form_room r = by_kind r.kind
  where
    by_kind : (kind : Kind) → (form_by kind).place + 4 ≤ (form_by kind).size
    by_kind Srb = omega arith
    by_kind (Linux control) = omega arith

-- ---- held to Full

-- no need is above Full, so a request that is held to Full is never denied, and its checks end before the level: one under the Linux header at every level, one
-- under the first at Full
module _ (level : Level) (r : Request) (h : level_by r.kind level ≡ full) where
  full_above : above level r ≡ false
  unfolding above
  full_above = rw h (le-ltb full.0 (need (control_of r) (body_of r)).0 (need_full (control_of r) (body_of r)))

  pub never_refused : refused_by_level level r ≡ false
  unfolding refused_by_level
  never_refused = rw full_above (and_false (eqb (header_code r) success))

  pub full_checks : checks_code level r ≡ header_code r
  unfolding checks_code
  full_checks =
      rw full_above (by_bool (λ (t : Bool). eqb (header_code r) success ≡ t → cond t success (header_code r) ≡ header_code r)
      (λ z. sym (eqb-true (header_code r) success z)) (λ _. refl) (eqb (header_code r) success) refl)

-- ---- a match on the kind

pub srb_size : (kind : Kind) (n : ℕ) → kind ≡ Srb → (form_by kind).size ≤ n → srb.size ≤ n
srb_size kind n e h = rw e at h

pub linux_size : (kind : Kind) (control n : ℕ) → kind ≡ Linux control → (form_by kind).size ≤ n → linux.size ≤ n
linux_size kind control n e h = rw e at h

pub srb_access : (kind : Kind) (level : Level) (buffer : List ℕ) (code : ℕ) → kind ≡ Srb → code ≡ checks_code level (sent Srb buffer)
    → code ≡ checks_code level (sent kind buffer)
srb_access kind level buffer code e p = rw e p

pub linux_access : (kind : Kind) (level : Level) (control : ℕ) (buffer : List ℕ) (code : ℕ) → kind ≡ Linux control → code ≡ linux_code control buffer
    → code ≡ checks_code level (sent kind buffer)
linux_access kind level control buffer code e p = rw e (p ∙ sym (full_checks level (sent (Linux control) buffer) refl))

-- ---- the checks up to the level

-- those of the header give 0, 2 or 3
header_small : (r : Request) → header_code r ≤ 3
unfolding srb_code code_checked linux_code
header_small r = by_kind r.kind r.buffer
  where
    Small : ℕ → Type 0
    Small n = n ≤ 3

    by_kind : (kind : Kind) (buffer : List ℕ) → code_by kind buffer ≤ 3
    by_kind Srb buffer =
        either Small (eqb (header_length buffer) srb.size)
        (either Small (known (control_code buffer))
        (either Small (signature_holds (control_code buffer) buffer)
        (either Small (length_holds (control_code buffer) (length_field buffer) (srb_body buffer)) (omega arith) (omega arith)) (omega arith)) (omega arith))
        (omega arith)
    by_kind (Linux control) buffer =
        either Small (direction_holds buffer)
        (either Small (known control) (either Small (linux_length_holds control buffer) (omega arith) (omega arith)) (omega arith)) (omega arith)

module _ (level : Level) (r : Request) where
  checks_header : checks_code level r ≡ 0 → header_code r ≡ 0
  unfolding checks_code
  checks_header h =
      by_bool (λ (b : Bool). eqb (header_code r) 0 ≡ b → cond b (cond (above level r) write_attempted success) (header_code r) ≡ 0 → header_code r ≡ 0)
      (λ e _. eqb-true (header_code r) 0 e) (λ _ z. z) (eqb (header_code r) 0) refl h

  -- a request that passes them has its structure and its data
  pub checks_room : checks_code level r ≡ 0 → HasStructure r
  checks_room h = header_room r (checks_header h)

  -- and its need is at most the level that it is held to
  pub checks_need : checks_code level r ≡ 0 → (need (control_of r) (body_of r)).0 ≤ (level_by r.kind level).0
  unfolding checks_code above Passes
  checks_need h =
      let k : cond (above level r) write_attempted success ≡ 0 = rw (eq-eqb (header_code r) success (checks_header h)) at h in
      ltb-false (level_by r.kind level).0 (need (control_of r) (body_of r)).0 (came_else Passes (above level r) (λ e. omega arith) k).0

  -- their code is small
  pub checks_small : checks_code level r ≤ 4
  unfolding checks_code
  checks_small =
      let h : header_code r ≤ 3 = header_small r in
      either (λ (n : ℕ). n ≤ 4) (eqb (header_code r) success) (either (λ (n : ℕ). n ≤ 4) (above level r) (omega arith) (omega arith)) (omega arith)

  -- and not 4 unless the level refuses
  pub checks_other : refused_by_level level r ≡ false → checks_code level r ≤ 3
  unfolding refused_by_level checks_code
  checks_other h =
      by_bool (λ (b : Bool). b && above level r ≡ false → cond b (cond (above level r) write_attempted success) (header_code r) ≤ 3)
      (λ e. rw e (omega arith)) (λ _. header_small r) (eqb (header_code r) success) h

  -- one that the level refuses is answered 4
  pub checks_refused : refused_by_level level r ≡ true → checks_code level r ≡ write_attempted
  unfolding refused_by_level checks_code
  checks_refused h =
      rw (both_left (eqb (header_code r) success) (above level r) h, both_right (eqb (header_code r) success) (above level r) h) refl

module _ (l m : Level) (r : Request) (h : l.0 ≤ m.0) where
  held_higher : (kind : Kind) → (level_by kind l).0 ≤ (level_by kind m).0
  held_higher Srb = h
  held_higher (Linux control) = omega arith

  above_higher : above l r ≡ false → above m r ≡ false
  unfolding above
  above_higher a =
      let n : ℕ = (need (control_of r) (body_of r)).0 in
      le-ltb (level_by r.kind m).0 n (le_trans (ltb-false (level_by r.kind l).0 n a) (held_higher r.kind))

  -- one that it does not refuse is answered the same at a higher level
  pub checks_higher : refused_by_level l r ≡ false → checks_code l r ≡ checks_code m r
  unfolding refused_by_level checks_code
  checks_higher a =
      by_bool
      (λ (t : Bool). t && above l r ≡ false
      → cond t (cond (above l r) write_attempted success) (header_code r) ≡ cond t (cond (above m r) write_attempted success) (header_code r))
      (λ f. rw (f, above_higher f) refl) (λ _. refl) (eqb (header_code r) success) a
