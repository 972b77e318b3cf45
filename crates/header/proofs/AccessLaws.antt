-- The checks of either header in the code's order, which gives up at the first that fails. Assumes nothing.
use Rattle.std.proofs.Common.{◌≡◌, refl, sym, ◌∙◌, ap, ℕ, ◌<◌, ◌≤◌, Bool, true, false, eqb, ltb, List, length, Result, Ok, Err, is_lt, nat_cmp, Less, Equal, Greater, eqb-true, arith}
use borrow.Author.Tests.{ltb-true, ltb-false, eqb-false}
use Rattle.std.specs.Cmp.{nat_cmp_is}
use Rattle.laws.specs.Choice.{by_bool}
use Rattle.std.specs.Result.{IsErr, IsErrAnd}
use Rattle.codes.specs.Codes.{success, invalid_parameter, write_attempted}
use Rattle.codes.specs.Numbers.{return_number, code_of, control_code_of}
use Rattle.codes.specs.declared.control_code.ControlCode.{ControlCode}
use Rattle.codes.specs.declared.control_code.UnknownControlCode.{UnknownControlCode}
use Rattle.codes.specs.declared.return_code.ReturnCode.{ReturnCode}
use Rattle.codes.specs.declared.return_code.ReturnCode.TheVariants.{Failed, BadControlCode, InvalidParameter, WriteAttempted, PhyInfoNotChangeable, LinkRateOutOfRange, PhyDoesNotExist, PhyDoesNotMatchPort, SelectPhyOrPort, PortDoesNotExist, ConnectionFailed, NoSataDevice, NoSataSignature, NoScsiAddress, NoDeviceAddress}
use Rattle.level.specs.declared.Level.{Level}
use Rattle.control_codes.specs.Table.{known, structure_size, need}
use Rattle.control_codes.proofs.KnownLaws.{known_ok, known_err}
use Rattle.header.specs.declared.Kind.TheVariants.{Srb}
use Rattle.header.specs.Srb.{header_length, control_code, length_field, srb_body, signature_holds, length_holds, code_checked, srb_code}
use Rattle.header.specs.Linux.{direction_holds, linux_length_holds, linux_code}
use Rattle.header.specs.Sent.{sent, above, checks_code}
use Rattle.header.proofs.SentLaws.{structure_room}

-- ---- the Linux header, up to its Length

module _ (control : ℕ) (buffer : List ℕ) (d l : Bool) (r : Result ControlCode UnknownControlCode) (code : ControlCode)
    (p : d ≡ direction_holds buffer) (q : d ≡ true) (e : r ≡ control_code_of control) (f : r ≡ Ok code) (g : l ≡ linux_length_holds control buffer) where
  pub linux_long : l ≡ false → invalid_parameter ≡ linux_code control buffer
  unfolding linux_code
  linux_long h = rw (sym p ∙ q, known_ok control r e code f, sym g ∙ h) refl

  pub linux_passed : l ≡ true → success ≡ linux_code control buffer
  unfolding linux_code
  linux_passed h = rw (sym p ∙ q, known_ok control r e code f, sym g ∙ h) refl

-- ---- the first header, up to its Length

module _ (buffer body : List ℕ) (n control l : ℕ) (s t : Bool) (r : Result ControlCode UnknownControlCode) (code : ControlCode)
    (a : n ≡ header_length buffer) (b : n ≡ 28) (c : control ≡ control_code buffer) (e : r ≡ control_code_of control) (f : r ≡ Ok code)
    (p : s ≡ signature_holds control buffer) (q : s ≡ true) (m : l ≡ length_field buffer) (d : body ≡ srb_body buffer) (g : t ≡ length_holds control l body) where
  length_here : t ≡ length_holds (control_code buffer) (length_field buffer) (srb_body buffer)
  length_here = rw (← m, ← d, ← c) g

  signature_here : signature_holds (control_code buffer) buffer ≡ true
  signature_here = rw (← c) (sym p ∙ q)

  known_here : known (control_code buffer) ≡ true
  known_here = rw (← c) (known_ok control r e code f)

  pub srb_long : t ≡ false → invalid_parameter ≡ srb_code buffer
  unfolding srb_code code_checked
  srb_long h = rw (sym a ∙ b, known_here, signature_here, sym length_here ∙ h) refl

  pub srb_passed : t ≡ true → success ≡ srb_code buffer
  unfolding srb_code code_checked
  srb_passed h = rw (sym a ∙ b, known_here, signature_here, sym length_here ∙ h) refl

-- a code that is not served, as `?` hands it on
pub srb_unknown : (buffer : List ℕ) (n control : ℕ) (r : Result ControlCode UnknownControlCode) (u : UnknownControlCode) (s : Result ControlCode ReturnCode)
    → n ≡ header_length buffer → n ≡ 28 → control ≡ control_code buffer → r ≡ control_code_of control → r ≡ Err u
    → IsErr s × IsErrAnd s (λ y. y ≡ BadControlCode) → code_of s ≡ srb_code buffer
unfolding srb_code code_checked
srb_unknown buffer n control r u (Ok code) a b c e f h = absurd h.1
srb_unknown buffer n control r u (Err y) a b c e f h =
    let k : known (control_code buffer) ≡ false = rw (← c) (known_err control r e u f) in
    ap return_number h.1 ∙ rw (sym a ∙ b, k) refl

-- ---- and its level

-- `<` of two levels
below : (a b : ℕ) → is_lt (nat_cmp a b) ≡ ltb a b
below a b =
    by_bool (λ (t : Bool). ltb a b ≡ t → is_lt (nat_cmp a b) ≡ t) (λ h. ap is_lt (sym (nat_cmp_is a b Less (ltb-true a b h))))
    (λ h. by_bool (λ (t : Bool). eqb a b ≡ t → is_lt (nat_cmp a b) ≡ false) (λ e. ap is_lt (sym (nat_cmp_is a b Equal (eqb-true a b e))))
    (λ e. ap is_lt (sym (nat_cmp_is a b Greater (above_both h e)))) (eqb a b) refl) (ltb a b) refl
  where
    above_both : ltb a b ≡ false → eqb a b ≡ false → b < a
    above_both h e = let l : b ≤ a = ltb-false a b h in let n : (a ≡ b → ⊥) = eqb-false a b e in omega arith

-- a refusal is not success
refused : (code : ReturnCode) → eqb (return_number code) success ≡ false
refused Failed = refl
refused BadControlCode = refl
refused InvalidParameter = refl
refused WriteAttempted = refl
refused PhyInfoNotChangeable = refl
refused LinkRateOutOfRange = refl
refused PhyDoesNotExist = refl
refused PhyDoesNotMatchPort = refl
refused SelectPhyOrPort = refl
refused PortDoesNotExist = refl
refused ConnectionFailed = refl
refused NoSataDevice = refl
refused NoSataSignature = refl
refused NoScsiAddress = refl
refused NoDeviceAddress = refl

module _ (level : Level) (buffer : List ℕ) (r : Result ControlCode ReturnCode) (p : code_of r ≡ srb_code buffer) where
  refused_first : (x : ReturnCode) → r ≡ Err x → return_number x ≡ checks_code level (sent Srb buffer)
  unfolding checks_code
  refused_first x q =
      let z : return_number x ≡ srb_code buffer = rw q at p in
      rw (← z, refused x) refl

  -- a refusal handed on by `?`
  pub handed_on : (x : ReturnCode) (s : Result ControlCode ReturnCode) → r ≡ Err x → IsErr s × IsErrAnd s (λ y. y ≡ x) → code_of s ≡ checks_code level (sent Srb buffer)
  handed_on x (Ok code) q h = absurd h.1
  handed_on x (Err y) q h = ap return_number h.1 ∙ refused_first x q

  module _ (code : ControlCode) (q : r ≡ Ok code) (control : ℕ) (body : List ℕ) (c : control ≡ control_code buffer) (d : body ≡ srb_body buffer) where
    passed : srb_code buffer ≡ 0
    passed = let z : success ≡ srb_code buffer = rw q at p in sym z

    pub need_room : structure_size control ≤ length body
    need_room = rw (c, d) (structure_room buffer (srb_code buffer) refl passed)

    module _ (n : Level) (e : n ≡ need control body) where
      need_here : n ≡ need (control_code buffer) (srb_body buffer)
      need_here = rw (← d, ← c) e

      -- the code's test of the level
      above_here : (b : Bool) → b ≡ is_lt (nat_cmp level.0 n.0) → above level (sent Srb buffer) ≡ b
      unfolding above
      above_here b h = ap (λ (m : Level). ltb level.0 m.0) (sym need_here) ∙ sym (h ∙ below level.0 n.0)

      pub denied : (b : Bool) → b ≡ is_lt (nat_cmp level.0 n.0) → b ≡ true → write_attempted ≡ checks_code level (sent Srb buffer)
      unfolding checks_code
      denied b h t = let a : above level (sent Srb buffer) ≡ true = above_here b h ∙ t in rw (passed, a) refl

      pub granted : (b : Bool) → b ≡ is_lt (nat_cmp level.0 n.0) → b ≡ false → success ≡ checks_code level (sent Srb buffer)
      unfolding checks_code
      granted b h t = let a : above level (sent Srb buffer) ≡ false = above_here b h ∙ t in rw (passed, a) refl
