-- One request: a denied one changes its return code alone, and the level stays. Assumes nothing.
use mathlib.Core.Path.{◌≡◌, refl}
use mathlib.Core.Bool.{Bool, true, false, cond}
use Prim.Native.Nat.{ℕ}
use lib.Dec.{eqb}
use Rattle.laws.specs.Choice.{and_false, both_left, both_right, either}
use Rattle.header.specs.declared.Kind.TheVariants.{Linux}
use Rattle.header.specs.Sent.{Request, refused_by_level}
use Rattle.dispatch.specs.Request.{Point, Outcome, outcome, call_number, answered, answered_at, handled}
use Rattle.header.proofs.SentLaws.{never_refused, checks_refused}
use Rattle.claims.specs.Run.{denied, denial}

-- ---- denied

pub denied_step : (p : Point) (r : Request) → denied p r ≡ true → handled p r ≡ outcome 0 p (denial r).buffer
unfolding denied handled answered_at answered
denied_step p r h =
    let a : Bool = eqb (call_number p r) 0 in
    let b : Bool = refused_by_level p.state.level r in
    rw (both_left a b h, checks_refused p.state.level r (both_right a b h)) refl

-- a request under the Linux header never is
pub linux_given : (p : Point) (r : Request) (control : ℕ) → r.kind ≡ Linux control → denied p r ≡ false
unfolding denied
linux_given p r control e =
    rw (never_refused p.state.level r (rw e refl)) (and_false (eqb (call_number p r) 0))

-- ---- the level stays

pub level_kept : (p : Point) (r : Request) → (handled p r).point.state.level ≡ p.state.level
unfolding handled answered_at
level_kept p r = either (λ (o : Outcome). o.point.state.level ≡ p.state.level) (eqb (call_number p r) 0) refl refl

-- ---- two tests

-- what two tests that come out the same choose
pub alike : {A : Type 0} (R : A → A → Type 0) (t : Bool) {a b c d : A} → (t ≡ true → R a c) → R b d → R (cond t a b) (cond t c d)
alike R true p q = p refl
alike R false p q = q
