-- Every line has exactly one kind. Assumes nothing.
use mathlib.Core.Path.{◌≡◌, refl, sym, ◌∙◌}
use mathlib.Core.Bool.{Bool, true, false, not, ◌&&◌, false≢true}
use lib.Dec.{eqb}
use borrow.Author.Tests.{eqb-true}
use Rattle.laws.specs.Choice.{by_bool, both_left, both_right, and_false}
use Prim.Native.Nat.{◌+◌}
use Rattle.tally.specs.declared.Line.{Line}
use Rattle.tally.specs.Kinds.{LineKind, Granted, Denied, Otherwise, Short, is_granted, is_denied, is_short, is_otherwise, is, Partition}
use Rattle.tally.specs.Totals.{one}

-- the fourth kind, by the three tests
pub otherwise_by : (l : Line) (a b d : Bool) → a ≡ is_granted l → b ≡ is_denied l → d ≡ is_short l → not a && (not b && not d) ≡ is_otherwise l
otherwise_by l a b d p q r = rw (p, q, r)

-- the three that the numbers show shut each other out
granted_denied : (l : Line) → is_granted l ≡ true → is_denied l ≡ false
granted_denied l p =
    rw (eqb-true l.code 0 (both_right (eqb l.call 0) (eqb l.code 0) p), eqb-true l.call 0 (both_left (eqb l.call 0) (eqb l.code 0) p)) refl

granted_short : (l : Line) → is_granted l ≡ true → is_short l ≡ false
granted_short l p = rw (eqb-true l.call 0 (both_left (eqb l.call 0) (eqb l.code 0) p)) refl

pub denied_short : (l : Line) → is_denied l ≡ true → is_short l ≡ false
denied_short l p = rw (eqb-true l.call 0 (both_left (eqb l.call 0) (eqb l.code 4) p)) refl

pub denied_granted : (l : Line) → is_denied l ≡ true → is_granted l ≡ false
denied_granted l p =
    by_bool (λ (b : Bool). is_granted l ≡ b → is_granted l ≡ false) (λ e. absurd (false≢true (sym (granted_denied l e) ∙ p))) (λ e. e) (is_granted l) refl

pub denied_otherwise : (l : Line) → is_denied l ≡ true → is_otherwise l ≡ false
denied_otherwise l p = rw (p, and_false) refl

-- which of three tests that shut each other out held, if any
which : Bool → Bool → Bool → LineKind
which true d s = Granted
which false true s = Denied
which false false true = Short
which false false false = Otherwise

-- a line's kind
line_kind : Line → LineKind
line_kind l = which (is_granted l) (is_denied l) (is_short l)

abbrev holds : Bool → Bool → Bool → LineKind → Bool
holds g d s Granted = g
holds g d s Denied = d
holds g d s Otherwise = not g && (not d && not s)
holds g d s Short = s

is_holds : (k : LineKind) (l : Line) → is k l ≡ holds (is_granted l) (is_denied l) (is_short l) k
is_holds Granted l = refl
is_holds Denied l = refl
is_holds Otherwise l = refl
is_holds Short l = refl

-- it is the only kind
which_only : (g d s : Bool) → (g ≡ true → d ≡ false) → (g ≡ true → s ≡ false) → (d ≡ true → s ≡ false) → (k : LineKind) → holds g d s k ≡ true → k ≡ which g d s
unfolding which
which_only true d s gd gs ds Granted p = refl
which_only true d s gd gs ds Denied p = absurd (false≢true (sym (gd refl) ∙ p))
which_only true d s gd gs ds Otherwise p = absurd (false≢true p)
which_only true d s gd gs ds Short p = absurd (false≢true (sym (gs refl) ∙ p))
which_only false true s gd gs ds Granted p = absurd (false≢true p)
which_only false true s gd gs ds Denied p = refl
which_only false true s gd gs ds Otherwise p = absurd (false≢true p)
which_only false true s gd gs ds Short p = absurd (false≢true (sym (ds refl) ∙ p))
which_only false false true gd gs ds Granted p = absurd (false≢true p)
which_only false false true gd gs ds Denied p = absurd (false≢true p)
which_only false false true gd gs ds Otherwise p = absurd (false≢true p)
which_only false false true gd gs ds Short p = refl
which_only false false false gd gs ds Granted p = absurd (false≢true p)
which_only false false false gd gs ds Denied p = absurd (false≢true p)
which_only false false false gd gs ds Otherwise p = refl
which_only false false false gd gs ds Short p = absurd (false≢true p)

which_holds : (g d s : Bool) → holds g d s (which g d s) ≡ true
unfolding which
which_holds true d s = refl
which_holds false true s = refl
which_holds false false true = refl
which_holds false false false = refl

kind_only : (k : LineKind) (l : Line) → is k l ≡ true → k ≡ line_kind l
unfolding line_kind
kind_only k l p =
    which_only (is_granted l) (is_denied l) (is_short l) (granted_denied l) (granted_short l) (denied_short l) k (sym (is_holds k l) ∙ p)

kind_holds : (l : Line) → is (line_kind l) l ≡ true
unfolding line_kind
kind_holds l = is_holds (which (is_granted l) (is_denied l) (is_short l)) l ∙ which_holds (is_granted l) (is_denied l) (is_short l)

pub partition : Partition
partition l = record { kind = line_kind l; has = kind_holds l; only = λ k p. kind_only k l p }

-- so it counts once
which_counts : (g d s : Bool) → (g ≡ true → d ≡ false) → (g ≡ true → s ≡ false) → (d ≡ true → s ≡ false)
    → one g + one d + one (not g && (not d && not s)) + one s ≡ 1
which_counts true d s gd gs ds = rw (gd refl, gs refl) refl
which_counts false true s gd gs ds = rw (ds refl) refl
which_counts false false true gd gs ds = refl
which_counts false false false gd gs ds = refl

pub counts_once : (l : Line) → one (is Granted l) + one (is Denied l) + one (is Otherwise l) + one (is Short l) ≡ 1
counts_once l = which_counts (is_granted l) (is_denied l) (is_short l) (granted_denied l) (granted_short l) (denied_short l)
