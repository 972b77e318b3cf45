-- What the program's loop and its parts go by. Assumes nothing.
use mathlib.Core.Path.{◌≡◌, refl, sym, ◌∙◌, ap}
use mathlib.Core.Bool.{Bool, false, false≢true}
use mathlib.Core.List.{List}
use Prim.Native.Nat.{ℕ, ◌+◌, ◌-◌, ◌<◌, ◌≤◌}
use native.Mathlib.Omega.{arith}
use borrow.Author.Rules.{rules}
use Rattle.tally.specs.declared.Line.{Line}
use Rattle.tally.specs.Taken.{Taken, Handled, Cut, End}
use Rattle.tally.specs.Totals.{Totals, no_totals, counted, after, is_last, Sums}
use Rattle.tally.proofs.TotalsLaws.{counted_sums}
use Rattle.header.specs.declared.Kind.TheVariants.{Srb}
use Rattle.service.specs.Serve.{Store}
use Rattle.dispatch.specs.Request.{RequestCall}
use Rattle.simulator.specs.Line.{code_in, HandledBy}

pub handled_line : (taken : Taken) (l : Line) (state : List ℕ) (store : Store) (buffer state' : List ℕ) (store' : Store) (buffer' : List ℕ) → taken ≡ Handled l
    → RequestCall Srb state store buffer l.call state' store' buffer' → l.code ≡ code_in l.call buffer' → HandledBy taken state store buffer state' store' buffer'
handled_line taken l state store buffer state' store' buffer' e p q = record { line = l; takes = e; call = p; code = q }

-- ---- the loop

pub loop_none : (t : Totals) → t ≡ no_totals → Sums t
loop_none t e = rw e refl

pub loop_first : (t : Totals) (m : ℕ) → t ≡ no_totals → t.requests ≤ m
loop_first t m e = rw e (omega arith)

pub loop_sums : (s t : Totals) (x : Taken) → Sums t → s ≡ after t x → Sums s
loop_sums s t (Handled l) h e = rw e (counted_sums t l h)
loop_sums s t Cut h e = rw e h
loop_sums s t End h e = rw e h

-- what is not the last was counted
loop_counted : (s t : Totals) (x : Taken) (b : Bool) → s ≡ after t x → b ≡ is_last x → b ≡ false → s.requests ≡ t.requests + 1
unfolding counted
loop_counted s t (Handled l) b e p q = rw e refl
loop_counted s t Cut b e p q = absurd (false≢true (sym q ∙ p))
loop_counted s t End b e p q = absurd (false≢true (sym q ∙ p))

pub loop_below : (s t : Totals) (x : Taken) (b : Bool) (m : ℕ) → s ≡ after t x → b ≡ is_last x → b ≡ false → t.requests < m → s.requests ≤ m
loop_below s t x b m e p q h = rw (loop_counted s t x b e p q) (omega arith)

pub loop_less : (s t : Totals) (x : Taken) (b : Bool) (m : ℕ) → s ≡ after t x → b ≡ is_last x → b ≡ false → t.requests < m → m - s.requests < m - t.requests
loop_less s t x b m e p q h = rw (loop_counted s t x b e p q) (omega arith)

pub loop_next : (s t : Totals) (x : Taken) (b : Bool) (n : ℕ) → s ≡ after t x → b ≡ is_last x → b ≡ false → Sums t × (t.requests + 1 ≡ n) → Sums s × (s.requests + 1 ≡ n + 1)
loop_next s t x b n e p q h = (loop_sums s t x h.0 e, ap (λ (m : ℕ). m + 1) (loop_counted s t x b e p q ∙ h.1))

pub ruleset session_loop = (loop_none, loop_first, loop_sums, loop_below, loop_less, rules)
