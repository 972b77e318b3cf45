-- A state's bytes are given by the state that they stand for, so a contract over the state says what becomes of every byte: two states of
-- bytes that stand for one state are the same bytes, and an opening leaves one number and one list of bytes. Assumes nothing.
use mathlib.Core.Path.{◌≡◌, sym, ◌∙◌, ap}
use mathlib.Core.List.{List, [], ◌∷◌}
use Prim.Native.Nat.{ℕ, suc}
use native.Mathlib.Omega.{arith}
use native.Mathlib.Decide.{ℕ_discrete}
use lib.ListN.{length}
use Rattle.wire.proofs.NumberLaws.{Bytes}
use Rattle.tables.proofs.SameLaws.{tables_same}
use Rattle.state.specs.State.{State, state_size, state_of}
use Rattle.state.specs.Open.{Opened, OpenCall}

pub state_same : (s t : List ℕ) → length s ≡ state_size → length t ≡ state_size → Bytes s → Bytes t → state_of s ≡ state_of t → s ≡ t
unfolding state_of
state_same [] t p q h k e = absurd (omega arith)
state_same (x ∷ s) [] p q h k e = absurd (omega arith)
state_same (x ∷ s) (y ∷ t) p q h k e =
    let a : x ≡ y = ap (λ (r : State). r.level.0) e in
    let b : s ≡ t = tables_same s t (omega arith) (omega arith) (λ i. h (suc i)) (λ i. k (suc i)) (ap (λ (r : State). r.adapter) e) in
    rw (a, b)

-- two callers with the same bytes are left the same number and the same bytes
module _ (text file medium state : List ℕ) (c d : ℕ) (a b : List ℕ) (o : OpenCall text file medium state c a) (q : OpenCall text file medium state d b) where
  pub open_same_call : c ≡ d
  open_same_call = at (ℕ_discrete (length state) state_size)
    where
      at : Dec (length state ≡ state_size) → c ≡ d
      at (yes e) = ap (λ (r : Opened). r.call) (o.whole e ∙ sym (q.whole e))
      at (no n) = o.other_call n ∙ sym (q.other_call n)

  pub open_same_state : Bytes a → Bytes b → a ≡ b
  open_same_state h k = at (ℕ_discrete (length state) state_size)
    where
      at : Dec (length state ≡ state_size) → a ≡ b
      at (yes e) = state_same a b (o.size ∙ e) (q.size ∙ e) h k (ap (λ (r : Opened). r.state) (o.whole e ∙ sym (q.whole e)))
      at (no n) = o.other_state n ∙ sym (q.other_state n)
