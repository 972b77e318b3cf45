-- What a request leaves is fixed to the byte: two callers with the same state, medium, stage and buffer are left the same. Assumes nothing.
use mathlib.Core.Path.{◌≡◌, sym, ◌∙◌, ap}
use mathlib.Core.List.{List}
use Prim.Native.Nat.{ℕ}
use native.Mathlib.Decide.{ℕ_discrete}
use lib.ListN.{length}
use Rattle.wire.proofs.NumberLaws.{Bytes}
use Rattle.header.specs.declared.Kind.{Kind}
use Rattle.state.specs.State.{state_size, state_of}
use Rattle.state.proofs.SameLaws.{state_same}
use Rattle.service.specs.Serve.{Store}
use Rattle.dispatch.specs.Request.{Outcome, point, outcome, RequestCall}

module _ (kind : Kind) (state : List ℕ) (store : Store) (buffer : List ℕ) (c d : ℕ) (s t : List ℕ) (m n : Store) (b r : List ℕ) (o : RequestCall kind state store buffer c s m b)
    (q : RequestCall kind state store buffer d t n r)
  where
    pub request_same_state : Bytes s → Bytes t → s ≡ t
    request_same_state h k = at (ℕ_discrete (length state) state_size)
      where
        at : Dec (length state ≡ state_size) → s ≡ t
        at (yes e) = state_same s t (o.size ∙ e) (q.size ∙ e) h k (ap (λ (x : Outcome). x.point.state) (o.whole e ∙ sym (q.whole e)))
        at (no z) = o.other_state z ∙ sym (q.other_state z)

    pub request_same : (c ≡ d) × (m ≡ n) × (b ≡ r)
    request_same = at (ℕ_discrete (length state) state_size)
      where
        at : Dec (length state ≡ state_size) → (c ≡ d) × (m ≡ n) × (b ≡ r)
        at (yes e) =
            let x : outcome c (point (state_of s) m) b ≡ outcome d (point (state_of t) n) r = o.whole e ∙ sym (q.whole e) in
            (ap (λ (y : Outcome). y.call) x, ap (λ (y : Outcome). y.point.store) x, ap (λ (y : Outcome). y.buffer) x)
        at (no z) = (o.other_call z ∙ sym (q.other_call z), o.other_store z ∙ sym (q.other_store z), o.other_buffer z ∙ sym (q.other_buffer z))
