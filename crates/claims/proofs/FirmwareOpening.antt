-- An opening leaves nothing staged. Assumes nothing.
use mathlib.Core.Path.{◌≡◌, refl}
use mathlib.Core.List.{List}
use Prim.Native.Nat.{ℕ}
use native.Mathlib.Decide.{ℕ_discrete}
use Rattle.contents.specs.Contents.{adapter_of}
use Rattle.adapter.specs.Staged.{nothing_staged}
use Rattle.adapter.specs.Adapter.{zero_adapter}
use Rattle.state.specs.State.{zero_state}
use Rattle.state.specs.Open.{opened_of}
use Rattle.state.proofs.AcceptedLaws.{open_accepted}
use Rattle.claims.proofs.Demand3.{opened_zero}

pub opened_none : (text file medium : List ℕ) → (opened_of text file medium).state.adapter.staged ≡ nothing_staged
unfolding adapter_of zero_state zero_adapter
opened_none text file medium = at (ℕ_discrete (opened_of text file medium).call 0)
  where
    at : Dec ((opened_of text file medium).call ≡ 0) → (opened_of text file medium).state.adapter.staged ≡ nothing_staged
    at (yes e) = rw (open_accepted text file medium e).opened refl
    at (no n) = rw (opened_zero text file medium n) refl
