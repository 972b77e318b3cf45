-- A table of cases, each of which holds: one statement over all of them, proved by computation. Assumes nothing.
use Rattle.std.specs.Prelude.{◌≡◌, List, [], ◌∷◌, ℕ}

-- P holds of each element of a list
abbrev pub All : {A : Type 0} → (A → Type 0) → List A → Type 0
All P [] = Unit {0}
All P (x ∷ xs) = P x × All P xs

-- a case that document 01 stars: what the definitions give, and what it says
pub record Case : Type 0 where
  pub gives : List ℕ
  pub said : List ℕ

abbrev pub Holds : Case → Type 0
Holds c = c.gives ≡ c.said
