-- What a request that sees no disk leaves (document 01, "Request", codes 21 and 22; W-207, a commit). Assumes nothing.
use Rattle.std.specs.Prelude.{List, ℕ}
use Rattle.adapter.specs.Adapter.{Adapter}

-- the return code, and the tables and counters
pub record Stored : Type 0 where
  pub code : ℕ
  pub adapter : Adapter

abbrev pub gives : ℕ → Adapter → Stored
gives code ad = record { code = code; adapter = ad }

-- the body too
pub record Changed : Type 0 where
  pub code : ℕ
  pub adapter : Adapter
  pub body : List ℕ

abbrev pub leaves : ℕ → Adapter → List ℕ → Changed
leaves code ad body = record { code = code; adapter = ad; body = body }

abbrev pub with_body : Stored → List ℕ → Changed
with_body s body = leaves s.code s.adapter body
