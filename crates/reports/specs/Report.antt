-- What a request that only reports leaves (document 01, "Request", codes 1, 20, 26, 27 and 28; W-204's 2, 3 and 30): its return code and its body. It changes
-- no table, no counter and no disk. "Bytes that no line below fills stay".
-- Assumes nothing.
use Rattle.std.specs.Prelude.{List, ℕ}
use Rattle.codes.specs.Codes.{success}

-- the return code and the body
pub record Report : Type 0 where
  pub code : ℕ
  pub body : List ℕ

abbrev pub report : ℕ → List ℕ → Report
report code body = record { code = code; body = body }

-- a body that was filled in
abbrev pub filled : List ℕ → Report
filled body = report success body
