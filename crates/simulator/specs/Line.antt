-- What the program's line of a request shows beside its number (document 01, "Starred cases", its last paragraphs). Assumes nothing.
use Rattle.std.specs.Prelude.{◌≡◌, cond, List, ℕ, eqb, leb, length}
use Rattle.tally.specs.declared.Line.{Line}
use Rattle.tally.specs.Taken.{Taken, Handled}
use Rattle.tally.specs.Kinds.{no_code}
use Rattle.header.specs.declared.Kind.TheVariants.{Srb}
use Rattle.header.specs.Form.{srb, return_code}
use Rattle.service.specs.Serve.{Store}
use Rattle.dispatch.specs.Request.{RequestCall}

-- "the return code or `-`": that of a reply, which has its header, where the call's number is 0
unfoldable pub code_in : ℕ → List ℕ → ℕ
code_in call buffer = cond (eqb call 0) (cond (leb srb.size (length buffer)) (return_code srb buffer) no_code) no_code

-- what was taken is the line of a request that was handled
pub record HandledBy (taken : Taken) (state : List ℕ) (store : Store) (buffer state' : List ℕ) (store' : Store) (buffer' : List ℕ) : Type 0 where
  pub line : Line
  pub takes : taken ≡ Handled line
  pub call : RequestCall Srb state store buffer line.call state' store' buffer'
  pub code : line.code ≡ code_in line.call buffer'
