-- The state of the simulator, the bytes that stand for it, and the rules that 107 tests (document 01, "From the state"; W-207). The rules on counts,
-- fields and rows are the ones that the opening tests. Assumes nothing.
use Rattle.std.specs.Prelude.{Bool, ◌&&◌, List, ℕ, leb, get_or, drop}
use Rattle.level.specs.declared.Level.{Level}
use Rattle.level.specs.Text.{none}
use Rattle.rows.specs.Row.{rows_hold}
use Rattle.adapter.specs.Staged.{staged_holds}
use Rattle.adapter.specs.Adapter.{Adapter, zero_adapter, counts_hold, fields_all, zero_past}
use Rattle.link.specs.All.{negotiated_all}
use Rattle.tables.specs.Tables.{tables_of}

-- "The state is the level and what the file holds": the level apart, so that what serves a request need not see it
pub record State : Type 0 where
  pub level : Level
  pub adapter : Adapter

abbrev pub state_with : Level → Adapter → State
state_with level ad = record { level = level; adapter = ad }

-- the state that lent bytes stand for: the level's byte, and the tables behind it. Every list of that length stands for one
abbrev pub state_size : ℕ
state_size = 6190

unfoldable pub state_of : List ℕ → State
state_of bytes = state_with (record { 0 = get_or bytes 0 0 }) (tables_of (drop 1 bytes))

-- "the zero state, p = 0, level 0"
unfoldable pub zero_state : State
zero_state = state_with none zero_adapter

-- the "field or row rules", the negotiated rates with them, "zero past p and a", and the rule on what is staged (W-207)
unfoldable pub tables_hold : Adapter → Bool
tables_hold ad = fields_all ad && negotiated_all ad && rows_hold ad.rows ad.row_count && zero_past ad && staged_holds ad.staged

-- "the p, a, field or row rules .. zero past p and a", and the rule on what is staged
unfoldable pub adapter_holds : Adapter → Bool
adapter_holds ad = counts_hold ad.phy_count ad.row_count && tables_hold ad

-- the state is not one that "breaks the p, a, field or row rules, has a level over 3, or isn't zero past p and a", or that has revisions with nothing staged (W-207)
unfoldable pub state_holds : State → Bool
state_holds s = leb s.level.0 3 && adapter_holds s.adapter
