-- A selection as the code gives it: the phy, or why there is none. Assumes nothing.
use Rattle.std.specs.Prelude.{if◌then◌else◌, Option, Some, None, Result, Ok, Err, ℕ, ltb}
use Rattle.codes.specs.declared.return_code.ReturnCode.{ReturnCode}
use Rattle.codes.specs.Numbers.{return_number}
use Rattle.phy.specs.declared.PhyIdentifier.{PhyIdentifier}
use Rattle.select.specs.Select.{Selection, selected, not_selected}

-- a phy below p
abbrev pub existing : ℕ → PhyIdentifier → Option PhyIdentifier
existing p phy = if ltb phy.0 p then Some phy else None

-- a phy was selected; none was, and the code that says why
abbrev pub chosen : Result PhyIdentifier ReturnCode → Selection
chosen (Ok phy) = selected phy
chosen (Err code) = not_selected (return_number code)
