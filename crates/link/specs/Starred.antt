-- The starred links of document 01 ("Starred cases"), by computation on the definitions. Each is the rule of a phy. Assumes nothing.
use Rattle.std.specs.Prelude.{List, [], ◌∷◌, ◌++◌, ℕ, ◌+◌, ◌*◌, replicate}
use Rattle.laws.specs.Cases.{Case}
use Rattle.phy.specs.declared.Phy.{Phy}
use Rattle.link.specs.Rule.{rule_of}

-- a phy with an end device attached, not held at spin-up: its programmed range, within hardware that has both rates, and the device's range
abbrev phy_with : ℕ → ℕ → ℕ → ℕ → Phy
phy_with minimum maximum lowest highest =
    record {
      entity = replicate 30 0 ++ ((16 * minimum + 8) ∷ (16 * maximum + 9) ∷ 0 ∷ 0 ∷ 0 ∷ 0 ∷ 0x10 ∷ replicate 27 0);
      counters = replicate 4 0;
      signature = replicate 20 0;
      held = 0;
      fixed = 0;
      lowest = lowest;
      highest = highest;
      spinup_hold = 0;
    }

-- a programmed range and a device's, with the rate
abbrev link_case : ℕ → ℕ → ℕ → ℕ → ℕ → Case
link_case minimum maximum lowest highest rate = record { gives = rule_of (phy_with minimum maximum lowest highest) ∷ []; said = rate ∷ [] }

abbrev pub link_cases : List Case
link_cases = link_case 8 8 9 9 2 ∷ link_case 8 9 8 9 9 ∷ []
