-- The changes that a request makes to a phy (document 01, "Request", codes 21 and 22, and "Link rule"; W-205). Its three record
-- literals are the only ones that change a phy. Assumes nothing.
use Rattle.std.specs.Prelude.{cond, List, [], ◌∷◌, ℕ, ◌+◌, ◌*◌, ◌%◌, eqb, get_or, set}
use Rattle.phy.specs.declared.Phy.{Phy}
use Rattle.phy.specs.Entity.{byte_of, class_place, negotiated_place, minimum_place, maximum_place}

-- the phy with another entity
abbrev with_entity : Phy → List ℕ → Phy
with_entity phy entity =
    record {
      entity = entity;
      counters = phy.counters;
      signature = phy.signature;
      held = phy.held;
      fixed = phy.fixed;
      lowest = phy.lowest;
      highest = phy.highest;
      spinup_hold = phy.spinup_hold;
    }

-- the phy with other counters
abbrev pub with_counters : Phy → List ℕ → Phy
with_counters phy counters =
    record {
      entity = phy.entity;
      counters = counters;
      signature = phy.signature;
      held = phy.held;
      fixed = phy.fixed;
      lowest = phy.lowest;
      highest = phy.highest;
      spinup_hold = phy.spinup_hold;
    }

-- W-205: "sets the byte to 0"
unfoldable pub released : Phy → Phy
released phy =
    record {
      entity = phy.entity;
      counters = phy.counters;
      signature = phy.signature;
      held = phy.held;
      fixed = phy.fixed;
      lowest = phy.lowest;
      highest = phy.highest;
      spinup_hold = 0;
    }

-- "clear all four"
unfoldable pub cleared : Phy → Phy
cleared phy = with_counters phy (0 ∷ 0 ∷ 0 ∷ 0 ∷ [])

-- "which holds at 4,294,967,295"
unfoldable pub one_more : ℕ → ℕ
one_more count = cond (eqb count 4294967295) count (count + 1)

-- the fourth counter of 6.9 is the phy reset problem counter
abbrev pub problem_place : ℕ
problem_place = 3

-- "adds one to the phy reset problem counter"
unfoldable pub raised : Phy → Phy
raised phy = with_counters phy (set phy.counters problem_place (one_more (get_or phy.counters problem_place 0)))

-- one byte of the entity replaced
unfoldable pub stored : Phy → ℕ → ℕ → Phy
stored phy place value = with_entity phy (set phy.entity place value)

-- another negotiated rate
unfoldable pub negotiated_as : Phy → ℕ → Phy
negotiated_as phy rate = stored phy negotiated_place rate

-- "A minimum or maximum rate byte is 16 × programmed + hardware": another programmed rate in the byte at a place
unfoldable pub programmed_as : Phy → ℕ → ℕ → Phy
programmed_as phy place rate = stored phy place (16 * rate + byte_of phy place % 16)

-- "store class and rates": the signal class, the programmed minimum and the programmed maximum
unfoldable pub configured : Phy → ℕ → ℕ → ℕ → Phy
configured phy class minimum maximum = programmed_as (programmed_as (stored phy class_place class) minimum_place minimum) maximum_place maximum
