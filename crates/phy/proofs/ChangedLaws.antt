-- What each change of a phy keeps and what it sets. A layer above goes by these laws and opens no definition of a change.
-- Assumes nothing.
use mathlib.Core.Path.{◌≡◌, refl, ◌∙◌, ap}
use mathlib.Core.Bool.{Bool}
use mathlib.Core.List.{[], ◌∷◌}
use Prim.Native.Nat.{ℕ, ◌+◌, ◌*◌, ◌/◌, ◌%◌, ◌<◌}
use native.Mathlib.Omega.{arith}
use lib.Dec.{eqb}
use lib.ListN.{length, get_or, set, length-set}
use borrow.Author.Tests.{eqb-true, eqb-false}
use Rattle.laws.specs.Choice.{by_bool}
use Rattle.phy.specs.declared.Phy.{Phy}
use Rattle.phy.specs.Entity.{byte_of, class_place, port_place, negotiated_place, minimum_place, maximum_place, attached_place, class_of, negotiated_of, hardware_minimum, hardware_maximum, programmed_minimum, programmed_maximum}
use Rattle.phy.specs.Change.{released, one_more, problem_place, cleared, raised, stored, negotiated_as, programmed_as, configured}
use Rattle.phy.proofs.KeptLaws.{Kept, Settings, kept_trans, byte_other, byte_here, kept_stored, kept_beside, kept_counters, settings_counters}

-- ---- the hold at spin_up

pub kept_released : (phy : Phy) → Kept phy (released phy)
unfolding released
kept_released phy = kept_beside phy (released phy) refl (λ c. c) refl refl refl refl refl

pub spinup_released : (phy : Phy) → (released phy).spinup_hold ≡ 0
unfolding released
spinup_released phy = refl

-- ---- the counters

-- "clear all four"
pub kept_cleared : (phy : Phy) → Kept phy (cleared phy)
unfolding cleared
kept_cleared phy = kept_counters phy (0 ∷ 0 ∷ 0 ∷ 0 ∷ []) (λ c. refl)

pub settings_cleared : (phy : Phy) → Settings phy (cleared phy)
unfolding cleared
settings_cleared phy = settings_counters phy (0 ∷ 0 ∷ 0 ∷ 0 ∷ [])

pub negotiated_cleared : (phy : Phy) → negotiated_of (cleared phy) ≡ negotiated_of phy
unfolding cleared negotiated_of
negotiated_cleared phy = refl

-- "adds one to the phy reset problem counter"
pub kept_raised : (phy : Phy) → Kept phy (raised phy)
unfolding raised
kept_raised phy =
    kept_counters phy (set phy.counters problem_place (one_more (get_or phy.counters problem_place 0)))
    (λ c. length-set phy.counters problem_place (one_more (get_or phy.counters problem_place 0)) ∙ c)

pub settings_raised : (phy : Phy) → Settings phy (raised phy)
unfolding raised
settings_raised phy = settings_counters phy (set phy.counters problem_place (one_more (get_or phy.counters problem_place 0)))

pub negotiated_raised : (phy : Phy) → negotiated_of (raised phy) ≡ negotiated_of phy
unfolding raised negotiated_of
negotiated_raised phy = refl

-- ---- the negotiated rate

pub kept_negotiated : (phy : Phy) (rate : ℕ) → Kept phy (negotiated_as phy rate)
unfolding negotiated_as hardware_minimum hardware_maximum
kept_negotiated phy rate =
    kept_stored phy negotiated_place rate (omega arith) (λ e. omega arith) (λ e. omega arith)
    (ap (λ (b : ℕ). b % 16) (byte_other phy negotiated_place rate minimum_place (λ e. omega arith)))
    (ap (λ (b : ℕ). b % 16) (byte_other phy negotiated_place rate maximum_place (λ e. omega arith)))

pub settings_negotiated : (phy : Phy) (rate : ℕ) → Settings phy (negotiated_as phy rate)
unfolding negotiated_as stored class_of programmed_minimum programmed_maximum
settings_negotiated phy rate =
    record {
      class = byte_other phy negotiated_place rate class_place (λ e. omega arith);
      minimum = ap (λ (b : ℕ). b / 16) (byte_other phy negotiated_place rate minimum_place (λ e. omega arith));
      maximum = ap (λ (b : ℕ). b / 16) (byte_other phy negotiated_place rate maximum_place (λ e. omega arith));
      spinup = refl;
    }

pub negotiated_now : (phy : Phy) (rate : ℕ) → length phy.entity ≡ 64 → negotiated_of (negotiated_as phy rate) ≡ rate
unfolding negotiated_as negotiated_of
negotiated_now phy rate e = byte_here phy negotiated_place rate e (omega arith)

-- ---- the signal class and the programmed rates

-- the hardware's half of each byte is kept
half : (phy : Phy) (k rate j : ℕ) → length phy.entity ≡ 64 → k < 64 → byte_of (programmed_as phy k rate) j % 16 ≡ byte_of phy j % 16
unfolding programmed_as
half phy k rate j e h =
    by_bool (λ (t : Bool). eqb j k ≡ t → byte_of (stored phy k (16 * rate + byte_of phy k % 16)) j % 16 ≡ byte_of phy j % 16)
    (λ p. rw (eqb-true j k p, byte_here phy k (16 * rate + byte_of phy k % 16) e h) (omega arith))
    (λ p. rw (byte_other phy k (16 * rate + byte_of phy k % 16) j (eqb-false j k p)))
    (eqb j k) refl

kept_programmed : (phy : Phy) (k rate : ℕ) → length phy.entity ≡ 64 → port_place < k → k < attached_place → Kept phy (programmed_as phy k rate)
unfolding programmed_as hardware_minimum hardware_maximum
kept_programmed phy k rate e h l =
    kept_stored phy k (16 * rate + byte_of phy k % 16) l (λ q. omega arith) (λ q. omega arith)
    (half phy k rate minimum_place e (omega arith)) (half phy k rate maximum_place e (omega arith))

programmed_here : (phy : Phy) (k rate : ℕ) → length phy.entity ≡ 64 → k < 64 → byte_of (programmed_as phy k rate) k / 16 ≡ rate
unfolding programmed_as
programmed_here phy k rate e h = rw (byte_here phy k (16 * rate + byte_of phy k % 16) e h) (omega arith)

programmed_other : (phy : Phy) (k rate i : ℕ) → (i ≡ k → ⊥) → byte_of (programmed_as phy k rate) i ≡ byte_of phy i
unfolding programmed_as
programmed_other phy k rate i h = byte_other phy k (16 * rate + byte_of phy k % 16) i h

module _ (phy : Phy) (class minimum maximum : ℕ) where
  -- the class set, and then the minimum
  abbrev classed : Phy
  classed = stored phy class_place class

  abbrev ranged : Phy
  ranged = programmed_as classed minimum_place minimum

  -- whether the phy is held at spin_up is carried
  pub spinup_configured : (configured phy class minimum maximum).spinup_hold ≡ phy.spinup_hold
  unfolding configured programmed_as stored
  spinup_configured = refl

  module _ (e : length phy.entity ≡ 64) where
    kept_classed : Kept phy classed
    unfolding hardware_minimum hardware_maximum
    kept_classed =
        kept_stored phy class_place class (omega arith) (λ q. omega arith) (λ q. omega arith)
        (ap (λ (b : ℕ). b % 16) (byte_other phy class_place class minimum_place (λ q. omega arith)))
        (ap (λ (b : ℕ). b % 16) (byte_other phy class_place class maximum_place (λ q. omega arith)))

    kept_ranged : Kept phy ranged
    kept_ranged =
        kept_trans phy classed ranged kept_classed
        (kept_programmed classed minimum_place minimum (kept_classed.size ∙ e) (omega arith) (omega arith))

    pub kept_configured : Kept phy (configured phy class minimum maximum)
    unfolding configured
    kept_configured =
        kept_trans phy ranged (programmed_as ranged maximum_place maximum) kept_ranged
        (kept_programmed ranged maximum_place maximum (kept_ranged.size ∙ e) (omega arith) (omega arith))

    pub class_configured : class_of (configured phy class minimum maximum) ≡ class
    unfolding configured class_of
    class_configured =
        programmed_other ranged maximum_place maximum class_place (λ q. omega arith)
        ∙ programmed_other classed minimum_place minimum class_place (λ q. omega arith)
        ∙ byte_here phy class_place class e (omega arith)

    pub minimum_configured : programmed_minimum (configured phy class minimum maximum) ≡ minimum
    unfolding configured programmed_minimum
    minimum_configured =
        ap (λ (b : ℕ). b / 16) (programmed_other ranged maximum_place maximum minimum_place (λ q. omega arith))
        ∙ programmed_here classed minimum_place minimum (kept_classed.size ∙ e) (omega arith)

    pub maximum_configured : programmed_maximum (configured phy class minimum maximum) ≡ maximum
    unfolding configured programmed_maximum
    maximum_configured = programmed_here ranged maximum_place maximum (kept_ranged.size ∙ e) (omega arith)
