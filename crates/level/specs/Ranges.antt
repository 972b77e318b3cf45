-- The need of a command by ranges of its code (W-203). Document 01's lists (`Need.antt`) stay its meaning. Assumes nothing.
use Rattle.std.specs.Prelude.{◌≡◌, ◌&&◌, cond, List, [], ◌∷◌, ◌⊎◌, ℕ, suc, ◌<◌, ◌≤◌, leb, length}
use Rattle.laws.specs.Cases.{All}
use Rattle.level.specs.declared.Level.{Level}
use Rattle.level.specs.Text.{restricted, limited, full}
use Rattle.level.specs.Need.{need_of}

-- "A range is a first and a last code"
pub record Range : Type 0 where
  pub first : ℕ
  pub last : ℕ

-- a code is in it
abbrev pub In : ℕ → Range → Type 0
In code r = (r.first ≤ code) × (code ≤ r.last)

-- a range of the formula, with its need
pub record Arm : Type 0 where
  pub range : Range
  pub need : Level

-- from a code to another, with a need
abbrev arm : ℕ → ℕ → Level → Arm
arm first last need = record { range = record { first = first; last = last }; need = need }

-- "a formula over ranges of the command code, each of one need and together all 256"
abbrev pub formula : List Arm
formula =
    arm 0x00 0x00 restricted
    ∷ arm 0x01 0x1f full
    ∷ arm 0x20 0x20 restricted
    ∷ arm 0x21 0x23 full
    ∷ arm 0x24 0x27 restricted
    ∷ arm 0x28 0x28 full
    ∷ arm 0x29 0x29 restricted
    ∷ arm 0x2a 0x2e full
    ∷ arm 0x2f 0x2f restricted
    ∷ arm 0x30 0x3f full
    ∷ arm 0x40 0x40 restricted
    ∷ arm 0x41 0x41 full
    ∷ arm 0x42 0x42 restricted
    ∷ arm 0x43 0x6f full
    ∷ arm 0x70 0x70 restricted
    ∷ arm 0x71 0x8f full
    ∷ arm 0x90 0x90 restricted
    ∷ arm 0x91 0x91 full
    ∷ arm 0x92 0x92 limited
    ∷ arm 0x93 0xa0 full
    ∷ arm 0xa1 0xa1 restricted
    ∷ arm 0xa2 0xaf full
    ∷ arm 0xb0 0xb0 restricted
    ∷ arm 0xb1 0xc3 full
    ∷ arm 0xc4 0xc4 restricted
    ∷ arm 0xc5 0xc6 full
    ∷ arm 0xc7 0xc8 restricted
    ∷ arm 0xc9 0xe3 full
    ∷ arm 0xe4 0xe5 restricted
    ∷ arm 0xe6 0xe6 full
    ∷ arm 0xe7 0xe7 restricted
    ∷ arm 0xe8 0xe8 limited
    ∷ arm 0xe9 0xe9 full
    ∷ arm 0xea 0xea restricted
    ∷ arm 0xeb 0xeb full
    ∷ arm 0xec 0xec restricted
    ∷ arm 0xed 0xf7 full
    ∷ arm 0xf8 0xf8 restricted
    ∷ arm 0xf9 0xff full
    ∷ []

-- what it says of a code: the need of the range that the code is in (every code is in one)
unfoldable pub by_range : List Arm → ℕ → Level
by_range [] code = full
by_range (a ∷ rest) code = cond (leb a.range.first code && leb code a.range.last) a.need (by_range rest code)

-- its ranges
abbrev pub ranges : List Arm → List Range
ranges [] = []
ranges (a ∷ rest) = a.range ∷ ranges rest

-- "The formula's ranges follow one another from 00h to FFh": the first begins at a given code, each other one at the code after the last of
-- the one before it, none is empty, and the last one ends at FFh
abbrev pub Follow : ℕ → List Range → Type 0
Follow next [] = next ≡ 256
Follow next (r ∷ rs) = (r.first ≡ next) × (r.first ≤ r.last) × Follow (suc r.last) rs

-- P holds of an element of a list, of one at least
abbrev pub Some : {A : Type 0} → (A → Type 0) → List A → Type 0
Some P [] = ⊥
Some P (x ∷ xs) = P x ⊎ Some P xs

-- "every list of ranges that together cover 00h to FFh .. in any order, overlapping or not": each code is in one of them at least
abbrev pub Cover : List Range → Type 0
Cover rs = (code : ℕ) → code < 256 → Some (In code) rs

-- "each of one need": any two codes that are in it have the same
abbrev pub OneNeed : Range → Type 0
OneNeed r = (c d : ℕ) → c < 256 → d < 256 → In c r → In d r → need_of c ≡ need_of d

-- a list of ranges "that can do it". Nothing else is asked of it: a range may be empty, end above FFh or stand there twice
abbrev pub CanDo : List Range → Type 0
CanDo rs = Cover rs × All OneNeed rs

-- what W-203 asks of the formula; that the code says the same is the contract of `by_range`
pub record Formula : Type 0 where
  -- "the answer for each command code is the one that document 01 lists"
  pub answers : (code : ℕ) → code < 256 → by_range formula code ≡ need_of code
  pub follow : Follow 0x00 (ranges formula)
  -- "each of one need and together all 256"
  pub can_do : CanDo (ranges formula)
  -- "It has 39 ranges, the fewest that can do it"
  pub count : length (ranges formula) ≡ 39
  pub fewest : (rs : List Range) → CanDo rs → 39 ≤ length rs
