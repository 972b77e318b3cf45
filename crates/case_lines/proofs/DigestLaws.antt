-- What is proved of the definitions in specs/Digest.antt. Assumes nothing.
use mathlib.Core.Path.{◌≡◌, refl, sym, ◌∙◌, ap}
use mathlib.Core.List.{List, []}
use Prim.Native.Nat.{ℕ, ◌+◌, ◌*◌, ◌/◌, ◌<◌, ◌≤◌}
use native.Mathlib.Numerals.{add-one}
use native.Mathlib.Nat.{le_antisymm}
use native.Mathlib.Omega.{arith}
use lib.ListN.{length, get_or, take, drop}
use borrow.Author.Rules.{rules}
use Rattle.std.specs.Simd.{first_chunks}
use Rattle.case_words.proofs.Chunks.{length_first_chunks, chunk_at}
use Rattle.laws.specs.Splice.{part}
use Rattle.case_lines.specs.Digest.{steps, byte_step, digest_of, phy_digest, phy_step, state_digest}

-- ---- the loops

pub steps_none : (f : ℕ → ℕ → ℕ) (d : ℕ) → d ≡ steps f d 0
unfolding steps
steps_none f d = refl

pub steps_more : (f : ℕ → ℕ → ℕ) (d k r x : ℕ) → r ≡ steps f d k → x ≡ f r k → x ≡ steps f d (k + 1)
unfolding steps
steps_more f d k r x p q = rw add-one (q ∙ ap (λ (y : ℕ). f y k) p)

pub digest_done : (l : List ℕ) (d k r : ℕ) → k ≤ length l → length l ≤ k → r ≡ steps (byte_step l) d k → r ≡ digest_of d l
unfolding digest_of
digest_done l d k r h m p = p ∙ ap (steps (byte_step l) d) (le_antisymm h m)

pub steps_done : (f : ℕ → ℕ → ℕ) (d k n r : ℕ) → k ≤ n → n ≤ k → r ≡ steps f d k → r ≡ steps f d n
steps_done f d k n r h m p = p ∙ ap (steps f d) (le_antisymm h m)

pub ruleset steps_loop = (steps_none, steps_more, digest_done, rules)

part_is : (l : List ℕ) (at n : ℕ) → part l at n ≡ take n (drop at l)
unfolding part
part_is l at n = refl

-- the phys of some bytes, each a chunk
module _ (phys : List ℕ) (each : List (List ℕ)) (d n r : ℕ) (cut : each ≡ first_chunks 105 (length phys / 105) phys) where
  many : length each ≡ length phys / 105
  many = ap length cut ∙ length_first_chunks 105 (length phys / 105) phys

  pub phys_more : (x : ℕ) → n < length each → r ≡ steps (phy_step phys) d n → x ≡ phy_digest r (get_or each n []) → x ≡ steps (phy_step phys) d (n + 1)
  phys_more x h p q =
      let e : get_or each n [] ≡ part phys (105 * n) 105 =
      ap (λ (all : List (List ℕ)). get_or all n []) cut ∙ chunk_at 105 (length phys / 105) n phys (omega (arith, many, h)) ∙ sym (part_is phys (105 * n) 105) in
      steps_more (phy_step phys) d n r x p (q ∙ ap (phy_digest r) e)

  pub phys_done : length phys ≡ 3360 → n ≤ length each → length each ≤ n → r ≡ steps (phy_step phys) d n → r ≡ steps (phy_step phys) d 32
  phys_done l h m p = p ∙ ap (steps (phy_step phys) d) (let e : n ≡ 32 = omega (arith, many, l, h, m) in e)

pub ruleset phys_loop = (steps_none, phys_more, phys_done, rules)

-- ---- one call after the other

pub state_by : (a b r : ℕ) (s : List ℕ) → a ≡ digest_of 1 (part s 0 177) → b ≡ steps (phy_step (part s 177 3360)) a 32 → r ≡ digest_of b (part s 3537 2653)
    → r ≡ state_digest s
unfolding state_digest
state_by a b r s p q t =
    t ∙ ap (λ (x : ℕ). digest_of x (part s 3537 2653)) (q ∙ ap (λ (x : ℕ). steps (phy_step (part s 177 3360)) x 32) p)
