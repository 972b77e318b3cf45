-- The bytes that the first request of a session stands in. Assumes nothing.
use mathlib.Core.Path.{◌≡◌, refl}
use mathlib.Core.Bool.{Bool, true, false}
use mathlib.Core.List.{List}
use Prim.Native.Nat.{ℕ, ◌+◌, ◌<◌, ◌≤◌}
use native.Mathlib.Omega.{arith}
use lib.Dec.{leb}
use lib.ListN.{length}
use borrow.Author.Tests.{le-leb, lt-leb}
use Rattle.laws.specs.Choice.{came_then}
use Rattle.laws.specs.Splice.{part}
use Rattle.wire.specs.Number.{number}
use Rattle.frames.specs.declared.Framing.{Framing}
use Rattle.frames.specs.declared.Framing.TheVariants.{FirstHeader, BothHeaders}
use Rattle.frames.specs.declared.Prefix.{Prefix}
use Rattle.frames.specs.Frames.{prefix_size, prefixed, prefix_of, says_kind, said_size, first_size}

-- ---- a match on the framing

module _ (f : Framing) (e : f ≡ FirstHeader) where
  pub length_there : (n : ℕ) → prefix_size f ≤ n → 4 ≤ n
  length_there n h = rw e at h

  pub length_read_lem : (session : List ℕ) (length : ℕ) → length ≡ number (part session 0 4) → prefixed 0 0 length ≡ prefix_of f session
  length_read_lem session length l = rw (e, l) refl

module _ (f : Framing) (e : f ≡ BothHeaders) where
  pub header_there : (k n : ℕ) → prefix_size f ≤ n → k ≤ 12 → k ≤ n
  header_there k n h l = let m : 12 ≤ n = rw e at h in omega arith

  pub header_read : (session : List ℕ) (header control length : ℕ) → header ≡ number (part session 0 4) → control ≡ number (part session 4 4)
      → length ≡ number (part session 8 4) → prefixed header control length ≡ prefix_of f session
  header_read session header control length h c l = rw (e, h, c, l) refl

-- ---- the code's tests

module _ (f : Framing) (session : List ℕ) (before : ℕ) (e : before ≡ prefix_size f) where
  pub first_short : length session < before → 0 ≡ first_size f session
  unfolding first_size
  first_short h = rw (← e, lt-leb before (length session) h) refl

  module _ (x : Prefix) (p : x ≡ prefix_of f session) (says : Bool) (s : says ≡ says_kind x) (h : before ≤ length session) where
    pub first_unsaid : says ≡ false → 0 ≡ first_size f session
    unfolding first_size
    first_unsaid q = rw (← e, le-leb before (length session) h, ← p, ← s, q) refl

    pub first_cut : says ≡ true → length session < before + x.length → 0 ≡ first_size f session
    unfolding first_size
    first_cut q c = rw (← e, le-leb before (length session) h, ← p, ← s, q, lt-leb (before + x.length) (length session) c) refl

    pub first_whole : says ≡ true → before + x.length ≤ length session → before + x.length ≡ first_size f session
    unfolding first_size
    first_whole q c = rw (← e, le-leb before (length session) h, ← p, ← s, q, le-leb (before + x.length) (length session) c) refl

-- ---- a whole request

-- it has what stands before it
pub first_prefix : (f : Framing) (session : List ℕ) (size : ℕ) → size ≡ first_size f session → (size ≡ 0 → ⊥) → prefix_size f ≤ size
unfolding first_size
first_prefix f session size e h =
    let a = came_then (λ (n : ℕ). size ≡ n) (leb (prefix_size f) (length session)) h e in
    let b = came_then (λ (n : ℕ). size ≡ n) (says_kind (prefix_of f session)) h a.1 in
    omega (arith, (came_then (λ (n : ℕ). size ≡ n) (leb (said_size f session) (length session)) h b.1).1)
