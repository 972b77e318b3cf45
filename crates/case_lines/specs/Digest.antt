-- The numbers that stand for every byte of a slice and of a state, its place and its value. Assumes nothing.
use Rattle.std.specs.Prelude.{List, ℕ, zero, suc, ◌+◌, ◌*◌, ◌%◌, length, get_or}
use Rattle.laws.specs.Splice.{part}
use Rattle.wire.specs.Number.{number}

-- one more number after what came before
unfoldable pub mix : ℕ → ℕ → ℕ
mix d n = (d % 4294967311 * 257 + n) % 4294967311

-- n steps, one after the other
unfoldable pub steps : (ℕ → ℕ → ℕ) → ℕ → ℕ → ℕ
steps f d zero = d
steps f d (suc n) = f (steps f d n) n

-- one byte of a list
abbrev pub byte_step : List ℕ → ℕ → ℕ → ℕ
byte_step l d i = mix d (get_or l i 0)

-- the bytes of a list after what came before
unfoldable pub digest_of : ℕ → List ℕ → ℕ
digest_of d l = steps (byte_step l) d (length l)

-- the four counters of a phy, each a number
unfoldable pub counters_digest : ℕ → List ℕ → ℕ
counters_digest d phy =
    mix (mix (mix (mix d (number (part phy 64 4))) (number (part phy 68 4))) (number (part phy 72 4))) (number (part phy 76 4))

-- a phy, its counters behind its other bytes
unfoldable pub phy_digest : ℕ → List ℕ → ℕ
phy_digest d phy = counters_digest (digest_of (digest_of d (part phy 0 64)) (part phy 80 25)) phy

-- one phy of 32
abbrev pub phy_step : List ℕ → ℕ → ℕ → ℕ
phy_step phys d n = phy_digest d (part phys (105 * n) 105)

-- the level, the counts and the driver info, the phys, and what stands behind them: rows, configuration, status, connectors and what is staged
unfoldable pub state_digest : List ℕ → ℕ
state_digest s = digest_of (steps (phy_step (part s 177 3360)) (digest_of 1 (part s 0 177)) 32) (part s 3537 2653)
