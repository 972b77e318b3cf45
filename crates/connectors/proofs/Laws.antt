-- What the bytes say of the connectors: laws for the layers above, which open no definition of Connector.antt. Assumes nothing.
use mathlib.Core.Path.{◌≡◌, refl, sym, ◌∙◌, ap}
use mathlib.Core.Bool.{Bool, true}
use mathlib.Core.List.{List, []}
use Prim.Native.Nat.{ℕ, zero, suc, ◌+◌, ◌-◌, ◌*◌, ◌/◌, ◌<◌, ◌≤◌}
use native.Mathlib.Nat.{mul-suc, zero-add}
use native.Mathlib.Omega.{arith}
use lib.ListN.{length, take, get_or, replicate}
use Rattle.std.specs.List.{list_all}
use Rattle.std.specs.Simd.{first_chunks}
use Rattle.laws.specs.All.{all_by}
use Rattle.laws.specs.Clear.{zeros}
use Rattle.laws.specs.Fill.{list_to, length_list_to, get_or_list_to, list_to_all}
use Rattle.laws.specs.Flat.{flat_to}
use Rattle.laws.specs.Splice.{part, part_all, get_or_part, part_add, part_replicate}
use Rattle.wire.specs.Same.{all_zero}
use Rattle.wire.proofs.SameLaws.{same_refl}
use Rattle.wire.proofs.ZeroLaws.{zero_run}
use Rattle.connectors.specs.Pinout.{pinout_holds}
use Rattle.connectors.specs.Connector.{connectors_size, connector_start, connector_of, connectors_of, zero_connector, connector_at, pinouts_hold, connectors_past}
use Rattle.connectors.proofs.Chunks.{chunks_parts, all_first}

-- connector n, and a byte of it
pub connector_in : (b : List ℕ) (n : ℕ) → n < 32 → connector_at (connectors_of b) n ≡ part b (connector_start n) 36
unfolding connectors_of connector_of
connector_in b n h = get_or_list_to (connector_of b) 32 n [] h

pub connector_byte : (b : List ℕ) (n i : ℕ) → n < 32 → i < 36 → get_or (connector_at (connectors_of b) n) i 0 ≡ get_or b (connector_start n + i) 0
connector_byte b n i h k = ap (λ (c : List ℕ). get_or c i 0) (connector_in b n h) ∙ get_or_part b (connector_start n) 36 i 0 k

-- the chunks of 36 bytes are the connectors, and the first p of them pass the pinout's rule
pub pinouts_first : (b : List ℕ) (p : ℕ) → length b ≡ connectors_size → p ≤ 32
    → list_all pinout_holds (take p (first_chunks 36 (length b / 36) b)) ≡ pinouts_hold (connectors_of b) p
unfolding pinouts_hold connectors_of connector_of
pinouts_first b p n h =
    let k : length b / 36 ≡ 32 = rw n refl in
    let e : first_chunks 36 (length b / 36) b ≡ list_to (λ (i : ℕ). part b (36 * i) 36) 32 = rw k (chunks_parts 36 32 b) in
    rw e (all_first pinout_holds (list_to (λ (i : ℕ). part b (36 * i) 36) 32) [] p (rw length_list_to h))

-- the connectors from p on, by one test of their bytes
pub connectors_past_lem : (b : List ℕ) (p : ℕ) (r : Bool) → length b ≡ connectors_size → p ≤ 32 → r ≡ all_zero (part b (36 * p) (36 * (32 - p)))
    → r ≡ connectors_past (connectors_of b) p
unfolding connectors_past
connectors_past_lem b p r n h q =
    q
    ∙ zero_run (λ (i : ℕ). all_zero (connector_at (connectors_of b) (p + i))) b (36 * p) 36 (32 - p) (omega arith)
    (λ i l. let e : 36 * p + 36 * i ≡ connector_start (p + i) = omega arith in rw (e, connector_in b (p + i) (omega arith)) refl)

pub past_by_zero : (connectors : List (List ℕ)) (p : ℕ) → ((i : ℕ) → p ≤ i → i < 32 → connector_at connectors i ≡ zero_connector)
    → connectors_past connectors p ≡ true
unfolding connectors_past all_zero
past_by_zero connectors p h =
    all_by (λ (i : ℕ). all_zero (connector_at connectors (p + i))) (32 - p) (λ i l. ap all_zero (h (p + i) (omega arith) (omega arith)) ∙ same_refl zero_connector)

-- the first p one behind the other are the first bytes
pub connectors_flat : (b : List ℕ) (p : ℕ) → p ≤ 32 → flat_to (connector_at (connectors_of b)) p ≡ part b 0 (36 * p)
unfolding flat_to part
connectors_flat b zero h = refl
connectors_flat b (suc p) h =
    rw (mul-suc, connectors_flat b p (omega arith), connector_in b p (omega arith)) (sym (part_add b 0 (36 * p) 36 ∙ rw zero-add refl))

-- bytes that are 0
pub zero_connectors : connectors_of (zeros connectors_size) ≡ replicate 32 zero_connector
unfolding connectors_of connector_of
zero_connectors =
    list_to_all (connector_of (zeros connectors_size)) 32 zero_connector (λ i l. part_replicate connectors_size (connector_start i) 36 0 (omega arith))

-- the bytes are given by what they stand for
pub connectors_same : (b c : List ℕ) → length b ≡ connectors_size → length c ≡ connectors_size → connectors_of b ≡ connectors_of c → b ≡ c
connectors_same b c p q e = sym (all_of b p) ∙ ap (λ (x : List (List ℕ)). flat_to (connector_at x) 32) e ∙ all_of c q
  where
    all_of : (l : List ℕ) → length l ≡ connectors_size → flat_to (connector_at (connectors_of l)) 32 ≡ l
    all_of l k = connectors_flat l 32 (omega arith) ∙ ap (part l 0) (sym k) ∙ part_all l
