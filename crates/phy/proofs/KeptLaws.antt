-- What a change of a phy keeps, in two records, for a store of one byte and for a change beside the entity, of the counters or of the hold at
-- spin_up. The changes themselves are in Changed. Assumes nothing.
use mathlib.Core.Path.{◌≡◌, refl, ◌∙◌, ap}
use mathlib.Core.List.{List}
use Prim.Native.Nat.{ℕ, ◌<◌}
use native.Mathlib.Omega.{arith}
use lib.ListN.{length, take, length-set}
use lib.Seq.{get_or-set_same, get_or-set_other, drop-set-lt}
use Rattle.laws.specs.Splice.{part}
use Rattle.phy.specs.declared.Phy.{Phy}
use Rattle.phy.specs.Entity.{byte_of, identifier_place, port_place, attached_place, protocols_place, address_place, identifier_of, class_of, port_of, hardware_minimum, hardware_maximum, programmed_minimum, programmed_maximum, attached_of, attached_type, no_device, attached_address, is_sata}
use Rattle.phy.specs.Change.{with_counters, stored}

-- what every change from a to b keeps
pub record Kept (a b : Phy) : Type 0 where
  pub size : length b.entity ≡ length a.entity
  pub identifier : identifier_of b ≡ identifier_of a
  pub port : port_of b ≡ port_of a
  pub minimum : hardware_minimum b ≡ hardware_minimum a
  pub maximum : hardware_maximum b ≡ hardware_maximum a
  pub attached : attached_of b ≡ attached_of a
  pub type : attached_type b ≡ attached_type a
  pub device : no_device b ≡ no_device a
  pub address : attached_address b ≡ attached_address a
  pub sata : is_sata b ≡ is_sata a
  pub count : length a.counters ≡ 4 → length b.counters ≡ 4
  pub signature : b.signature ≡ a.signature
  pub held : b.held ≡ a.held
  pub fixed : b.fixed ≡ a.fixed
  pub lowest : b.lowest ≡ a.lowest
  pub highest : b.highest ≡ a.highest

-- what code 21 sets, and no other change
pub record Settings (a b : Phy) : Type 0 where
  pub class : class_of b ≡ class_of a
  pub minimum : programmed_minimum b ≡ programmed_minimum a
  pub maximum : programmed_maximum b ≡ programmed_maximum a
  pub spinup : b.spinup_hold ≡ a.spinup_hold

pub kept_refl : (a : Phy) → Kept a a
kept_refl a =
    record {
      size = refl;
      identifier = refl;
      port = refl;
      minimum = refl;
      maximum = refl;
      attached = refl;
      type = refl;
      device = refl;
      address = refl;
      sata = refl;
      count = λ n. n;
      signature = refl;
      held = refl;
      fixed = refl;
      lowest = refl;
      highest = refl;
    }

pub kept_trans : (a b c : Phy) → Kept a b → Kept b c → Kept a c
kept_trans a b c p q =
    record {
      size = q.size ∙ p.size;
      identifier = q.identifier ∙ p.identifier;
      port = q.port ∙ p.port;
      minimum = q.minimum ∙ p.minimum;
      maximum = q.maximum ∙ p.maximum;
      attached = q.attached ∙ p.attached;
      type = q.type ∙ p.type;
      device = q.device ∙ p.device;
      address = q.address ∙ p.address;
      sata = q.sata ∙ p.sata;
      count = λ n. q.count (p.count n);
      signature = q.signature ∙ p.signature;
      held = q.held ∙ p.held;
      fixed = q.fixed ∙ p.fixed;
      lowest = q.lowest ∙ p.lowest;
      highest = q.highest ∙ p.highest;
    }

pub settings_trans : (a b c : Phy) → Settings a b → Settings b c → Settings a c
settings_trans a b c p q =
    record {
      class = q.class ∙ p.class;
      minimum = q.minimum ∙ p.minimum;
      maximum = q.maximum ∙ p.maximum;
      spinup = q.spinup ∙ p.spinup;
    }

-- ---- one byte of the entity

pub byte_other : (phy : Phy) (k v i : ℕ) → (i ≡ k → ⊥) → byte_of (stored phy k v) i ≡ byte_of phy i
unfolding stored
byte_other phy k v i h = get_or-set_other phy.entity k i v 0 h

pub byte_here : (phy : Phy) (k v : ℕ) → length phy.entity ≡ 64 → k < 64 → byte_of (stored phy k v) k ≡ v
unfolding stored
byte_here phy k v e h = get_or-set_same phy.entity k v 0 (rw e h)

part_after : (phy : Phy) (k v at n : ℕ) → k < at → part (stored phy k v).entity at n ≡ part phy.entity at n
unfolding stored part
part_after phy k v at n h = ap (take n) (drop-set-lt at phy.entity k v h)

pub kept_stored : (phy : Phy) (k v : ℕ) → k < attached_place → (identifier_place ≡ k → ⊥) → (port_place ≡ k → ⊥)
    → hardware_minimum (stored phy k v) ≡ hardware_minimum phy → hardware_maximum (stored phy k v) ≡ hardware_maximum phy
    → Kept phy (stored phy k v)
unfolding stored identifier_of port_of attached_of attached_type no_device attached_address is_sata
kept_stored phy k v h i j m n =
    let t : byte_of (stored phy k v) attached_place ≡ byte_of phy attached_place = byte_other phy k v attached_place (λ e. omega arith) in
    let s : byte_of (stored phy k v) protocols_place ≡ byte_of phy protocols_place = byte_other phy k v protocols_place (λ e. omega arith) in
    record {
      size = length-set phy.entity k v;
      identifier = ap (λ (b : ℕ). record { 0 = b }) (byte_other phy k v identifier_place i);
      port = ap (λ (b : ℕ). record { 0 = b }) (byte_other phy k v port_place j);
      minimum = m;
      maximum = n;
      attached = part_after phy k v attached_place 28 h;
      type = t;
      device = rw t;
      address = part_after phy k v address_place 8 (omega arith);
      sata = rw (t, s);
      count = λ c. c;
      signature = refl;
      held = refl;
      fixed = refl;
      lowest = refl;
      highest = refl;
    }

-- ---- what stands beside the entity

-- a change of the counters or of the hold at spin_up alone
pub kept_beside : (a b : Phy) → b.entity ≡ a.entity → (length a.counters ≡ 4 → length b.counters ≡ 4) → b.signature ≡ a.signature → b.held ≡ a.held
    → b.fixed ≡ a.fixed → b.lowest ≡ a.lowest → b.highest ≡ a.highest → Kept a b
unfolding identifier_of port_of hardware_minimum hardware_maximum attached_of attached_type no_device attached_address is_sata
kept_beside a b e c s h f l u =
    record {
      size = ap length e;
      identifier = rw e;
      port = rw e;
      minimum = rw e;
      maximum = rw e;
      attached = rw e;
      type = rw e;
      device = rw e;
      address = rw e;
      sata = rw e;
      count = c;
      signature = s;
      held = h;
      fixed = f;
      lowest = l;
      highest = u;
    }

pub kept_counters : (phy : Phy) (c : List ℕ) → (length phy.counters ≡ 4 → length c ≡ 4) → Kept phy (with_counters phy c)
kept_counters phy c h = kept_beside phy (with_counters phy c) refl h refl refl refl refl refl

pub settings_counters : (phy : Phy) (c : List ℕ) → Settings phy (with_counters phy c)
unfolding class_of programmed_minimum programmed_maximum
settings_counters phy c = record { class = refl; minimum = refl; maximum = refl; spinup = refl }
