-- What the bytes say of the tables: laws for the layers above, which open no definition of Tables.antt. Assumes nothing.
use mathlib.Core.Path.{◌≡◌, refl, sym, ◌∙◌, ap, ap₂}
use mathlib.Core.Bool.{Bool, true, false}
use mathlib.Core.List.{List}
use Prim.Native.Nat.{ℕ, ◌+◌, ◌-◌, ◌<◌, ◌≤◌}
use native.Mathlib.Nat.{add-sub_cancel_left, add-zero}
use native.Mathlib.Omega.{arith}
use lib.Dec.{ltb}
use Rattle.std.specs.Prelude.{Option, Some, None, cond}
use Rattle.std.proofs.lemmas.Option.{cond_some, none-some}
use Rattle.laws.specs.Choice.{by_bool}
use lib.ListN.{length, get_or, take, drop, length-replicate}
use borrow.Author.Tests.{ltb-true}
use Rattle.laws.specs.Clear.{zeros}
use Rattle.laws.specs.Fill.{get_or_list_to, length_list_to}
use Rattle.laws.specs.Splice.{part, splice, length_part, part_part, part_in, part_replicate, get_or_part, get_in}
use Rattle.phy.specs.declared.Phy.{Phy}
use Rattle.phy.specs.declared.PortIdentifier.{PortIdentifier}
use Rattle.phy.specs.Block.{phy_size, no_phy, phy_of}
use Rattle.phy.specs.Entity.{byte_of, port_of}
use Rattle.rows.specs.Row.{rows_size, rows_of}
use Rattle.connectors.specs.Connector.{connectors_size, connectors_of}
use Rattle.adapter.specs.Staged.{staged, nothing_staged}
use Rattle.adapter.specs.Adapter.{Adapter, phy_in}
use Rattle.tables.specs.Tables.{tables_size, phy_start, rows_start, controller_start, status_start, connectors_start, staged_start, staged_at, phy_at, existing_phy, tables_of}

-- the rows
pub rows_in : (t : List ℕ) → (tables_of t).rows ≡ rows_of (part t rows_start rows_size)
unfolding tables_of
rows_in t = refl

-- configuration, status, the connectors and what is staged
pub controller_in : (t : List ℕ) → (tables_of t).controller ≡ part t controller_start 176
unfolding tables_of
controller_in t = refl

pub status_in : (t : List ℕ) → (tables_of t).status ≡ part t status_start 36
unfolding tables_of
status_in t = refl

pub connectors_in : (t : List ℕ) → (tables_of t).connectors ≡ connectors_of (part t connectors_start connectors_size)
unfolding tables_of
connectors_in t = refl

pub staged_in : (t : List ℕ) → (tables_of t).staged ≡ staged_at t
unfolding tables_of
staged_in t = refl

-- bytes of 0 there are nothing staged
pub staged_cleared : (t : List ℕ) → length t ≡ tables_size → staged_at (splice t staged_start (zeros 9)) ≡ nothing_staged
staged_cleared t e =
    let z : length (zeros 9) ≡ 9 = length-replicate {A = ℕ} 9 0 in
    ap₂ staged (get_in t staged_start (zeros 9) 0 0 (omega arith) (omega arith))
    (part_in t staged_start (zeros 9) 1 8 (omega arith) (omega arith) ∙ part_replicate {A = ℕ} 9 1 8 0 (omega arith))

-- phy n
pub phy_in_lem : (t : List ℕ) (n : ℕ) → n < 32 → phy_in (tables_of t) n ≡ phy_at t n
unfolding tables_of
phy_in_lem t n h = get_or_list_to (phy_at t) 32 n no_phy h

tables_phy : (t : List ℕ) (n : ℕ) (r : Phy) → n < 32 → r ≡ phy_at t n → r ≡ phy_in (tables_of t) n
tables_phy t n r h e = e ∙ sym (phy_in_lem t n h)

-- the arrays have the lengths of their types
pub tables_phys : (t : List ℕ) → length (tables_of t).phys ≡ 32
unfolding tables_of
tables_phys t = length_list_to (phy_at t) 32

pub tables_entity : (t : List ℕ) (n : ℕ) → length t ≡ tables_size → n < 32 → length (phy_in (tables_of t) n).entity ≡ 64
unfolding phy_at phy_of
tables_entity t n e h = rw (phy_in_lem t n h) (length_part _ 0 64 (rw (length_part t (phy_start n) phy_size (omega arith)) (omega arith)))

-- a part lent to the reading of a phy
pub phy_lent : (t : List ℕ) (from n : ℕ) (r : Phy) → n < 32 → from ≡ phy_start n → r ≡ phy_of (take (from + phy_size - from) (drop from t)) → r ≡ phy_in (tables_of t) n
unfolding phy_at part
phy_lent t from n r h e q = tables_phy t n r h (q ∙ rw (add-sub_cancel_left, e))

-- the entity of phy n, as a part of the bytes, and copied
entity_in : (t : List ℕ) (n : ℕ) → n < 32 → (phy_in (tables_of t) n).entity ≡ part t (phy_start n) 64
unfolding phy_at phy_of
entity_in t n h = ap (λ (x : Phy). x.entity) (phy_in_lem t n h) ∙ part_part t (phy_start n) phy_size 0 64 (omega arith) ∙ rw add-zero

pub entity_put : (t d s : List ℕ) (n from at : ℕ) → n < 32 → from ≡ phy_start n → s ≡ splice d at (part t from 64) → s ≡ splice d at (phy_in (tables_of t) n).entity
entity_put t d s n from at h e q = q ∙ rw (e, ← entity_in t n h)

-- a byte of it
byte_in : (t : List ℕ) (n i : ℕ) → n < 32 → i < 64 → byte_of (phy_in (tables_of t) n) i ≡ get_or t (phy_start n + i) 0
byte_in t n i h k = ap (λ (e : List ℕ). get_or e i 0) (entity_in t n h) ∙ get_or_part t (phy_start n) 64 i 0 k

pub port_read : (t : List ℕ) (n from : ℕ) → n < 32 → from ≡ phy_start n
    → ◌≡◌ {A = PortIdentifier} (record { 0 = get_or t (from + 28) 0 }) (port_of (phy_in (tables_of t) n))
unfolding port_of
port_read t n from h e = rw (e, ← byte_in t n 28 h (omega arith))

-- where there is a phy with that number, and where there is none
module _ (ad : Adapter) (n : ℕ) (r : Option Phy) (e : r ≡ existing_phy ad n) where
  pub phy_found : (phy : Phy) → r ≡ Some phy → (ltb n ad.phy_count ≡ true) × (phy_in ad n ≡ phy)
  phy_found phy f = cond_some (ltb n ad.phy_count) (phy_in ad n) phy (sym e ∙ f)

  pub phy_missing : r ≡ None → ltb n ad.phy_count ≡ false
  phy_missing f =
      by_bool (λ (b : Bool). ◌≡◌ {A = Option Phy} (cond b (Some (phy_in ad n)) None) None → b ≡ false)
      (λ q. absurd (none-some (phy_in ad n) (sym q))) (λ q. refl) (ltb n ad.phy_count) (sym e ∙ f)

-- a phy that exists has a number below 32
pub exists_below : (t : List ℕ) (n : ℕ) (r : Bool) → (tables_of t).phy_count ≤ 32 → r ≡ ltb n (tables_of t).phy_count → r ≡ true → n < 32
exists_below t n r h e q = omega (arith, ltb-true n (tables_of t).phy_count (sym e ∙ q))
