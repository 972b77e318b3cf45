-- The tables and counters of an adapter, and the rules that the file and the state share (document 01, "Adapter file" and
-- "From the state"; W-204, W-207). Assumes nothing.
use Rattle.std.specs.Prelude.{Bool, ◌&&◌, List, ℕ, ◌+◌, ◌-◌, ◌*◌, ◌≤◌, leb, get_or, set, replicate}
use Rattle.laws.specs.All.{all_to}
use Rattle.phy.specs.declared.Phy.{Phy}
use Rattle.phy.specs.Block.{no_phy, zero_phy}
use Rattle.fields.specs.Rules.{fields_hold, phy_zero}
use Rattle.rows.specs.Row.{Row, zero_row, zero_from}
use Rattle.connectors.specs.Connector.{zero_connector, pinouts_hold, connectors_past}
use Rattle.adapter.specs.Staged.{Staged, nothing_staged, running_with}

-- tables and counters: the phy count p, the row count a, the driver info, 32 phys and 64 rows, the controller's configuration and status, 32
-- connectors, and what firmware is staged (107 asks that phys, rows and connectors be zero past p and a)
pub record Adapter : Type 0 where
  pub phy_count : ℕ
  pub row_count : ℕ
  pub info : List ℕ
  pub phys : List Phy
  pub rows : List Row
  pub controller : List ℕ
  pub status : List ℕ
  pub connectors : List (List ℕ)
  pub staged : Staged

-- phy n of an adapter
abbrev pub phy_in : Adapter → ℕ → Phy
phy_in ad n = get_or ad.phys n no_phy

-- the same adapter with another phy n
unfoldable pub with_phy : Adapter → ℕ → Phy → Adapter
with_phy ad n phy =
    record {
      phy_count = ad.phy_count;
      row_count = ad.row_count;
      info = ad.info;
      phys = set ad.phys n phy;
      rows = ad.rows;
      controller = ad.controller;
      status = ad.status;
      connectors = ad.connectors;
      staged = ad.staged;
    }

-- the same adapter with another configuration of its controller, and with other firmware staged or none
unfoldable pub with_firmware : Adapter → List ℕ → Staged → Adapter
with_firmware ad controller staged =
    record {
      phy_count = ad.phy_count;
      row_count = ad.row_count;
      info = ad.info;
      phys = ad.phys;
      rows = ad.rows;
      controller = controller;
      status = ad.status;
      connectors = ad.connectors;
      staged = staged;
    }

-- the same with this staged
abbrev pub with_staged : Adapter → Staged → Adapter
with_staged ad staged = with_firmware ad ad.controller staged

-- "the staged image becomes the running one"; "A commit leaves nothing staged"
unfoldable pub made_current : Adapter → Adapter
made_current ad = with_firmware ad (running_with ad.controller ad.staged.revisions) nothing_staged

-- "A refused opening returns the zero state, p = 0"
unfoldable pub zero_adapter : Adapter
zero_adapter =
    record {
      phy_count = 0;
      row_count = 0;
      info = replicate 174 0;
      phys = replicate 32 zero_phy;
      rows = replicate 64 zero_row;
      controller = replicate 176 0;
      status = replicate 36 0;
      connectors = replicate 32 zero_connector;
      staged = nothing_staged;
    }

-- "the phy count p (1–32)", "the row count a (0–64)"
unfoldable pub counts_hold : ℕ → ℕ → Bool
counts_hold p a = leb 1 p && leb p 32 && leb a 64

-- what the rule on the counts says of each, as the code that goes through phys or rows asks it
abbrev pub FewPhys : Adapter → Type 0
FewPhys ad = ad.phy_count ≤ 32

abbrev pub FewRows : Adapter → Type 0
FewRows ad = ad.row_count ≤ 64

-- "medium length 8,192 × p"
abbrev pub medium_size : Adapter → ℕ
medium_size ad = 8192 * ad.phy_count

-- the field rules, of each phy below p (but for the negotiated rate, which the link rule gives), and of its connector
unfoldable pub fields_all : Adapter → Bool
fields_all ad =
    all_to (λ (n : ℕ). fields_hold (phy_in ad n) (record { 0 = n }) ad.phy_count) ad.phy_count
    && pinouts_hold ad.connectors ad.phy_count

-- "zero past p and a", the connectors too
unfoldable pub zero_past : Adapter → Bool
zero_past ad =
    all_to (λ (i : ℕ). phy_zero (phy_in ad (ad.phy_count + i))) (32 - ad.phy_count)
    && zero_from ad.rows ad.row_count
    && connectors_past ad.connectors ad.phy_count
