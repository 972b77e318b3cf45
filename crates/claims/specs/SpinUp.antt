-- Disks held at spin-up (W-205): what a held phy shows and answers, of every state that is accepted; and over whole runs the byte of a phy, by the
-- file, the requests as sent and their replies, never by a state. Assumes nothing.
use Rattle.std.specs.Prelude.{◌≡◌, ◌≢◌, true, List, ℕ, ◌<◌, eqb, length, get_or}
use Rattle.codes.specs.Codes.{set_phy_info, stp_passthru, phy_disabled, sata_spinup_hold}
use Rattle.phy.specs.declared.Phy.{Phy}
use Rattle.phy.specs.Entity.{is_sata, negotiated_of}
use Rattle.phy.specs.Change.{released}
use Rattle.fields.specs.Rules.{is_rate}
use Rattle.link.specs.Rule.{rule_of}
use Rattle.layout.specs.Layout.{phy_count}
use Rattle.contents.specs.Contents.{file_phy}
use Rattle.adapter.specs.Adapter.{phy_in}
use Rattle.select.specs.Select.{select_in}
use Rattle.stp.specs.Body.{phy_asked, port_asked}
use Rattle.state.specs.State.{state_size, state_of, state_holds}
use Rattle.state.specs.Open.{opened_of}
use Rattle.service.specs.Serve.{Store}
use Rattle.header.specs.Sent.{Request, control_of, body_of}
use Rattle.dispatch.specs.Request.{Point, point, handled}
use Rattle.claims.specs.Run.{Exchange, step, whole_run, exchanges}
use Rattle.claims.specs.LastWriter.{Writer, last}
use Rattle.claims.specs.RoundTrip.{grants}

abbrev pub phy_at_point : Point → ℕ → Phy
phy_at_point p n = phy_in p.state.adapter n

-- what W-205 says of phy n at a point, held or not
pub record SpinUpOf (p : Point) (n : ℕ) : Type 0 where
  -- "may be 1 on a SATA phy", and is else 0
  pub sata : (phy_at_point p n).spinup_hold ≢ 0 → ((phy_at_point p n).spinup_hold ≡ 1) × (is_sata (phy_at_point p n) ≡ true)
  -- the rate is 3 only where the phy is held and the link rule would give 8 or 9 if it were not,
  pub waits : negotiated_of (phy_at_point p n) ≡ sata_spinup_hold → ((phy_at_point p n).spinup_hold ≡ 1) × (is_rate (rule_of (released (phy_at_point p n))) ≡ true)
  -- and there it is 3, unless the phy is disabled
  pub shows : (phy_at_point p n).spinup_hold ≡ 1 → is_rate (rule_of (released (phy_at_point p n))) ≡ true → negotiated_of (phy_at_point p n) ≢ phy_disabled
      → negotiated_of (phy_at_point p n) ≡ sata_spinup_hold
  -- no code 25 that selects a held phy is granted, and none leaves a trace
  pub silent : (phy_at_point p n).spinup_hold ≡ 1 → (r : Request) → control_of r ≡ stp_passthru
      → (select_in p.state.adapter (phy_asked (body_of r)) (port_asked (body_of r))).phy.0 ≡ n → (grants r (handled p r) → ⊥) × (step p r ≡ p)
  -- "before its link reset": no link reset gives 3
  pub reset : (r : Request) → grants r (handled p r) → control_of r ≡ set_phy_info → get_or (body_of r) 0 0 ≡ n → negotiated_of (phy_at_point (step p r) n) ≢ sata_spinup_hold

-- "The next accepted code 21 on that phy sets the byte to 0 .., and also when it disables the phy"
abbrev pub spinup_writer : Writer ℕ ℕ
spinup_writer = record { code = set_phy_info; writes = λ n t. eqb (get_or t.body 0 0) n; puts = λ n t. 0 }

-- it starts as the file has it
abbrev pub last_spinup : List ℕ → List Exchange → ℕ → ℕ
last_spinup file xs n = last spinup_writer n (file_phy file n).spinup_hold xs

pub record SpinUp : Type 0 where
  -- of every phy of every lent state that 107 accepts
  pub phys : (state : List ℕ) (store : Store) (n : ℕ) → length state ≡ state_size → state_holds (state_of state) ≡ true → n < (state_of state).adapter.phy_count
      → SpinUpOf (point (state_of state) store) n
  -- after an opening that accepts and any list of requests the byte is 0 where a granted code 21 named the phy, and else the file's
  pub byte : (text file : List ℕ) (store : Store) → (opened_of text file store.medium).call ≡ 0 → (requests : List Request) (n : ℕ) → n < phy_count file
      → (phy_at_point (whole_run text file store requests).point n).spinup_hold ≡ last_spinup file (exchanges (whole_run text file store requests).log) n
