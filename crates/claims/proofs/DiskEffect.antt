-- The effect of code 25: the sectors of every disk, judged by the request, its return code and its reply. Assumes nothing.
use mathlib.Core.Path.{◌≡◌, refl, sym, ◌∙◌, ap}
use mathlib.Core.Logic.{◌≢◌}
use mathlib.Core.Bool.{Bool, true, cond, ◌&&◌, not}
use mathlib.Core.List.{List}
use Prim.Native.Nat.{ℕ, ◌+◌, ◌-◌, ◌*◌, ◌<◌, ◌≤◌}
use native.Mathlib.Omega.{arith}
use native.Mathlib.Decide.{ℕ_discrete}
use lib.Dec.{eqb, ltb, leb}
use lib.ListN.{length}
use borrow.Author.Tests.{eq-eqb, ne_eqb, eqb-true, eqb-false, ltb-true, ltb-false}
use Rattle.laws.specs.Choice.{by_bool, either, either_by, and_true, and_false}
use Rattle.laws.specs.Splice.{part, splice, length_part, length_splice, part_splice, splice_own, part_below, part_above}
use Rattle.codes.specs.Codes.{success, invalid_parameter, connection_failed, stp_passthru}
use Rattle.phy.specs.declared.PhyIdentifier.{PhyIdentifier}
use Rattle.phy.specs.declared.PortIdentifier.{PortIdentifier}
use Rattle.stp.specs.Body.{fis, command, data_length}
use Rattle.disk.specs.Disk.{lba, performed, Performed, Lent}
use Rattle.disk.proofs.WaysLaws.{performed_by}
use Rattle.disk.specs.Sector.{sector, reply_status, covers}
use Rattle.disk.proofs.Laws.{writes, sector_after, disk_length, disk_read, sector_after_lem}
use Rattle.adapter.specs.Adapter.{Adapter, medium_size, phy_in}
use Rattle.select.specs.Select.{Selection}
use Rattle.select.specs.Select.{selection, select_by, lowest_of, phy_given, port_given, port_in}
use Rattle.select.proofs.Laws.{selected_below}
use Rattle.stp.specs.Body.{phy_asked, port_asked, connection_rate, destination_of}
use Rattle.passthrough.specs.Passthrough.{Passed, passes, form_holds, connected, disk_of, on_disk, sent_to, passed_to, passthrough}
use Rattle.service.specs.Serve.{Store, with_medium, passed}
use Rattle.claims.specs.LastWriter.{Told, after, Sector, sector_in, sector_writer}
use Rattle.claims.proofs.Ways.{Own}
use Rattle.claims.proofs.Effect.{quiet_other, selects_in, OnStore, Does, tables_kept, no_effect}

-- ---- the ways that it can go

module _ (ad : Adapter) (medium body : List ℕ) where
  chosen_code : Own (selects_in ad body).code
  unfolding select_by selection
  chosen_code =
      let phy : PhyIdentifier = phy_asked body in
      let port : PortIdentifier = port_asked body in
      let lowest : PhyIdentifier = lowest_of (port_in ad) ad.phy_count port in
      either Chosen (not (phy_given phy) && not (port_given port)) (omega arith, λ e. omega arith)
      (either Chosen (phy_given phy && leb ad.phy_count phy.0) (omega arith, λ e. omega arith)
      (either Chosen (port_given port && leb ad.phy_count lowest.0) (omega arith, λ e. omega arith)
      (either Chosen (phy_given phy && port_given port && not (eqb (port_in ad phy.0).0 port.0)) (omega arith, λ e. omega arith)
      (either Chosen (phy_given phy) (omega arith, λ e. omega arith) (omega arith, λ e. omega arith)))))
    where
      Chosen : Selection → Type 0
      Chosen s = Own s.code

  -- it is refused, or the phy that it selects is connected and its disk serves the command
  pub passed_by : (P : Passed → Type 0) → ((code : ℕ) → 0 < code → Own code → P (passes code medium body))
      → ((selects_in ad body).code ≡ success → connected (phy_in ad (selects_in ad body).phy.0) (connection_rate body) (destination_of body) ≡ true
      → P (on_disk medium (selects_in ad body).phy.0 body)) → P (passthrough ad medium body)
  unfolding passthrough passed_to sent_to
  passed_by P refused done =
      let s : Selection = selects_in ad body in
      either P (form_holds (fis body 0) (connection_rate body))
      (either_by P (eqb s.code success)
      (λ h. either_by P (connected (phy_in ad s.phy.0) (connection_rate body) (destination_of body)) (done (eqb-true s.code success h))
      (λ _. refused connection_failed (omega arith) (omega arith, λ e. omega arith)))
      (λ h. let n : s.code ≢ 0 = eqb-false s.code success h in
      refused s.code (omega arith) chosen_code))
      (refused invalid_parameter (omega arith) (omega arith, λ e. omega arith))

  chosen_below : (selects_in ad body).code ≡ success → (selects_in ad body).phy.0 < ad.phy_count
  unfolding select_by
  chosen_below h = selected_below (phy_asked body) (port_asked body) ad.phy_count _ _ h

-- ---- a disk put back in its place

module _ (medium d : List ℕ) (n : ℕ) (h : 8192 * n + 8192 ≤ length medium) (l : length d ≡ 8192) where
  own_disk : disk_of (splice medium (8192 * n) d) n ≡ d
  own_disk = rw l at (part_splice medium (8192 * n) d (omega arith))

  other_disk : (m : ℕ) → m ≢ n → disk_of (splice medium (8192 * n) d) m ≡ disk_of medium m
  other_disk m e =
      by_bool (λ (t : Bool). ltb m n ≡ t → disk_of (splice medium (8192 * n) d) m ≡ disk_of medium m)
      (λ p. let b : m < n = ltb-true m n p in
      part_below medium (8192 * n) d (8192 * m) 8192 (omega arith) (omega arith))
      (λ p. let b : n ≤ m = ltb-false m n p in
      part_above medium (8192 * n) d (8192 * m) 8192 (omega arith) (omega arith))
      (ltb m n) refl

-- ---- a command that a disk serves

module _ (ad : Adapter) (store : Store) (body : List ℕ) (h : length store.medium ≡ medium_size ad) (r : 136 + data_length body ≤ length body)
    (c : (selects_in ad body).code ≡ success)
  where
    abbrev to : ℕ
    to = (selects_in ad body).phy.0

    abbrev onto : Performed
    onto = performed (disk_of store.medium to) body

    abbrev told : Told
    told = record { granted = eqb onto.code success; control = stp_passthru; body = body; reply = onto.body }

    inside : 8192 * to + 8192 ≤ length store.medium
    inside = omega (arith, chosen_below ad store.medium body c)

    lent : Lent (disk_of store.medium to) body (data_length body)
    lent = (length_part store.medium (8192 * to) 8192 inside, r)

    size : length onto.disk ≡ 8192
    size = disk_length (disk_of store.medium to) body lent

    -- what the disk writes is what the reply tells
    told_writes : (s : Sector) (before : List ℕ)
        → after (sector_writer (selects_in ad)) s told before
        ≡ cond (writes onto.code body onto.body && eqb to s.phy && covers body s.number) (part body (136 + 512 * (s.number - lba body)) 512) before
    unfolding after writes
    told_writes s before =
        rw (c, and_true)
        (by_bool (λ (b : Bool). cond (b && (eqb (command body) 0x30 && eqb (reply_status onto.body) 0x50 && eqb to s.phy && covers body s.number))
        (part body (136 + 512 * (s.number - lba body)) 512) before
        ≡ cond (b && (eqb (command body) 0x30 && eqb (reply_status onto.body) 0x50) && eqb to s.phy && covers body s.number)
        (part body (136 + 512 * (s.number - lba body)) 512) before)
        refl refl (eqb onto.code success))

    disk_sectors : (s : Sector) → sector_in (with_medium store (splice store.medium (8192 * to) onto.disk)) s ≡ after (sector_writer (selects_in ad)) s told (sector_in store s)
    unfolding sector_after
    disk_sectors s = at (ℕ_discrete s.phy to) ∙ sym (told_writes s (sector_in store s))
      where
        at : Dec (s.phy ≡ to)
            → sector (disk_of (splice store.medium (8192 * to) onto.disk) s.phy) s.number
            ≡ cond (writes onto.code body onto.body && eqb to s.phy && covers body s.number) (part body (136 + 512 * (s.number - lba body)) 512) (sector_in store s)
        at (yes e) =
            rw (e, eq-eqb to to refl, and_true, own_disk store.medium onto.disk to inside size)
            (sector_after_lem (disk_of store.medium to) body lent s.number)
        at (no d) =
            rw (ne_eqb to s.phy (λ e. d (sym e)), and_false)
            (ap (λ (x : List ℕ). sector x s.number) (other_disk store.medium onto.disk to inside size s.phy d))

    disk_store : OnStore ad told store (with_medium store (splice store.medium (8192 * to) onto.disk))
    disk_store = record { size = length_splice store.medium (8192 * to) onto.disk (rw size inside); stage = refl; sectors = disk_sectors }

    disk_code : onto.code ≤ 2014
    disk_code =
        performed_by (disk_of store.medium to) body lent (λ (s : Performed). s.code ≤ 2014)
        (record { refused = omega arith; plain = λ _. omega arith; filled = λ _ _ _. omega arith; written = λ _ _ _. omega arith })

    -- a command that is no write: its disk is put back as it was
    medium_read : (command body ≡ 0x30 → ⊥) → splice store.medium (8192 * to) onto.disk ≡ store.medium
    medium_read n = rw (disk_read (disk_of store.medium to) body lent n) (splice_own store.medium (8192 * to) 8192 inside)

-- ---- the effect

-- of a command that is no write: none on the disks
pub passthrough_read : (ad : Adapter) (store : Store) (body : List ℕ) → length store.medium ≡ medium_size ad → 136 + data_length body ≤ length body
    → (command body ≡ 0x30 → ⊥) → (passthrough ad store.medium body).medium ≡ store.medium
unfolding on_disk
passthrough_read ad store body h r n =
    passed_by ad store.medium body (λ (p : Passed). p.medium ≡ store.medium) (λ _ _ _. refl) (λ c _. medium_read ad store body h r c n)

pub passthrough_effect : (ad : Adapter) (store : Store) (body : List ℕ) → length store.medium ≡ medium_size ad → 136 + data_length body ≤ length body
    → Does ad store stp_passthru body (passed ad store (passthrough ad store.medium body))
unfolding on_disk
passthrough_effect ad store body h r =
    passed_by ad store.medium body (λ (p : Passed). Does ad store stp_passthru body (passed ad store p))
    (λ code k own. record { small = own.0; effect = no_effect ad _ store (ne_eqb code success (λ e. omega arith)) })
    (λ c _. record {
      small = disk_code ad store body h r c;
      effect = record {
        tables = tables_kept ad (told ad store body h r c) (λ w e. quiet_other w (told ad store body h r c) (λ q. omega arith));
        store = disk_store ad store body h r c;
      };
    })
