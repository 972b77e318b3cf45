-- The proof of demand 3: the comparison of two runs, and the last writer of both. Assumes nothing.
use mathlib.Core.Path.{◌≡◌, refl, sym, ◌∙◌, ap, ap₂}
use mathlib.Core.Bool.{Bool, true, false, cond}
use mathlib.Core.List.{List}
use Prim.Native.Nat.{ℕ, ◌<◌, ◌≤◌}
use native.Mathlib.Omega.{arith}
use native.Mathlib.Decide.{ℕ_discrete}
use lib.Dec.{eqb, ltb}
use lib.ListN.{length}
use borrow.Author.Tests.{ltb-true, ltb-false}
use Rattle.laws.specs.Choice.{by_bool, either}
use Rattle.laws.specs.First.{first_same}
use Rattle.laws.specs.Runs.{ends, log, fold_shown, noted, all_noted, kept, by_log, matched_own, Compared, compare}
use Rattle.codes.specs.Codes.{bad_state}
use Rattle.phy.specs.declared.Phy.{Phy}
use Rattle.phy.specs.declared.PhyIdentifier.{PhyIdentifier}
use Rattle.phy.specs.declared.PortIdentifier.{PortIdentifier}
use Rattle.phy.proofs.BlockLaws.{length_entity}
use Rattle.phy.specs.Entity.{port_of, programmed_minimum, programmed_maximum}
use Rattle.level.specs.declared.Level.{Level}
use Rattle.level.specs.Text.{text_level}
use Rattle.level.proofs.BoundLaws.{level_bound}
use Rattle.layout.specs.Layout.{phy_count, row_count, phy_block}
use Rattle.block.specs.Check.{block_at}
use Rattle.block.proofs.CheckLaws.{length_block}
use Rattle.contents.specs.Contents.{file_phy, adapter_of}
use Rattle.file.specs.File.{FileRead, file_read}
use Rattle.file.proofs.AcceptedLaws.{phy_read, length_phys}
use Rattle.adapter.specs.Adapter.{Adapter, phy_in, zero_adapter, counts_hold}
use Rattle.adapter.proofs.StoreLaws.{phys_bound}
use Rattle.select.specs.Select.{lowest_of, selection, select_by}
use Rattle.select.proofs.Laws.{identifier_by, selection_portful}
use Rattle.stp.specs.Body.{phy_asked, port_asked}
use Rattle.state.specs.State.{state_with, adapter_holds, state_holds, zero_state}
use Rattle.state.specs.Open.{Opened, refused_opening, opened, open_number, opened_file, opened_text, opened_of}
use Rattle.state.proofs.AcceptedLaws.{Open, open_accepted}
use Rattle.service.specs.Serve.{Store}
use Rattle.header.specs.declared.Kind.TheVariants.{Linux}
use Rattle.header.specs.Sent.{Request}
use Rattle.dispatch.specs.Request.{Point, point, Outcome, state_number, buffer_number, untouched, handled}
use Rattle.claims.specs.Run.{Exchange, Entry, reply_of, exchange_of, step, entry_of, run, opened_at, whole_run, exchanges, requests_in, not_denied, denial}
use Rattle.claims.specs.LastWriter.{told_by, Writer, after, last, Sector, sector_in, sector_writer, selects_by, rate_writer}
use Rattle.claims.specs.Claim.{LastWriterHalf, OneRun, given_both, higher_run, Claim}
use Rattle.claims.proofs.Steps.{denied_step, linux_given, level_kept}
use Rattle.claims.proofs.HigherSteps.{Same, same_step}
use Rattle.claims.proofs.Moved.{Sized}
use Rattle.claims.proofs.Effect.{selects_in}
use Rattle.claims.proofs.Reached.{request_effect, Reached, sized_reached, reached_step, reached_start, reached}

-- ---- any last writer, over the points of a run

module _ (start : Point) (z : Sized start.state.adapter) {K A : Type 0} (w : Writer K A) (key : K) (view : Point → A) where
  last_by : ((p : Point) (r : Request) → Reached start p → view (step p r) ≡ after w key (told_by (exchange_of r (handled p r))) (view p))
      → (requests : List Request) → view (ends step entry_of start requests) ≡ last w key (view start) (exchanges (log step entry_of start requests))
  last_by s requests =
      by_log step entry_of (Reached start) (reached_step start z) view (λ (e : Entry). after w key (told_by e.exchange)) s start requests (reached_start start z)
      ∙ sym (fold_shown (λ (x : Exchange). after w key (told_by x)) (λ (e : Entry). e.exchange) (view start) (log step entry_of start requests))

-- ---- a selection goes by the ports below p alone

select_same : (f g : ℕ → PortIdentifier) (p : ℕ) (phy : PhyIdentifier) (port : PortIdentifier) → ((n : ℕ) → n < p → f n ≡ g n)
    → select_by f p phy port ≡ select_by g p phy port
unfolding select_by lowest_of
select_same f g p phy port h =
    let l : lowest_of f p port ≡ lowest_of g p port =
    identifier_by _ _ (first_same (λ (n : ℕ). eqb (f n).0 port.0) (λ (n : ℕ). eqb (g n).0 port.0) p
    (λ n k. ap (λ (x : PortIdentifier). eqb x.0 port.0) (h n k))) in
    rw l
    (by_bool (λ (t : Bool). ltb phy.0 p ≡ t
    → selection phy port p (lowest_of g p port) (f phy.0) ≡ selection phy port p (lowest_of g p port) (g phy.0))
    (λ e. rw (h phy.0 (ltb-true phy.0 p e)))
    (λ e. selection_portful phy port p (lowest_of g p port) (f phy.0) (g phy.0) (ltb-false phy.0 p e))
    (ltb phy.0 p) refl)

-- ---- where the opening accepts

module _ (text file : List ℕ) (store : Store) (h : (opened_of text file store.medium).call ≡ 0) where
  abbrev start : Point
  start = opened_at text file store

  opening : Open text file store.medium
  opening = open_accepted text file store.medium h

  few : phy_count file ≤ 32
  few = phys_bound (phy_count file) (row_count file) true (sym opening.read.counts) refl

  -- the phys are the file's
  starts : (n : ℕ) → n < phy_count file → phy_in start.state.adapter n ≡ file_phy file n
  starts n l = rw opening.opened (phy_read file (phy_count file) (row_count file) n l)

  counted : start.state.adapter.phy_count ≡ phy_count file
  unfolding adapter_of
  counted = rw opening.opened refl

  entity_read : (n : ℕ) → n < phy_count file → length (file_phy file n).entity ≡ 64
  unfolding file_phy
  entity_read n k = length_entity (block_at file (phy_block n)) (length_block file (phy_block n) (omega (arith, opening.read.size)))

  pub sized_opened : Sized start.state.adapter
  sized_opened =
      record {
        phys = rw opening.opened (length_phys file (phy_count file) (row_count file) few);
        entities = λ n k. let l : n < phy_count file = rw counted at k in ap (λ (x : Phy). length x.entity) (starts n l) ∙ entity_read n l;
      }

  -- the phy that a request selects is found from the file
  selects_same : (p : Point) → Reached start p → (body : List ℕ) → selects_in p.state.adapter body ≡ selects_by file body
  unfolding selects_by
  selects_same p i body =
      rw (i.moved.count, counted)
      (select_same (λ (n : ℕ). port_of (phy_in p.state.adapter n)) (λ (n : ℕ). port_of (file_phy file n)) (phy_count file) (phy_asked body) (port_asked body)
      (λ n k. (i.moved.phys n (sized_opened.entities n (rw counted k))).port ∙ ap port_of (starts n k)))

  sectors_last : (s : Sector) (requests : List Request) → sector_in (whole_run text file store requests).point.store s
      ≡ last (sector_writer (selects_by file)) s (sector_in store s) (exchanges (whole_run text file store requests).log)
  unfolding after
  sectors_last s =
      last_by start sized_opened (sector_writer (selects_by file)) s (λ (p : Point). sector_in p.store s)
      (λ p r i. rw (← (selects_same p i)) ((request_effect p r (sized_reached start sized_opened p i)).store.sectors s))

  -- whatever is written of a phy, alike
  module _ (w : Writer ℕ ℕ) (view : Phy → ℕ) (n : ℕ) (l : n < phy_count file) where
    abbrev seen : Point → ℕ
    seen p = view (phy_in p.state.adapter n)

    pub phys_last : ((p : Point) (r : Request) → Reached start p → seen (step p r) ≡ after w n (told_by (exchange_of r (handled p r))) (seen p))
        → (requests : List Request)
        → seen (whole_run text file store requests).point ≡ last w n (view (file_phy file n)) (exchanges (whole_run text file store requests).log)
    phys_last s requests = rw (starts n l) at (last_by start sized_opened w n seen s requests)

  minima_last : (n : ℕ) → n < phy_count file → (requests : List Request) → programmed_minimum (phy_in (whole_run text file store requests).point.state.adapter n)
      ≡ last (rate_writer 2) n (programmed_minimum (file_phy file n)) (exchanges (whole_run text file store requests).log)
  minima_last n l = phys_last (rate_writer 2) programmed_minimum n l (λ p r i. (request_effect p r (sized_reached start sized_opened p i)).tables.minima n)

  maxima_last : (n : ℕ) → n < phy_count file → (requests : List Request) → programmed_maximum (phy_in (whole_run text file store requests).point.state.adapter n)
      ≡ last (rate_writer 3) n (programmed_maximum (file_phy file n)) (exchanges (whole_run text file store requests).log)
  maxima_last n l = phys_last (rate_writer 3) programmed_maximum n l (λ p r i. (request_effect p r (sized_reached start sized_opened p i)).tables.maxima n)

-- ---- where it refuses

pub opened_zero : (text file medium : List ℕ) → ((opened_of text file medium).call ≡ 0 → ⊥) → (opened_of text file medium).state ≡ zero_state
unfolding opened_of opened_text opened_file
opened_zero text file medium =
    either Zero (eqb (text_level text).call 0)
    (either Zero (eqb (open_number (file_read file) (length medium)) 0) (λ n. absurd (n refl)) (λ _. refl))
    (λ _. refl)
  where
    Zero : Opened → Type 0
    Zero o = (o.call ≡ 0 → ⊥) → o.state ≡ zero_state

-- 107 refuses the zero state, so it goes on as it is
zero_step : (store : Store) (r : Request) → handled (point zero_state store) r ≡ untouched bad_state (point zero_state store) r
unfolding handled buffer_number state_number state_holds adapter_holds counts_hold zero_state zero_adapter
zero_step store r = refl

zero_run : (store : Store) (requests : List Request) → ends step entry_of (point zero_state store) requests ≡ point zero_state store
zero_run store requests =
    kept step entry_of (λ (p : Point). p ≡ point zero_state store) (λ p r e. rw e (ap (λ (o : Outcome). o.point) (zero_step store r)))
    (point zero_state store) requests refl

refused_run : (text file : List ℕ) (store : Store) (requests : List Request) → ((opened_of text file store.medium).call ≡ 0 → ⊥)
    → (whole_run text file store requests).point ≡ point zero_state store
refused_run text file store requests h = rw (opened_zero text file store.medium h) (zero_run store requests)

-- ---- one run

last_writer_lem : (text file : List ℕ) (store : Store) (requests : List Request) → LastWriterHalf text file store (whole_run text file store requests)
last_writer_lem text file store requests =
    record {
      sectors = λ h s _ _. sectors_last text file store h s requests;
      minima = λ h n l. minima_last text file store h n l requests;
      maxima = λ h n l. maxima_last text file store h n l requests;
      size = kept_size (ℕ_discrete (opened_of text file store.medium).call 0);
      refused_state = λ h. ap (λ (p : Point). p.state) (refused_run text file store requests h);
      refused_store = λ h. ap (λ (p : Point). p.store) (refused_run text file store requests h);
    }
  where
    kept_size : Dec ((opened_of text file store.medium).call ≡ 0) → length (whole_run text file store requests).point.store.medium ≡ length store.medium
    kept_size (yes h) = (reached (opened_at text file store) (sized_opened text file store h) requests).size
    kept_size (no h) = ap (λ (p : Point). length p.store.medium) (refused_run text file store requests h)

one_run : (text file : List ℕ) (store : Store) (requests : List Request) → OneRun text file store requests (whole_run text file store requests)
one_run text file store requests =
    let p : Point = opened_at text file store in
    record {
      all_answered = all_noted step entry_of (λ (e : Entry). e.exchange.sent) (λ _ _. refl) p requests;
      level = kept step entry_of (λ (q : Point). q.state.level ≡ p.state.level) (λ q r e. level_kept q r ∙ e) p requests refl;
      denials = noted step entry_of (λ (e : Entry). e.denied ≡ true → e.exchange.reply ≡ denial e.exchange.sent)
          (λ q r d. ap (λ (o : Outcome). reply_of o) (denied_step q r d)) p requests;
      linux = noted step entry_of (λ (e : Entry). (control : ℕ) → e.exchange.sent.kind ≡ Linux control → e.denied ≡ false)
          (λ q r control k. linux_given q r control k) p requests;
      last_writer = last_writer_lem text file store requests;
    }

-- ---- two runs

-- two points that differ in the level alone, levels in order
record Alike (p q : Point) : Type 0 where
  adapter : p.state.adapter ≡ q.state.adapter
  store : p.store ≡ q.store
  levels : p.state.level.0 ≤ q.state.level.0
  bound : q.state.level.0 ≤ 3

after_denied : (p q : Point) (r : Request) → (entry_of p r).denied ≡ true → Alike p q → Alike (step p r) q
after_denied p q r d a =
    let w : step p r ≡ p = ap (λ (o : Outcome). o.point) (denied_step p r d) in
    rw w a

after_given : (p q : Point) (r t : Request) → (entry_of p r).denied ≡ false → r ≡ t → Alike p q
    → Alike (step p r) (step q t) × ((entry_of p r).exchange ≡ (entry_of q t).exchange)
after_given p q r t d e a =
    let s : Same (handled p r) (handled q r) = same_step p q r a.adapter a.store a.levels a.bound d in
    rw (← e) (
      record {
        adapter = s.adapter;
        store = s.store;
        levels = rw (level_kept p r, level_kept q r) a.levels;
        bound = rw (level_kept q r) a.bound;
      },
      ap₂ (λ (call : ℕ) (buffer : List ℕ). record { sent = r; reply = record { call = call; buffer = buffer } }) s.call s.buffer,
    )

-- two openings of one file and one medium, by texts that give levels
opened_alike : (store : Store) (l m : Level) (f : FileRead) (size : ℕ) → l.0 ≤ m.0 → m.0 ≤ 3
    → Alike (point (opened_file l f size).state store) (point (opened_file m f size).state store)
unfolding opened_file zero_state
opened_alike store l m f size h k =
    by_bool (λ (t : Bool). Alike (point (cond t (opened l f.adapter) (refused_opening (open_number f size))).state store)
    (point (cond t (opened m f.adapter) (refused_opening (open_number f size))).state store))
    (record { adapter = refl; store = refl; levels = h; bound = k }) (record { adapter = refl; store = refl; levels = omega arith; bound = omega arith })
    (eqb (open_number f size) 0)

texts_alike : (low high file : List ℕ) (store : Store) → (text_level low).call ≡ 0 → (text_level high).call ≡ 0 → (text_level low).level.0 ≤ (text_level high).level.0
    → Alike (opened_at low file store) (opened_at high file store)
unfolding opened_of opened_text
texts_alike low high file store p q h =
    rw (p, q) (opened_alike store (text_level low).level (text_level high).level (file_read file) (length store.medium) h (level_bound high))

-- the runs are given the same requests
abbrev SameRequest : Point → Point → Request → Request → Type 0
SameRequest p q r t = r ≡ t

two_runs : (p q : Point) (requests : List Request) → Alike p q
    → Compared step entry_of (λ (e : Entry). e.denied) SameRequest (λ (e : Entry). e.exchange) Alike p q requests (requests_in (not_denied (run p requests).log))
two_runs p q requests a =
    compare step entry_of (λ (e : Entry). e.denied) SameRequest (λ (e : Entry). e.exchange) Alike after_denied after_given p q requests
    (requests_in (not_denied (run p requests).log)) a
    (matched_own step entry_of (λ (e : Entry). e.denied) SameRequest (λ (e : Entry). e.exchange.sent) (λ _ _. refl) (λ _ _ _. refl) p q requests)

pub claim : Claim
claim low high file store requests =
    record {
      lower = one_run low file store requests;
      higher = one_run high file store (given_both low high file store requests);
      comparison = λ p q h.
          let c = two_runs (opened_at low file store) (opened_at high file store) requests (texts_alike low high file store p q h) in
          record { tables = ap (λ (ad : Adapter). state_with (higher_run low high file store requests).point.state.level ad) c.related.adapter; store = c.related.store; replies = c.same };
    }
