-- The closing tally of a run counts the requests that were granted and denied, and two runs differ in it by the denied ones. Assumes nothing.
use mathlib.Core.Path.{◌≡◌, refl, sym, ◌∙◌, ap}
use mathlib.Core.Bool.{Bool, true, false, cond}
use mathlib.Core.List.{List, [], ◌∷◌}
use Prim.Native.Nat.{suc, ◌+◌}
use native.Mathlib.Nat.{zero-add}
use native.Mathlib.Omega.{arith}
use lib.ListN.{length}
use Rattle.laws.specs.Choice.{by_bool}
use Rattle.laws.specs.Cases.{All}
use Rattle.laws.specs.Runs.{log, all_noted, shown_by, undropped}
use Rattle.tally.specs.declared.Line.{Line}
use Rattle.tally.specs.Kinds.{LineKind, Granted, Denied, Otherwise, Short, is}
use Rattle.tally.specs.Totals.{one, number_of, tally_of, Sums}
use Rattle.tally.proofs.KindsLaws.{denied_granted, denied_otherwise, denied_short}
use Rattle.tally.proofs.TotalsLaws.{sums, number_shown, number_alike}
use Rattle.header.specs.Sent.{Request}
use Rattle.dispatch.specs.Request.{Point}
use Rattle.claims.specs.Run.{Exchange, Entry, End, entry_of, step, run, opened_at, exchanges, not_denied}
use Rattle.claims.specs.LastWriter.{granted}
use Rattle.claims.specs.Claim.{lower_run, higher_run}
use Rattle.claims.specs.Lines.{line_of, lines_of}
use Rattle.claims.specs.ClosingTally.{totals_of, Counts, Beside, ClosingTally}
use Rattle.claims.proofs.Lines.{granted_line, denied_line}
use Rattle.claims.proofs.Demand3.{claim}

-- ---- the lines of a run

module _ {X : Type 0} where
  length_shown : {Y : Type 0} (g : X → Y) (xs : List X) → length (shown_by g xs) ≡ length xs
  unfolding shown_by
  length_shown g [] = refl
  length_shown g (x ∷ xs) = ap suc (length_shown g xs)

  all_of : (P : X → Type 0) → ((x : X) → P x) → (xs : List X) → All P xs
  all_of P h [] = tt
  all_of P h (x ∷ xs) = (h x, all_of P h xs)

-- each line of a run says whether its request was denied
Says : Entry → Type 0
Says e = is Denied (line_of e.exchange) ≡ e.denied

all_say : (p : Point) (requests : List Request) → All Says (run p requests).log
unfolding log Says
all_say p [] = tt
all_say p (r ∷ rs) = (denied_line p r, all_say (step p r) rs)

counts : (p : Point) (requests : List Request) → Counts requests (run p requests)
unfolding tally_of Says
counts p requests =
    let entries : List Entry = (run p requests).log in
    let shows : (Entry → Line) = λ e. line_of e.exchange in
    record {
      all =
          length_shown shows entries
          ∙ sym (length_shown (λ (e : Entry). e.exchange.sent) entries)
          ∙ ap length (all_noted step entry_of (λ (e : Entry). e.exchange.sent) (λ _ _. refl) p requests);
      granted =
          number_shown (is Granted) shows entries
          ∙ number_alike (λ e. is Granted (shows e)) (λ e. granted e.exchange) entries (all_of _ (λ e. granted_line e.exchange) entries);
      denied = number_shown (is Denied) shows entries ∙ number_alike (λ e. is Denied (shows e)) (λ e. e.denied) entries (all_say p requests);
      short = number_shown (is Short) shows entries;
      sums = sums (lines_of entries);
    }

-- ---- two runs

module _ (f : Entry → Bool) where
  -- of the entries that both were given, where no denied one passes the test
  given_both : ((e : Entry) → is Denied (line_of e.exchange) ≡ true → f e ≡ false) → (entries : List Entry) → All Says entries
      → number_of f (not_denied entries) ≡ number_of f entries
  unfolding number_of undropped Says
  given_both n [] h = refl
  given_both n (e ∷ entries) h =
      by_bool (λ (b : Bool). e.denied ≡ b → number_of f (cond b (not_denied entries) (e ∷ not_denied entries)) ≡ one (f e) + number_of f entries)
      (λ d. rw (n e (h.0 ∙ d), zero-add) (given_both n entries h.1))
      (λ d. rw (given_both n entries h.1) refl)
      e.denied refl

  -- and where none but the denied does
  denied_alone : ((e : Entry) → f e ≡ is Denied (line_of e.exchange)) → (entries : List Entry) → All Says entries → number_of f (not_denied entries) ≡ 0
  unfolding number_of undropped Says
  denied_alone n [] h = refl
  denied_alone n (e ∷ entries) h =
      by_bool (λ (b : Bool). e.denied ≡ b → number_of f (cond b (not_denied entries) (e ∷ not_denied entries)) ≡ 0)
      (λ d. denied_alone n entries h.1)
      (λ d. rw (n e, h.0, d, denied_alone n entries h.1) refl)
      e.denied refl

-- a test of the lines, by the exchanges
by_exchanges : (k : LineKind) (entries : List Entry) → number_of (is k) (lines_of entries) ≡ number_of (λ (x : Exchange). is k (line_of x)) (exchanges entries)
by_exchanges k entries =
    number_shown (is k) (λ (e : Entry). line_of e.exchange) entries
    ∙ sym (number_shown (λ (x : Exchange). is k (line_of x)) (λ (e : Entry). e.exchange) entries)

module _ (lower higher : End) (says : All Says lower.log) (same : exchanges (not_denied lower.log) ≡ exchanges higher.log) where
  -- the higher run's lines, by the lower's entries
  lines_given : (k : LineKind) → number_of (is k) (lines_of higher.log) ≡ number_of (λ (e : Entry). is k (line_of e.exchange)) (not_denied lower.log)
  lines_given k =
      by_exchanges k higher.log
      ∙ ap (number_of (λ (x : Exchange). is k (line_of x))) (sym same)
      ∙ number_shown (λ (x : Exchange). is k (line_of x)) (λ (e : Entry). e.exchange) (not_denied lower.log)

  -- another kind than denied has as many
  as_many : (k : LineKind) → ((l : Line) → is Denied l ≡ true → is k l ≡ false) → number_of (is k) (lines_of lower.log) ≡ number_of (is k) (lines_of higher.log)
  as_many k other =
      number_shown (is k) (λ (e : Entry). line_of e.exchange) lower.log
      ∙ sym (lines_given k ∙ given_both (λ (e : Entry). is k (line_of e.exchange)) (λ e. other (line_of e.exchange)) lower.log says)

  none_denied : number_of (is Denied) (lines_of higher.log) ≡ 0
  none_denied = lines_given Denied ∙ denied_alone (λ (e : Entry). is Denied (line_of e.exchange)) (λ e. refl) lower.log says

  beside : Beside (totals_of lower) (totals_of higher)
  unfolding tally_of
  beside =
      let g = as_many Granted denied_granted in
      let o = as_many Otherwise denied_otherwise in
      let s = as_many Short denied_short in
      let l : Sums (totals_of lower) = sums (lines_of lower.log) in
      let h : Sums (totals_of higher) = sums (lines_of higher.log) in
      record { requests = omega (arith, l, h, g, o, s, none_denied); granted = g; denied = none_denied; otherwise = o; short = s }

pub closing_tally : ClosingTally
closing_tally =
    record {
      one_run = counts;
      two_runs = λ low high file store requests p q h.
          beside (lower_run low high file store requests) (higher_run low high file store requests) (all_say (opened_at low file store) requests)
          ((claim low high file store requests).comparison p q h).replies;
    }
