-- The run of a session, request by request, as the loop goes. Assumes nothing.
use mathlib.Core.Path.{◌≡◌, refl, sym, ◌∙◌, ap}
use mathlib.Core.List.{List, ◌∷◌, ◌++◌, append_assoc, append-nil}
use Prim.Native.Nat.{ℕ, zero, suc, ◌+◌, ◌-◌, ◌*◌, ◌<◌, ◌≤◌}
use native.Mathlib.Nat.{add_assoc, sub-zero, add-zero, zero-add}
use native.Mathlib.Omega.{arith}
use lib.ListN.{length, take, drop, length-append, length-drop, take-append-drop}
use lib.Seq.{take_at, drop_at, take-append-add, drop-append-add, drop-drop, take-take, length-take-le}
use borrow.Author.Tests.{eq-eqb, ne_eqb}
use Rattle.laws.specs.Splice.{rest, rest_end}
use Rattle.laws.specs.Runs.{ends, log}
use Rattle.wire.specs.Number.{bytes}
use Rattle.state.specs.State.{State}
use Rattle.header.specs.Sent.{Request}
use Rattle.service.specs.Serve.{Store}
use Rattle.dispatch.specs.Request.{Point, point, handled}
use Rattle.claims.specs.Run.{Entry, End, exchange_of, step, entry_of, run}
use Rattle.frames.specs.declared.Framing.{Framing}
use Rattle.frames.specs.Frames.{prefix_size, first_size, first_of, behind_first, request_in, requests_of}
use Rattle.tally.specs.Record.{line_bytes}
use Rattle.tally.proofs.RecordLaws.{length_line}
use Rattle.claims.specs.Lines.{line_of}
use Rattle.session.specs.Session.{with_replies, record_of, Ran, ran, shown, ran_from, Recorded, records, after_framed, before_rests, after_first, behind_both, after_at}
use Rattle.frames.proofs.FramesLaws.{first_prefix}

-- a run's bytes behind those of the requests before it
abbrev pub behind_done : ℕ → List ℕ → List ℕ → Ran → Ran
behind_done count session lines r = ran (count + r.count) r.store (session ++ r.session) (lines ++ r.lines)

-- ---- the first request of a run

-- a run with one entry more before it
shown_more : (f : Framing) (e : Entry) (end : End) (session lines : List ℕ)
    → shown f (record { point = end.point; log = e ∷ end.log }) session lines
    ≡ behind_done 1 (take (prefix_size f) session ++ e.exchange.reply.buffer) (line_bytes (line_of e.exchange)) (shown f end (behind_first f session) (drop 8 lines))
unfolding shown with_replies record_of
shown_more f e end session lines =
    let n : ℕ = length end.log in
    let c : suc n ≡ 1 + n = omega arith in
    let w : 8 * suc n ≡ 8 + 8 * n = omega arith in
    let d : drop (8 * suc n) lines ≡ drop (8 * n) (drop 8 lines) = rw (w, drop-drop) refl in
    rw (d, c, append_assoc (take (prefix_size f) session), append_assoc (line_bytes (line_of e.exchange))) refl

module _ (f : Framing) (p : Point) (session lines : List ℕ) where
  ran_full : ran_from f 0 p session lines ≡ ran 0 p.store session lines
  unfolding ran_from requests_of ends log shown with_replies record_of
  ran_full = refl

  -- none stands there
  ran_none : (room : ℕ) → first_size f session ≡ 0 → ran_from f room p session lines ≡ ran 0 p.store session lines
  unfolding ran_from requests_of ends log shown with_replies record_of
  ran_none zero h = refl
  ran_none (suc room) h = rw (eq-eqb (first_size f session) 0 h) refl

  abbrev first : Recorded
  first = after_framed f p (first_of f session)

  line_size : length first.line ≡ 8
  unfolding after_framed
  line_size =
      length_line (line_of (exchange_of (request_in f (first_of f session)) (handled p (request_in f (first_of f session)))))

  ran_more : (room : ℕ) → (first_size f session ≡ 0 → ⊥)
      → ran_from f (suc room) p session lines ≡ behind_done 1 first.bytes first.line (ran_from f room first.point (behind_first f session) (drop 8 lines))
  unfolding ran_from requests_of ends log after_framed
  ran_more room h =
      let r : Request = request_in f (first_of f session) in
      rw (ne_eqb (first_size f session) 0 h, take-take (prefix_size f) (first_size f session) session (first_prefix f session (first_size f session) refl h))
      (shown_more f (entry_of p r) (run (step p r) (requests_of f room (behind_first f session))) session lines)

  -- the same, by what it left in the whole session and the whole record
  ran_first : (size : ℕ) → size ≡ first_size f session → size ≤ length session → (size ≡ 0 → ⊥) → (q : Point) (session' lines' : List ℕ)
      → records q session' lines' ≡ after_first f size p session lines → length session' ≡ length session → (room : ℕ)
      → ran_from f (suc room) p session lines ≡ behind_done 1 (take size session') (take 8 lines') (ran_from f room q (drop size session') (drop 8 lines'))
  unfolding after_first
  ran_first size s b h q session' lines' e l room =
      let k : ℕ = first_size f session in
      let d : records q session' lines' ≡ before_rests (drop k session) (drop 8 lines) first = rw s at e in
      let a : session' ≡ first.bytes ++ drop k session = ap (λ (x : Recorded). x.bytes) d in
      let c : lines' ≡ first.line ++ drop 8 lines = ap (λ (x : Recorded). x.line) d in
      let n : length first.bytes ≡ k = omega (arith, simp (length-append, length-drop) at (ap length a)) in
      rw (
        s,
        a,
        c,
        take_at first.bytes (drop k session) k n,
        drop_at first.bytes (drop k session) k n,
        take_at first.line (drop 8 lines) 8 line_size,
        drop_at first.line (drop 8 lines) 8 line_size,
        ap (λ (x : Recorded). x.point) d,
      )
      (ran_more room (λ z. h (s ∙ z)))

-- ---- the loop

-- a run of which so many requests are done, up to an index of the session
abbrev pub ran_after : Framing → ℕ → Point → List ℕ → List ℕ → ℕ → ℕ → Ran
ran_after f room p session lines at count =
    behind_done count (take at session) (take (8 * count) lines) (ran_from f (room - count) p (drop at session) (drop (8 * count) lines))

pub run_starts : (f : Framing) (room : ℕ) (p : Point) (session lines : List ℕ) → ran_from f room p session lines ≡ ran_after f room p session lines 0 0
run_starts f room p session lines = rw (sub-zero, zero-add) refl

-- a rest that was lent, and the whole as it comes back
abbrev lent : List ℕ → ℕ → List ℕ
lent l at = take (length l - at) (drop at l)

abbrev back : List ℕ → ℕ → List ℕ → List ℕ
back l at s = take at l ++ (s ++ drop (length l - at) (drop at l))

-- what the first request of two rests that were lent leaves in the wholes
pub at_left : (f : Framing) (size at line : ℕ) (p q : Point) (session lines bytes own : List ℕ) → records q bytes own ≡ after_first f size p (lent session at) (lent lines line)
    → records q (back session at bytes) (back lines line own) ≡ after_at f size at line p session lines
unfolding after_at
at_left f size at line p q session lines bytes own e =
    rw (rest_end session at, rest_end lines line, append-nil, append-nil) (ap (behind_both (take at session) (take line lines)) (rw (rest, rest) at e))

-- so many bytes of a rest that was lent are there
pub rest_up : (l : List ℕ) (at n : ℕ) → n ≤ length (lent l at) → at ≤ length l → at + n ≤ length l
rest_up l at n h k = let e : n ≤ length l - at = rw (rest, length-drop) at h in omega arith

module _ (l s : List ℕ) (at n : ℕ) (h : at ≤ length l) where
  take_back : take (at + n) (take at l ++ s) ≡ take at l ++ take n s
  take_back = rw (length-take-le at l h) at (take-append-add (take at l) s n)

  drop_back : drop (at + n) (take at l ++ s) ≡ drop n s
  drop_back = rw (length-take-le at l h) at (drop-append-add (take at l) s n)

-- one request more before a run
behind_behind : (n : ℕ) (session session' lines lines' : List ℕ) (r : Ran)
    → behind_done n session lines (behind_done 1 session' lines' r) ≡ behind_done (n + 1) (session ++ session') (lines ++ lines') r
behind_behind n session session' lines lines' r =
    rw (append_assoc session session' r.session, append_assoc lines lines' r.lines, add_assoc) refl

module _ (f : Framing) (r : Ran) (s : State) (store : Store) (session lines : List ℕ) (at count room : ℕ)
    (g : r ≡ ran_after f room (point s store) session lines at count)
  where
    abbrev here : Point
    here = point s store

    ended : ran_from f (room - count) here (drop at session) (drop (8 * count) lines) ≡ ran 0 store (drop at session) (drop (8 * count) lines)
        → ran count store session lines ≡ r
    ended e =
        sym (g
        ∙ ap (behind_done count (take at session) (take (8 * count) lines)) e
        ∙ rw (take-append-drop at session, take-append-drop (8 * count) lines, add-zero) refl)

    -- no room is left
    pub run_full : count ≤ room → room ≤ count → ran count store session lines ≡ r
    run_full h k = let z : room - count ≡ 0 = omega arith in ended (rw z (ran_full f here (drop at session) (drop (8 * count) lines)))

    module _ (size : ℕ) (n : size ≡ first_size f (lent session at)) where
      -- no whole request stands next
      pub run_ends : size ≡ 0 → ran count store session lines ≡ r
      run_ends z =
          ended (ran_none f here (drop at session) (drop (8 * count) lines) (room - count) (rw (rest session at) at (sym n ∙ z)))

      -- a request is handled
      pub run_goes_on : (size ≡ 0 → ⊥) → at + size ≤ length session → count < room → 8 * room ≤ length lines → (q : Point) (session' lines' : List ℕ)
          → records q session' lines' ≡ after_at f size at (8 * count) here session lines → length session' ≡ length session
          → r ≡ ran_after f room q session' lines' (at + size) (count + 1)
      unfolding after_at
      run_goes_on h b c w q session' lines' e l =
          let x : Recorded = after_first f size here (drop at session) (drop (8 * count) lines) in
          let a : session' ≡ take at session ++ x.bytes = ap (λ (y : Recorded). y.bytes) e in
          let d : lines' ≡ take (8 * count) lines ++ x.line = ap (λ (y : Recorded). y.line) e in
          let t : length (take at session) ≡ at = length-take-le at session (omega arith) in
          let k : length x.bytes ≡ length (drop at session) = rw length-drop (omega (arith, l, t, ap length a ∙ length-append (take at session) x.bytes)) in
          let m : room - count ≡ suc (room - (count + 1)) = omega arith in
          let v : 8 * (count + 1) ≡ 8 * count + 8 = omega arith in
          rw (
            v,
            a,
            d,
            ap (λ (y : Recorded). y.point) e,
            take_back session x.bytes at size (omega arith),
            drop_back session x.bytes at size (omega arith),
            take_back lines x.line (8 * count) 8 (omega arith),
            drop_back lines x.line (8 * count) 8 (omega arith),
          )
          (g
          ∙ ap (behind_done count (take at session) (take (8 * count) lines))
          (rw m (ran_first f here (drop at session) (drop (8 * count) lines) size (rw (rest session at) at n) (rw length-drop (omega arith)) h x.point x.bytes x.line refl k (room - (count + 1))))
          ∙ behind_behind count (take at session) (take size x.bytes) (take (8 * count) lines) (take 8 x.line)
          (ran_from f (room - (count + 1)) x.point (drop size x.bytes) (drop 8 x.line)))
