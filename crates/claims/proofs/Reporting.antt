-- The proof that the codes that report leave state, medium and stage as they were, but for the reset of counters, and that each code that is served is
-- in one of the two lists. Assumes nothing.
use mathlib.Core.Path.{◌≡◌, refl}
use mathlib.Core.Bool.{Bool, true, false, ◌&&◌, false≢true}
use mathlib.Core.List.{List, [], ◌∷◌, ◌++◌}
use Prim.Native.Nat.{ℕ, ◌≤◌}
use native.Mathlib.Omega.{arith}
use lib.Dec.{eqb}
use lib.ListN.{length, get_or}
use borrow.Author.Tests.{eq-eqb, ne_eqb, eqb-true}
use Rattle.laws.specs.Choice.{by_bool, both_left, both_right}
use Rattle.codes.specs.Codes.{get_link_errors, success}
use Rattle.level.specs.Need.{among}
use Rattle.phy.specs.Change.{cleared}
use Rattle.adapter.specs.Adapter.{Adapter, phy_in, with_phy}
use Rattle.adapter.specs.Changed.{Changed, leaves}
use Rattle.link_errors.specs.LinkErrors.{counters_shown, link_errors}
use Rattle.control_codes.specs.Table.{served_codes, known}
use Rattle.header.specs.Sent.{Request, form_of, control_of, body_of}
use Rattle.service.specs.Serve.{Store, Served, changed, served}
use Rattle.dispatch.specs.Request.{Point, Outcome}
use Rattle.claims.specs.Run.{exchange_of}
use Rattle.claims.specs.LastWriter.{told_by}
use Rattle.claims.specs.Reporting.{reporting, altering, resets, left_by, Reporting}
use Rattle.claims.proofs.Ways.{served_by, reply_with, handled_by, told_of, told_number, told_refused, told_served}
use Rattle.claims.proofs.PhyEffects.{errors_by}
use Rattle.claims.proofs.ReportingLeft.{left_refused, left_other}

-- ---- a request

module _ (p : Point) (r : Request) where
  abbrev ad : Adapter
  ad = p.state.adapter

  abbrev store : Store
  store = p.store

  abbrev body : List ℕ
  body = body_of r

  -- of what it left
  abbrev Left : Outcome → Type 0
  Left o = o.point ≡ left_by p (told_by (exchange_of r o))

  -- what a 22 leaves: a return code and these tables, with the counters shown or not
  abbrev leaving : ℕ → Adapter → List ℕ → Served
  leaving code bd after = changed store (leaves code bd after)

  abbrev shown : List ℕ
  shown = counters_shown body (phy_in ad (get_or body 0 0)).counters

  abbrev clearing : Adapter
  clearing = with_phy ad (get_or body 0 0) (cleared (phy_in ad (get_or body 0 0)))

  -- code 22
  errors_left : (form_of r).size ≤ length r.buffer → control_of r ≡ get_link_errors → Left (reply_with p r (changed store (link_errors ad body)))
  unfolding resets
  errors_left long e =
      errors_by ad body (λ (c : Changed). Left (reply_with p r (changed store c)))
      (λ code k own.
      rw (told_served p r (leaving code ad body) own.0 long) (left_refused p (told_of (control_of r) body (leaving code ad body)) (ne_eqb code success (λ z. omega arith))))
      (λ t k. rw (told_served p r (leaving success clearing shown) (omega arith) long, eq-eqb (control_of r) get_link_errors e, t) refl)
      (λ t.
      rw (told_served p r (leaving success ad shown) (omega arith) long)
      (left_other p (told_of (control_of r) body (leaving success ad shown)) (rw (eq-eqb (control_of r) get_link_errors e, t) refl)))

  served_left : among (control_of r) reporting ≡ true → (form_of r).size ≤ length r.buffer → Left (reply_with p r (served ad store (control_of r) body))
  unfolding among told_by
  served_left m long =
      served_by ad store (control_of r) body (λ (x : Served). Left (reply_with p r x))
      (λ e. let n : false ≡ true = rw e at m in absurd (false≢true n))
      (errors_left long)
      (λ e. let n : false ≡ true = rw e at m in absurd (false≢true n))
      (λ e. let n : false ≡ true = rw e at m in absurd (false≢true n))
      (λ _ n _ _. left_other p _ (rw (ne_eqb (control_of r) get_link_errors n) refl))

-- ---- the codes that are served

-- a test that each of a list passes
each : (ℕ → Bool) → List ℕ → Bool
each f [] = true
each f (x ∷ xs) = f x && each f xs

among_each : (f : ℕ → Bool) (n : ℕ) (xs : List ℕ) → each f xs ≡ true → among n xs ≡ true → f n ≡ true
unfolding each among
among_each f n [] h m = absurd (false≢true m)
among_each f n (x ∷ xs) h m =
    by_bool (λ (b : Bool). eqb n x ≡ b → f n ≡ true) (λ e. rw (eqb-true n x e) (both_left (f x) (each f xs) h))
    (λ e. among_each f n xs (both_right (f x) (each f xs) h) (rw e at m)) (eqb n x) refl

listed : (control : ℕ) → known control ≡ true → among control (reporting ++ altering) ≡ true
unfolding known each among
listed control k = among_each (λ (x : ℕ). among x (reporting ++ altering)) control served_codes refl k

pub codes_report : Reporting
codes_report =
    record {
      sorted = listed;
      unaltered = λ p r m.
          handled_by p r (Left p r) (λ call h. left_refused p _ (told_number p r call h))
          (λ code h k long. left_refused p _ (told_refused p r code h k long))
          (λ _ long _. served_left p r m long);
    }
