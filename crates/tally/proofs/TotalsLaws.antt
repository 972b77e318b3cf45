-- Counting as the lines come gives the number of lines of each kind, and these sum to the number of lines. Assumes nothing.
use mathlib.Core.Path.{◌≡◌, refl, sym}
use mathlib.Core.Bool.{Bool, true, false}
use mathlib.Core.List.{List, [], ◌∷◌, ◌++◌}
use Prim.Native.Nat.{ℕ, ◌+◌}
use native.Mathlib.Omega.{arith}
use lib.ListN.{length-append}
use Rattle.laws.specs.Cases.{All}
use Rattle.laws.specs.Runs.{shown_by}
use Rattle.tally.specs.declared.Line.{Line}
use Rattle.tally.specs.Kinds.{LineKind, Granted, Denied, Otherwise, Short, is}
use Rattle.tally.specs.Taken.{Taken, Handled}
use Rattle.tally.specs.Totals.{Totals, totals, one, number_of, count_of, tally_of, counted, after, Sums, AllSum}
use native.Mathlib.Nat.{add-zero}
use Rattle.tally.proofs.KindsLaws.{counts_once}

-- ---- one line more

-- a line of a kind, which it alone has
module _ (t : Totals) (l : Line) where
  pub counted_granted : is Granted l ≡ true → totals (t.requests + 1) (t.granted + 1) t.denied t.otherwise t.short ≡ counted t l
  unfolding counted
  counted_granted e =
      let a : one (is Granted l) ≡ 1 = rw e refl in
      let b : one (is Denied l) ≡ 0 = omega (arith, a, counts_once l) in
      let c : one (is Otherwise l) ≡ 0 = omega (arith, a, counts_once l) in
      let d : one (is Short l) ≡ 0 = omega (arith, a, counts_once l) in
      rw (a, b, c, d, add-zero t.denied, add-zero t.otherwise, add-zero t.short) refl

  pub counted_denied : is Denied l ≡ true → totals (t.requests + 1) t.granted (t.denied + 1) t.otherwise t.short ≡ counted t l
  unfolding counted
  counted_denied e =
      let a : one (is Denied l) ≡ 1 = rw e refl in
      let b : one (is Granted l) ≡ 0 = omega (arith, a, counts_once l) in
      let c : one (is Otherwise l) ≡ 0 = omega (arith, a, counts_once l) in
      let d : one (is Short l) ≡ 0 = omega (arith, a, counts_once l) in
      rw (a, b, c, d, add-zero t.granted, add-zero t.otherwise, add-zero t.short) refl

  pub counted_otherwise : is Otherwise l ≡ true → totals (t.requests + 1) t.granted t.denied (t.otherwise + 1) t.short ≡ counted t l
  unfolding counted
  counted_otherwise e =
      let a : one (is Otherwise l) ≡ 1 = rw e refl in
      let b : one (is Granted l) ≡ 0 = omega (arith, a, counts_once l) in
      let c : one (is Denied l) ≡ 0 = omega (arith, a, counts_once l) in
      let d : one (is Short l) ≡ 0 = omega (arith, a, counts_once l) in
      rw (a, b, c, d, add-zero t.granted, add-zero t.denied, add-zero t.short) refl

  pub counted_short : is Short l ≡ true → totals (t.requests + 1) t.granted t.denied t.otherwise (t.short + 1) ≡ counted t l
  unfolding counted
  counted_short e =
      let a : one (is Short l) ≡ 1 = rw e refl in
      let b : one (is Granted l) ≡ 0 = omega (arith, a, counts_once l) in
      let c : one (is Denied l) ≡ 0 = omega (arith, a, counts_once l) in
      let d : one (is Otherwise l) ≡ 0 = omega (arith, a, counts_once l) in
      rw (a, b, c, d, add-zero t.granted, add-zero t.denied, add-zero t.otherwise) refl

pub after_handled : (t r : Totals) (taken : Taken) (l : Line) → taken ≡ Handled l → r ≡ counted t l → r ≡ after t taken
after_handled t r taken l e p = rw e p

count_more : (k : LineKind) (lines : List Line) (l : Line) → count_of k (lines ++ (l ∷ [])) ≡ count_of k lines + one (is k l)
unfolding number_of
count_more k [] l = omega arith
count_more k (x ∷ lines) l = rw (count_more k lines l) (omega arith)

pub tally_more : (lines : List Line) (l : Line) → counted (tally_of lines) l ≡ tally_of (lines ++ (l ∷ []))
unfolding tally_of counted
tally_more lines l =
    rw (count_more Granted lines l, count_more Denied lines l, count_more Otherwise lines l, count_more Short lines l, length-append lines (l ∷ [])) refl

-- ---- one total

pub grown_yes : (n : ℕ) (b : Bool) → b ≡ true → n + 1 ≡ n + one b
grown_yes n b e = rw e refl

pub grown_no : (n : ℕ) (b : Bool) → b ≡ false → n ≡ n + one b
grown_no n b e = rw e (sym (add-zero n))

-- ---- the sum

pub counted_sums : (t : Totals) (l : Line) → Sums t → Sums (counted t l)
unfolding counted
counted_sums t l h = omega (arith, h, counts_once l)

pub sums : AllSum
unfolding tally_of number_of
sums [] = refl
sums (l ∷ lines) = omega (arith, counts_once l, sums lines)

-- ---- how many of a list

module _ {X Y : Type 0} where
  pub number_shown : (f : Y → Bool) (g : X → Y) (xs : List X) → number_of f (shown_by g xs) ≡ number_of (λ (x : X). f (g x)) xs
  unfolding number_of shown_by
  number_shown f g [] = refl
  number_shown f g (x ∷ xs) = rw (number_shown f g xs) refl

-- two tests that agree on every one
pub number_alike : {X : Type 0} (f g : X → Bool) (xs : List X) → All (λ (x : X). f x ≡ g x) xs → number_of f xs ≡ number_of g xs
unfolding number_of
number_alike f g [] h = refl
number_alike f g (x ∷ xs) h = rw (h.0, number_alike f g xs h.1) refl
