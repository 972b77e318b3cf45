-- The totals (W-206): "Each total equals the number of printed lines of that kind, and the last four sum to the first." Assumes nothing.
use Rattle.std.specs.Prelude.{◌≡◌, Bool, true, false, cond, List, [], ◌∷◌, ℕ, ◌+◌, length}
use Rattle.tally.specs.declared.Line.{Line}
use Rattle.tally.specs.Taken.{Taken, Handled, Cut, End}
use Rattle.tally.specs.Kinds.{LineKind, Granted, Denied, Otherwise, Short, is}

-- the number of requests, and the last four
pub record Totals : Type 0 where
  pub requests : ℕ
  pub granted : ℕ
  pub denied : ℕ
  pub otherwise : ℕ
  pub short : ℕ

-- "`total`, then requests, granted, denied, otherwise refused and 100s"
abbrev pub totals : ℕ → ℕ → ℕ → ℕ → ℕ → Totals
totals requests granted denied otherwise short =
    record { requests = requests; granted = granted; denied = denied; otherwise = otherwise; short = short }

-- 1 where a test holds, and 0 where not
abbrev pub one : Bool → ℕ
one b = cond b 1 0

-- how many of a list a test holds of
unfoldable pub number_of : {X : Type 0} → (X → Bool) → List X → ℕ
number_of f [] = 0
number_of f (x ∷ xs) = one (f x) + number_of f xs

-- "the number of printed lines of that kind"
abbrev pub count_of : LineKind → List Line → ℕ
count_of k lines = number_of (is k) lines

-- the totals of some lines
unfoldable pub tally_of : List Line → Totals
tally_of lines = totals (length lines) (count_of Granted lines) (count_of Denied lines) (count_of Otherwise lines) (count_of Short lines)

-- "the last four sum to the first"
abbrev pub Sums : Totals → Type 0
Sums t = t.requests ≡ t.granted + t.denied + t.otherwise + t.short

-- of any lines
abbrev pub AllSum : Type 0
AllSum = (lines : List Line) → Sums (tally_of lines)

-- ---- counting as the lines come

-- before the first
abbrev pub no_totals : Totals
no_totals = totals 0 0 0 0 0

-- with one line more
unfoldable pub counted : Totals → Line → Totals
counted t l =
    totals (t.requests + 1) (t.granted + one (is Granted l)) (t.denied + one (is Denied l)) (t.otherwise + one (is Otherwise l))
    (t.short + one (is Short l))

-- "A cut request counts nowhere"
abbrev pub after : Totals → Taken → Totals
after t (Handled l) = counted t l
after t Cut = t
after t End = t

-- "ends it": nothing is read behind a cut request, nor at the end
abbrev pub is_last : Taken → Bool
is_last (Handled l) = false
is_last Cut = true
is_last End = true
