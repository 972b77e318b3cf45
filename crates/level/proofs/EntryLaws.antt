-- The code's tests of an entry say what the definitions of specs/Text.antt do. Assumes nothing.
use Rattle.std.proofs.Common.{arith, ◌≡◌, sym, ◌∙◌, ℕ, List, cond, nat_eq, take, Option, Some, None, Result, Ok, Err}
use Rattle.std.specs.Prelude.{codes}
use Rattle.std.specs.List.{starts_with}
use Rattle.std.specs.Str.{bytes_eq}
use Rattle.std.proofs.lemmas.Slice.Eq.{bytes_eq-Decides}
use Rattle.std.proofs.lemmas.Bool.Decides.{same_from_decides}
use Rattle.std.proofs.lemmas.Grind.{common_steps}
use Rattle.codes.specs.declared.call_error.CallError.{CallError}
use Rattle.codes.specs.declared.call_error.CallError.TheVariants.{BadText}
use Rattle.laws.specs.Ascii.{ascii}
use Rattle.laws.specs.Splice.{part}
use Rattle.wire.specs.Same.{same_bytes}
use Rattle.wire.proofs.SameLaws.{same_refl, same_eq}
use Rattle.level.specs.declared.Level.{Level}
use Rattle.level.specs.Setting.{setting_answer}
use Rattle.level.specs.Text.{none, restricted, limited, full, begins, exact, entry_setting}

-- `==` of two slices
eq_same : (a b : List ℕ) → bytes_eq a b ≡ same_bytes a b
eq_same a b = same_from_decides (bytes_eq a b) (same_bytes a b) (bytes_eq-Decides a b) (same_eq a b, λ p. rw p (same_refl b))

begins_ours : (e : List ℕ) → starts_with nat_eq e (codes "CSMI=") ≡ begins e
unfolding begins part ascii
begins_ours e =
    let p : List ℕ = codes "CSMI=" in
    let t : List ℕ = take 5 e in
    same_from_decides (bytes_eq p t) (same_bytes t p) (bytes_eq-Decides p t) (λ h. sym (same_eq t p h), λ h. rw h (same_refl t))

-- in the code's order
abbrev tested : List ℕ → Result (Option Level) CallError
tested e =
    cond (starts_with nat_eq e (codes "CSMI="))
    (cond (bytes_eq e (codes "CSMI=None;")) (Ok (Some none))
    (cond (bytes_eq e (codes "CSMI=Restricted;")) (Ok (Some restricted))
    (cond (bytes_eq e (codes "CSMI=Limited;")) (Ok (Some limited))
    (cond (bytes_eq e (codes "CSMI=Full;")) (Ok (Some full))
    (Err BadText)))))
    (Ok None)

tested_exact : (e : List ℕ) → setting_answer (entry_setting e) ≡ tested e
unfolding entry_setting exact ascii
tested_exact e =
    grind (arith, common_steps, begins_ours e, eq_same e (codes "CSMI=None;"), eq_same e (codes "CSMI=Restricted;"), eq_same e (codes "CSMI=Limited;"), eq_same e (codes "CSMI=Full;"))

pub tested_says : (e : List ℕ) (r : Result (Option Level) CallError) → r ≡ tested e → r ≡ setting_answer (entry_setting e)
tested_says e r p = p ∙ sym (tested_exact e)
