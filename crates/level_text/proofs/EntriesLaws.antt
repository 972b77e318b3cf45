-- A text cut into its entries, and what they say one after the other. Assumes nothing.
use Rattle.std.proofs.Common.{◌≡◌, refl, sym, ◌∙◌, ap, ℕ, ◌<◌, ◌≤◌, Bool, true, false, cond, List, [], ◌∷◌, length, take, drop, arith, Option, Some, None, Result, Ok, Err, lt-ltb, le-ltb}
use Rattle.std.proofs.lemmas.Bool.{false≢true}
use Rattle.std.specs.Result.{IsErr, IsErrAnd}
use Rattle.std.specs.Option.{is_some, unwrap_or}
use Rattle.std.proofs.lemmas.Grind.{common_steps}
use Rattle.laws.specs.Ascii.{ascii}
use Rattle.laws.specs.Choice.{by_bool, either}
use Rattle.wire.specs.Same.{same_bytes}
use Rattle.codes.specs.declared.call_error.CallError.{CallError}
use Rattle.codes.specs.declared.call_error.CallError.TheVariants.{BadText}
use Rattle.level.specs.declared.Level.{Level}
use Rattle.level.specs.Setting.{Setting, Absent, Given, Bad, TextLevel, setting_answer, told}
use Rattle.level.specs.Text.{entries, in_front, begins, ours, exact, entry_setting, none, restricted, limited, full, setting_of, meant, text_level}
use Rattle.level_text.specs.Entry.{entry_length}

-- what is cut off up to the first semicolon is the first entry
pub entries_first : (s : List ℕ) → 0 < length s → entries s ≡ take (entry_length s) s ∷ entries (drop (entry_length s) s)
unfolding entries
entries_first [] some = absurd (omega arith)
entries_first (b ∷ []) some = grind (arith, common_steps)
entries_first (b ∷ d ∷ r) some = grind (arith, common_steps, ap (in_front b) (entries_first (d ∷ r) (omega arith)))

-- ---- what the entries say

-- those that are left, behind one that gave a level or none that did
abbrev pub after : Option Level → List (List ℕ) → Setting
after None es = setting_of es
after (Some l) [] = Given l
after (Some l) (e ∷ es) = Bad

-- an entry of which an answer was given, and those behind it
abbrev pub Read : Option Level → List ℕ → List (List ℕ) → Result (Option Level) CallError → Type 0
Read level e es (Ok None) = after level (ours (e ∷ es)) ≡ after level (ours es)
Read None e es (Ok (Some l)) = after None (ours (e ∷ es)) ≡ after (Some l) (ours es)
Read (Some k) e es (Ok (Some l)) = after (Some k) (ours (e ∷ es)) ≡ Bad
Read level e es (Err error) = (error ≡ BadText) × (after level (ours (e ∷ es)) ≡ Bad)

abbrev Counts : Setting → Type 0
Counts Absent = ⊥
Counts (Given l) = Unit {0}
Counts Bad = Unit {0}

-- one that does not begin with CSMI= is passed over, and another counts
passed : (level : Option Level) (e : List ℕ) (es : List (List ℕ)) → begins e ≡ false → Read level e es (Ok None)
unfolding ours
passed level e es b = rw b refl

counted : (level : Option Level) (e : List ℕ) (es : List (List ℕ)) (s : Setting) → begins e ≡ true → Counts s → exact e ≡ s → Read level e es (setting_answer s)
unfolding ours
counted level e es Absent b h x = absurd h
counted None e es (Given l) b h x = rw b (by_list (ours es))
  where
    by_list : (fs : List (List ℕ)) → setting_of (e ∷ fs) ≡ after (Some l) fs
    by_list [] = x
    by_list (f ∷ fs) = refl
counted (Some k) e es (Given l) b h x = rw b refl
counted None e es Bad b h x = (refl, rw b (by_list (ours es)))
  where
    by_list : (fs : List (List ℕ)) → setting_of (e ∷ fs) ≡ Bad
    by_list [] = x
    by_list (f ∷ fs) = refl
counted (Some k) e es Bad b h x = (refl, rw b refl)

counted_exact : (level : Option Level) (e : List ℕ) (es : List (List ℕ)) → begins e ≡ true → Read level e es (setting_answer (exact e))
unfolding exact
counted_exact level e es b =
    either By (same_bytes e (ascii "CSMI=None;")) (counted level e es (Given none) b tt)
    (either By (same_bytes e (ascii "CSMI=Restricted;")) (counted level e es (Given restricted) b tt)
    (either By (same_bytes e (ascii "CSMI=Limited;")) (counted level e es (Given limited) b tt)
    (either By (same_bytes e (ascii "CSMI=Full;")) (counted level e es (Given full) b tt)
    (counted level e es Bad b tt)))) refl
  where
    By : Setting → Type 0
    By s = exact e ≡ s → Read level e es (setting_answer s)

read : (level : Option Level) (e : List ℕ) (es : List (List ℕ)) → Read level e es (setting_answer (entry_setting e))
unfolding entry_setting
read level e es =
    by_bool (λ (t : Bool). begins e ≡ t → Read level e es (setting_answer (cond t (exact e) Absent)))
    (counted_exact level e es) (passed level e es) (begins e) refl

-- ---- the loop

abbrev said : List ℕ → Setting
said text = setting_of (ours (entries text))

pub meant_long : (text : List ℕ) → 1024 < length text → meant Bad ≡ text_level text
unfolding text_level
meant_long text h = rw (lt-ltb 1024 (length text) h) refl

meant_short : (text : List ℕ) (s : Setting) → length text ≤ 1024 → said text ≡ s → meant s ≡ text_level text
unfolding text_level
meant_short text s h e = rw (le-ltb 1024 (length text) h, e) refl

-- an entry, as it was answered
module _ (text : List ℕ) (level : Option Level) (e : List ℕ) (all es : List (List ℕ)) (r : Result (Option Level) CallError)
    (i : said text ≡ after level (ours all)) (n : all ≡ e ∷ es) (p : r ≡ setting_answer (entry_setting e)) where
  read_here : Read level e es r
  read_here = rw p (read level e es)

  pub silent : (o : Option Level) → r ≡ Ok o → o ≡ None → said text ≡ after level (ours es)
  silent o q z = i ∙ rw n (let k : Read level e es (Ok None) = rw (q, z) at read_here in k)

  pub gave : (o : Option Level) (l : Level) (b : Bool) → r ≡ Ok o → o ≡ Some l → b ≡ is_some level → b ≡ false → said text ≡ after (Some l) (ours es)
  gave o l b q z s f = i ∙ rw n (by_level level (sym s ∙ f) (let k : Read level e es (Ok (Some l)) = rw (q, z) at read_here in k))
    where
      by_level : (m : Option Level) → is_some m ≡ false → Read m e es (Ok (Some l)) → after m (ours (e ∷ es)) ≡ after (Some l) (ours es)
      by_level None f k = k
      by_level (Some m) f k = absurd (false≢true (sym f))

  pub twice : (o : Option Level) (l : Level) (b : Bool) → r ≡ Ok o → o ≡ Some l → b ≡ is_some level → b ≡ true → length text ≤ 1024 → meant Bad ≡ text_level text
  twice o l b q z s t h = meant_short text Bad h (i ∙ rw n (by_level level (sym s ∙ t) (let k : Read level e es (Ok (Some l)) = rw (q, z) at read_here in k)))
    where
      by_level : (m : Option Level) → is_some m ≡ true → Read m e es (Ok (Some l)) → after m (ours (e ∷ es)) ≡ Bad
      by_level None f k = absurd (false≢true f)
      by_level (Some m) f k = k

  pub wrong : (error : CallError) → r ≡ Err error → length text ≤ 1024 → told (Err error) ≡ text_level text
  wrong error q h =
      let k : Read level e es (Err error) = rw q at read_here in
      rw k.0 (meant_short text Bad h (i ∙ rw n k.1))

-- an error handed on by `?`
pub err_told : (r : Result Level CallError) (x : CallError) → IsErr r × IsErrAnd r (λ y. y ≡ x) → told r ≡ told (Err x)
err_told (Ok l) x h = absurd h.1
err_told (Err y) x h = ap (λ (e : CallError). told (Err e)) h.1

-- no entry is left
pub all_read : (text : List ℕ) (level : Option Level) (left : List (List ℕ)) (l : Level) → length text ≤ 1024 → said text ≡ after level (ours left) → left ≡ []
    → l ≡ unwrap_or level limited → ◌≡◌ {A = TextLevel} (record { call = 0; level = l }) (text_level text)
unfolding ours
all_read text None left l h i n u = rw u (meant_short text Absent h (i ∙ rw n refl))
all_read text (Some k) left l h i n u = rw u (meant_short text (Given k) h (i ∙ rw n refl))

pub ruleset reading = (meant_long, silent, gave, twice, wrong, all_read)
