-- What the proofs of this crate cite, and what the layers above cite of the state's bytes. Assumes nothing.
use mathlib.Core.Path.{◌≡◌, refl, sym, ◌∙◌, ap, subst}
use mathlib.Core.Bool.{Bool, true, cond}
use mathlib.Core.List.{List, [], ◌∷◌, ◌++◌, append-nil}
use Prim.Native.Nat.{ℕ, ◌-◌, ◌≤◌}
use native.Mathlib.Omega.{arith}
use lib.Dec.{eqb, leb}
use lib.ListN.{length, get_or, set, take, drop, replicate, length-drop, get_or-append}
use lib.Seq.{length-take-le, drop_at, drop-length, get_or-take}
use borrow.Author.Tests.{ne_eqb}
use Rattle.laws.specs.Choice.{both_left, both_right}
use Rattle.laws.specs.Clear.{zeros}
use Rattle.laws.specs.Splice.{part, rest, rest_end}
use Rattle.std.specs.Prelude.{Result, Ok, Err, IsErrAnd, IfErr}
use Rattle.codes.specs.Codes.{bad_state}
use Rattle.codes.specs.declared.call_error.CallError.{CallError}
use Rattle.codes.specs.Numbers.{error_number, call_of}
use Rattle.level.specs.declared.Level.{Level}
use Rattle.level.specs.Setting.{TextLevel, told}
use Rattle.level.specs.Text.{text_level}
use Rattle.adapter.specs.Adapter.{Adapter, counts_hold}
use Rattle.adapter.proofs.StoreLaws.{phys_bound, rows_bound}
use Rattle.tables.specs.Tables.{tables_size, tables_of}
use Rattle.tables.proofs.ZeroLaws.{zero_tables}
use Rattle.contents.specs.Contents.{adapter_of}
use Rattle.file.specs.File.{FileRead, reads, file_read}
use Rattle.file.proofs.AcceptedLaws.{accepted}
use Rattle.file.proofs.StepsLaws.{error_not_zero}
use Rattle.state.specs.State.{State, state_with, state_size, state_of, zero_state, tables_hold, adapter_holds, state_holds}
use Rattle.state.specs.Open.{Opened, opens, refused_opening, opened, tables_number, open_number, settled, opened_file, opened_text, opened_of, OpenCall}

-- ---- the tables behind the level's byte

-- lent as the rest of the state
pub lent_size : (s : List ℕ) → length s ≡ state_size → length (take (length s - 1) (drop 1 s)) ≡ tables_size
lent_size s e = rw (rest s 1, length-drop, e)

pub lent_tables : (s : List ℕ) → tables_of (take (length s - 1) (drop 1 s)) ≡ (state_of s).adapter
unfolding state_of
lent_tables s = rw (rest s 1)

-- and as an array
pub tables_behind : (s t : List ℕ) → length s ≡ state_size → t ≡ part s 1 tables_size → tables_of t ≡ (state_of s).adapter
unfolding part
tables_behind s t e q = ap tables_of q ∙ rw e at (lent_tables s)

-- and given back as t
pub state_back : (s t : List ℕ) → length s ≡ state_size → state_of (take 1 s ++ (t ++ drop (length s - 1) (drop 1 s))) ≡ state_with (state_of s).level (tables_of t)
unfolding state_of
state_back s t e =
    let k : length (take 1 s) ≡ 1 = length-take-le 1 s (omega arith) in
    let a : get_or (take 1 s ++ t) 0 0 ≡ get_or s 0 0 = get_or-append (take 1 s) t 0 0 (omega arith) ∙ get_or-take 1 s 0 0 (omega arith) in
    rw (rest_end s 1, append-nil, a, drop_at (take 1 s) t 1 k)

-- ---- the opening

-- the zero bytes are the zero state
drop_zeros : drop 1 (zeros state_size) ≡ zeros tables_size
drop_zeros = refl

zero_state_lem : state_of (zeros state_size) ≡ zero_state
unfolding state_of zero_state
zero_state_lem = ap (state_with (record { 0 = 0 })) (ap tables_of drop_zeros ∙ zero_tables)

-- bytes filled with 0
pub cleared_state : (s t : List ℕ) → length s ≡ state_size → t ≡ replicate (length s) 0 → state_of t ≡ zero_state
cleared_state s t e q = ap state_of (q ∙ ap (λ (n : ℕ). replicate n 0) e) ∙ zero_state_lem

-- the level stored
pub level_set : (s : List ℕ) (level : ℕ) → length s ≡ state_size → state_of (set s 0 level) ≡ state_with (record { 0 = level }) (state_of s).adapter
unfolding state_of
level_set (x ∷ s) level e = refl
level_set [] level e = absurd (omega arith)

-- what was read, and its number
module _ (file : List ℕ) (call : ℕ) (ad : Adapter) (e : reads call ad ≡ file_read file) where
  call_read : call ≡ (file_read file).call
  call_read = ap (λ (f : FileRead). f.call) e

  pub tables_read : ad ≡ (file_read file).adapter
  tables_read = ap (λ (f : FileRead). f.adapter) e

  pub number_judged : (size number : ℕ) → call ≡ 0 → number ≡ tables_number ad size → number ≡ open_number (file_read file) size
  unfolding open_number
  number_judged size number z q = rw (← call_read, z, ← tables_read) q

  pub number_refused : (size : ℕ) → (call ≡ 0 → ⊥) → call ≡ open_number (file_read file) size
  unfolding open_number
  number_refused size z = rw (← call_read, ne_eqb call 0 z) refl

  -- the counts of a file that was accepted
  counts_read_lem : call ≡ 0 → counts_hold ad.phy_count ad.row_count ≡ true
  unfolding adapter_of
  counts_read_lem z = rw (tables_read, (accepted file (sym call_read ∙ z)).read) (accepted file (sym call_read ∙ z)).counts

  pub file_phys : call ≡ 0 → ad.phy_count ≤ 32
  file_phys z = phys_bound _ _ true (sym (counts_read_lem z)) refl

  pub file_rows : call ≡ 0 → ad.row_count ≤ 64
  file_rows z = rows_bound _ _ true (sym (counts_read_lem z)) refl

-- an answer that `?` gave back
pub call_of_error : {A : Type 0} (r : Result A CallError) (error : CallError) → IsErrAnd r (λ e. e ≡ error) → call_of r ≡ error_number error
call_of_error (Ok x) error h = absurd h
call_of_error (Err e) error h = ap error_number h

pub if_error : {A : Type 0} (P : CallError → Type 0) (r : Result A CallError) (error : CallError) → IsErrAnd r (λ e. e ≡ error) → P error → IfErr r P
if_error P (Ok x) error h p = absurd h
if_error P (Err e) error h p = subst P (sym h) p

-- what was read, by the answer
pub file_few : (file : List ℕ) (ad : Adapter) → reads 0 ad ≡ file_read file → (ad.phy_count ≤ 32) × (ad.row_count ≤ 64)
file_few file ad e = (file_phys file 0 ad e refl, file_rows file 0 ad e refl)

pub load_judged : (file : List ℕ) (ad : Adapter) (size number : ℕ) → reads 0 ad ≡ file_read file → number ≡ tables_number ad size → number ≡ open_number (file_read file) size
load_judged file ad size number e q = number_judged file 0 ad e size number refl q

pub load_refused : (file : List ℕ) (ad : Adapter) (size : ℕ) (error : CallError) → reads (error_number error) ad ≡ file_read file
    → error_number error ≡ open_number (file_read file) size
load_refused file ad size error e = number_refused file (error_number error) ad e size (error_not_zero error)

-- lent from the state
loaded_at : (s t : List ℕ) (ad : Adapter) → length s ≡ state_size → tables_of t ≡ ad → (state_of (take 1 s ++ (t ++ drop tables_size (drop 1 s)))).adapter ≡ ad
loaded_at s t ad e q = ap (λ (x : State). x.adapter) (rw e at (state_back s t e)) ∙ q

pub loaded : (s f b t : List ℕ) (ad : Adapter) → length s ≡ state_size → f ≡ take 1 s → b ≡ drop 1 s → tables_of t ≡ ad
    → (state_of (f ++ (t ++ drop tables_size b))).adapter ≡ ad
loaded s f b t ad e p q h = rw (p, q) (loaded_at s t ad e h)

-- ---- what is left by the text's answer and the file's number

refused_by : (n : ℕ) (o : Opened) → (n ≡ 0 → ⊥) → refused_opening n ≡ cond (eqb n 0) o (refused_opening n)
refused_by n o z = rw (ne_eqb n 0 z) refl

module _ (t : TextLevel) (file : List ℕ) (size : ℕ) where
  pub opened_right : (level : Level) (ad : Adapter) (s : State) → told (Ok level) ≡ t → 0 ≡ open_number (file_read file) size → ad ≡ (file_read file).adapter
      → s ≡ state_with level ad → opens 0 s ≡ opened_text t file size
  unfolding opened_text opened_file
  opened_right level ad s h e q p =
      ap (opens 0) (p ∙ ap (state_with level) q)
      ∙ ap (λ (n : ℕ). settled n level (file_read file).adapter) e
      ∙ ap (λ (u : TextLevel). opened_text u file size) h

  pub text_refused : (error : CallError) → told (Err error) ≡ t → refused_opening (error_number error) ≡ opened_text t file size
  unfolding opened_text
  text_refused error h = refused_by (error_number error) _ (error_not_zero error) ∙ ap (λ (u : TextLevel). opened_text u file size) h

  pub file_refused : (level : Level) (error : CallError) → told (Ok level) ≡ t → error_number error ≡ open_number (file_read file) size
      → refused_opening (error_number error) ≡ opened_text t file size
  unfolding opened_text opened_file
  file_refused level error h e =
      refused_by (error_number error) (opened level (file_read file).adapter) (error_not_zero error)
      ∙ ap (λ (n : ℕ). settled n level (file_read file).adapter) e
      ∙ ap (λ (u : TextLevel). opened_text u file size) h

-- the call
module _ (text file medium state : List ℕ) where
  pub open_whole : (call : ℕ) (after : List ℕ) → length state ≡ state_size → length after ≡ length state
      → opens call (state_of after) ≡ opened_text (text_level text) file (length medium) → OpenCall text file medium state call after
  unfolding opened_of
  open_whole call after e l p = record { size = l; whole = λ _. p; other_call = λ n. absurd (n e); other_state = λ n. absurd (n e) }

  -- where the state is lent as an array
  pub open_lent : (call : ℕ) (after : List ℕ) → length state ≡ state_size → length after ≡ state_size
      → opens call (state_of after) ≡ opened_text (text_level text) file (length medium) → OpenCall text file medium state call (after ++ drop state_size state)
  open_lent call after e l p =
      let d : drop state_size state ≡ [] = ap (λ (n : ℕ). drop n state) (sym e) ∙ drop-length state in
      rw (d, append-nil) (open_whole call after e (l ∙ sym e) p)

  pub open_other : (length state ≡ state_size → ⊥) → OpenCall text file medium state bad_state state
  open_other n = record { size = refl; whole = λ e. absurd (n e); other_call = λ _. refl; other_state = λ _. refl }

-- ---- the counts of a state that 107 accepts

module _ (s : State) (r : Bool) (e : r ≡ state_holds s) (t : r ≡ true) where
  counts : counts_hold s.adapter.phy_count s.adapter.row_count ≡ true
  unfolding state_holds adapter_holds
  counts =
      both_left (counts_hold s.adapter.phy_count s.adapter.row_count) (tables_hold s.adapter)
      (both_right (leb s.level.0 3) (adapter_holds s.adapter) (sym e ∙ t))

  pub state_phys : s.adapter.phy_count ≤ 32
  state_phys = phys_bound s.adapter.phy_count s.adapter.row_count true (sym counts) refl

  pub state_rows : s.adapter.row_count ≤ 64
  state_rows = rows_bound s.adapter.phy_count s.adapter.row_count true (sym counts) refl
