-- What is proved of the definitions in specs/Steps.antt. Assumes nothing.
use mathlib.Core.Path.{◌≡◌, refl, sym, ◌∙◌, ap}
use mathlib.Core.Bool.{Bool, cond}
use mathlib.Core.List.{List}
use Prim.Native.Nat.{ℕ}
use lib.Dec.{eqb}
use borrow.Author.Tests.{eqb-true, ne_eqb}
use native.Mathlib.Omega.{arith}
use Rattle.laws.specs.Checks.{first_failing}
use Rattle.laws.specs.Choice.{by_bool}
use Rattle.codes.specs.declared.call_error.CallError.{CallError}
use Rattle.codes.specs.declared.call_error.CallError.TheVariants.{ShortBuffer, BadText, BadFileLength, BlockCheck, BadField, SharedRow, BadMediumLength, BadState}
use Rattle.codes.specs.Numbers.{error_number}
use Rattle.adapter.specs.Adapter.{Adapter, zero_adapter}
use Rattle.file.specs.File.{FileRead, reads, refused_file, read_by, file_read}
use Rattle.file.specs.Steps.{sized_then, fields_number, file_number, file_adapter}

-- what is left by a number
abbrev left : ℕ → Adapter → FileRead
left n ad = cond (eqb n 0) (reads 0 ad) (refused_file n)

-- the checks one after the other
steps_read : (file : List ℕ) → file_read file ≡ left (file_number file) (file_adapter file)
unfolding file_read read_by first_failing sized_then fields_number
steps_read file = refl

pub error_not_zero : (e : CallError) → error_number e ≡ 0 → ⊥
error_not_zero ShortBuffer h = omega arith
error_not_zero BadText h = omega arith
error_not_zero BadFileLength h = omega arith
error_not_zero BlockCheck h = omega arith
error_not_zero BadField h = omega arith
error_not_zero SharedRow h = omega arith
error_not_zero BadMediumLength h = omega arith
error_not_zero BadState h = omega arith

-- a file that passed, and one that did not
pub file_passed : (file : List ℕ) (ad : Adapter) → 0 ≡ file_number file → ad ≡ file_adapter file → reads 0 ad ≡ file_read file
file_passed file ad e q = rw (q, steps_read file, ← e) refl

pub file_refused : (file : List ℕ) (ad : Adapter) (e : CallError) → error_number e ≡ file_number file → ad ≡ zero_adapter → reads (error_number e) ad ≡ file_read file
file_refused file ad e p q = rw (q, steps_read file, ← p, ne_eqb (error_number e) 0 (error_not_zero e)) refl

-- the other way
pub passed_number : (file : List ℕ) → (file_read file).call ≡ 0 → file_number file ≡ 0
passed_number file h = at (file_number file) (ap (λ (x : FileRead). x.call) (sym (steps_read file)) ∙ h)
  where
    at : (n : ℕ) → (left n (file_adapter file)).call ≡ 0 → n ≡ 0
    at n p = by_bool (λ (b : Bool). eqb n 0 ≡ b → (cond b (reads 0 (file_adapter file)) (refused_file n)).call ≡ 0 → n ≡ 0) (λ e q. eqb-true n 0 e) (λ e q. q) (eqb n 0) refl p

pub passed_adapter : (file : List ℕ) → file_number file ≡ 0 → (file_read file).adapter ≡ file_adapter file
passed_adapter file z = ap (λ (x : FileRead). x.adapter) (steps_read file) ∙ rw z refl
