-- Length of either header, as the code tests it. Assumes nothing.
use mathlib.Core.Path.{◌≡◌, refl, sym, ◌∙◌}
use mathlib.Core.Bool.{Bool, true, false, ◌&&◌}
use mathlib.Core.List.{List}
use Prim.Native.Nat.{ℕ, ◌+◌, ◌-◌, ◌<◌, ◌≤◌}
use native.Mathlib.Nat.{le_trans}
use native.Mathlib.Omega.{arith}
use lib.Dec.{leb}
use lib.ListN.{length, take, drop, length-drop}
use borrow.Author.Tests.{lt-leb, le-leb, leb-true, leb-false}
use Rattle.laws.specs.Choice.{by_bool, both_left, both_right}
use Rattle.laws.specs.Splice.{rest}
use Rattle.control_codes.specs.Table.{structure_size, data_size}
use Rattle.header.specs.Srb.{length_holds}
use Rattle.header.specs.Linux.{linux_length, linux_body, linux_length_holds}

-- ---- Length

pub data_by : (control size n d : ℕ) (body : List ℕ) → d ≡ data_size control body → leb (size + d) n ≡ leb (size + data_size control body) n
data_by control size n d body e = rw e

module _ (control n : ℕ) (body : List ℕ) where
  -- too short for the structure, or longer than the body
  pub short_structure : (size : ℕ) → n < size → size ≡ structure_size control → false ≡ length_holds control n body
  unfolding length_holds
  short_structure size h e = rw (lt-leb (structure_size control + data_size control body) n (omega arith)) refl

  pub short_body : length body < n → false ≡ length_holds control n body
  unfolding length_holds
  short_body h =
      by_bool (λ (b : Bool). false ≡ b && leb n (length body)) (sym (lt-leb n (length body) h)) refl
      (leb (structure_size control + data_size control body) n)

  -- inside the body, only the data's length is left to test
  pub inside_body : (size : ℕ) (r : Bool) → n ≤ length body → size ≡ structure_size control → r ≡ leb (size + data_size control body) n
      → r ≡ length_holds control n body
  unfolding length_holds
  inside_body size r h e p =
      p ∙ rw (e, le-leb n (length body) h) (by_bool (λ (b : Bool). b ≡ b && true) refl refl (leb (structure_size control + data_size control body) n))

  pub structure_inside : (size : ℕ) → size ≤ n → n ≤ length body → size ≡ structure_size control → structure_size control ≤ length body
  structure_inside size h k e = omega arith

  -- what a Length that passed tells
  pub length_room : length_holds control n body ≡ true → structure_size control + data_size control body ≤ length body
  unfolding length_holds
  length_room h =
      le_trans (leb-true (structure_size control + data_size control body) n (both_left (leb (structure_size control + data_size control body) n) (leb n (length body)) h))
      (leb-true n (length body) (both_right (leb (structure_size control + data_size control body) n) (leb n (length body)) h))

-- ---- Length of the Linux header, which counts the header too

-- a number less than another by what both are raised by
raised : (a b k : ℕ) → k ≤ b → leb (k + a) b ≡ leb a (b - k)
raised a b k h =
    by_bool (λ (t : Bool). leb a (b - k) ≡ t → leb (k + a) b ≡ t)
    (λ e. let l : a ≤ b - k = leb-true a (b - k) e in le-leb (k + a) b (omega arith))
    (λ e. let l : b - k < a = leb-false a (b - k) e in lt-leb (k + a) b (omega arith))
    (leb a (b - k)) refl

module _ (control n : ℕ) (buffer : List ℕ) (e : n ≡ linux_length buffer) where
  -- too short for the header
  pub short_header : n < 20 → false ≡ linux_length_holds control buffer
  unfolding linux_length_holds
  short_header h =
      rw (← e, lt-leb (20 + (structure_size control + data_size control (linux_body buffer))) n (omega arith)) refl

  -- without the header, Length is held to the body, lent as the rest of the buffer
  pub linux_length_by : (r : Bool) → 20 ≤ n → 20 ≤ length buffer → r ≡ length_holds control (n - 20) (take (length buffer - 20) (drop 20 buffer))
      → r ≡ linux_length_holds control buffer
  unfolding linux_length_holds length_holds
  linux_length_by r h k p =
      let d : length (linux_body buffer) ≡ length buffer - 20 = length-drop 20 buffer in
      let c : leb n (length buffer) ≡ leb (n - 20) (length buffer - 20) = rw (← raised (n - 20) (length buffer) 20 k, add_back) refl in
      rw (← e, raised (structure_size control + data_size control (linux_body buffer)) n 20 h, c) (rw (rest, d) at p)
    where
      add_back : 20 + (n - 20) ≡ n
      add_back = omega arith
