-- What the proofs of this crate's functions cite. Assumes nothing.
use mathlib.Core.Path.{◌≡◌, sym, ◌∙◌, ap}
use mathlib.Core.Bool.{Bool, true, ◌&&◌}
use mathlib.Core.List.{List}
use Prim.Native.Nat.{ℕ, ◌+◌, ◌-◌, ◌/◌, ◌%◌, ◌≤◌}
use native.Mathlib.Nat.{add-sub_cancel_left}
use native.Mathlib.Omega.{arith}
use lib.Dec.{eqb, leb}
use lib.ListN.{take, drop}
use borrow.Author.Tests.{leb-true}
use Rattle.laws.specs.Choice.{both_left, both_right}
use Rattle.laws.specs.Splice.{part, splice, part_part}
use Rattle.codes.specs.Codes.{success}
use Rattle.block.specs.Check.{sound_to}
use Rattle.adapter.specs.Staged.{image_staged}
use Rattle.adapter.specs.Adapter.{Adapter, with_staged, made_current}
use Rattle.adapter.specs.Changed.{leaves}
use Rattle.download.specs.Body.{buffer_length, validates, image_place, image_of}
use Rattle.firmware.specs.Firmware.{stage_size, downloads, blocks_hold, buffer_length_holds, image_sound, acknowledged, revisions_of, validated, committed, commit, beside_stage}

-- ---- a length of 1 to 32 blocks

module _ (n : ℕ) (h : blocks_hold n ≡ true) where
  pub blocks_some : 512 ≤ n
  unfolding blocks_hold
  blocks_some = leb-true 512 n (both_right (eqb (n % 512) 0) (leb 512 n) (both_left (eqb (n % 512) 0 && leb 512 n) (leb n 16384) h))

  pub blocks_few : n ≤ stage_size
  unfolding blocks_hold
  blocks_few = leb-true n 16384 (both_right (eqb (n % 512) 0 && leb 512 n) (leb n 16384) h)

pub blocks_by : (n m : ℕ) (r : Bool) → n ≡ m → r ≡ blocks_hold n → r ≡ blocks_hold m
blocks_by n m r e p = p ∙ ap blocks_hold e

pub none_by : (n m : ℕ) → n ≡ m → eqb n 0 ≡ eqb m 0
none_by n m e = ap (λ (k : ℕ). eqb k 0) e

-- with the flag, a length that holds is such a length
pub length_blocks : (body : List ℕ) (r v : Bool) → r ≡ buffer_length_holds body → r ≡ true → v ≡ validates body → v ≡ true → blocks_hold (buffer_length body) ≡ true
unfolding buffer_length_holds
length_blocks body r v p q e f =
    let t : validates body ≡ true = sym e ∙ f in
    rw t at (sym p ∙ q)

-- ---- the image

-- lent to the test of its blocks
pub image_lent : (body : List ℕ) (n : ℕ) (r : Bool) → n ≡ buffer_length body → r ≡ sound_to (take (image_place + n - image_place) (drop image_place body)) (n / 512) → r ≡ image_sound body
unfolding image_sound part
image_lent body n r e p = p ∙ rw (add-sub_cancel_left, e)

-- copied
pub image_copied : (stage s body : List ℕ) (n : ℕ) → n ≡ buffer_length body → s ≡ splice stage 0 (part body image_place n) → s ≡ splice stage 0 (image_of body)
image_copied stage s body n e p = p ∙ ap (λ (k : ℕ). splice stage 0 (part body image_place k)) e

-- and noted
pub image_staged_lem : (ad bd : Adapter) (stage s body b v : List ℕ) → s ≡ splice stage 0 (image_of body) → bd ≡ with_staged ad (image_staged v)
    → b ≡ acknowledged body → 512 ≤ buffer_length body → v ≡ part body image_place 8 → downloads success bd s b ≡ validated ad stage body
unfolding validated
image_staged_lem ad bd stage s body b v p q k h e =
    let w : revisions_of body ≡ part body image_place 8 = part_part body image_place (buffer_length body) 0 8 (omega arith) in
    rw (p, q, k, w, e)

-- ---- a commit

pub commit_by : (ad bd : Adapter) (r : Bool) (body b : List ℕ) → r ≡ eqb ad.staged.flag 1 → r ≡ true → bd ≡ made_current ad
    → b ≡ acknowledged body → leaves success bd b ≡ commit ad body
unfolding commit committed
commit_by ad bd r body b e t p q =
    let f : eqb ad.staged.flag 1 ≡ true = sym e ∙ t in
    rw (f, p, q)

-- it is made beside the stage
pub beside_by : (ad bd : Adapter) (code : ℕ) (stage body b : List ℕ) → leaves code bd b ≡ commit ad body → downloads code bd stage b ≡ beside_stage stage (commit ad body)
beside_by ad bd code stage body b e = ap (beside_stage stage) e
