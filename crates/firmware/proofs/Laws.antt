-- The ways that a code 4 can go, and that it keeps the stage's length: laws for the layers above, which open no definition of Firmware.antt. Assumes
-- nothing.
use mathlib.Core.Path.{◌≡◌, refl, ◌∙◌}
use mathlib.Core.Bool.{true, false}
use mathlib.Core.List.{List}
use Prim.Native.Nat.{ℕ, ◌≤◌}
use native.Mathlib.Omega.{arith}
use lib.Dec.{eqb}
use lib.ListN.{length, drop, length-take}
use Rattle.laws.specs.Choice.{either_by}
use Rattle.laws.specs.Splice.{part, length_splice}
use Rattle.codes.specs.Codes.{success, failed, invalid_parameter, write_attempted}
use Rattle.adapter.specs.Adapter.{Adapter}
use Rattle.download.specs.Body.{buffer_length, validates, image_place, image_of}
use Rattle.firmware.specs.Firmware.{stage_size, Downloaded, downloads, buffer_length_holds, image_sound, validated, validation, committed, commit, beside_stage, load_firmware}
use Rattle.firmware.proofs.CodeLaws.{blocks_few, length_blocks}

-- a return code of the code's own checks: no success, and of the rest small, and not that of a denied request
abbrev pub Refusal : ℕ → Type 0
Refusal code = (code ≡ success → ⊥) × ((code ≤ 2014) × (code ≡ write_attempted → ⊥))

-- the two that there are
refused_failed : Refusal failed
refused_failed = ((λ e. omega arith), (omega arith, (λ e. omega arith)))

refused_parameter : Refusal invalid_parameter
refused_parameter = ((λ e. omega arith), (omega arith, (λ e. omega arith)))

-- a part has no more bytes than it is asked for
part_short : (l : List ℕ) (at n : ℕ) → length (part l at n) ≤ n
unfolding part
part_short l at n = omega (arith, length-take n (drop at l))

module _ (ad : Adapter) (stage body : List ℕ) where
  -- refused, with nothing changed; an image staged; the staged one made current
  pub download_by : (P : Downloaded → Type 0) → ((code : ℕ) → Refusal code → P (downloads code ad stage body))
      → (validates body ≡ true → buffer_length_holds body ≡ true → image_sound body ≡ true → P (validated ad stage body))
      → (validates body ≡ false → buffer_length_holds body ≡ true → eqb ad.staged.flag 1 ≡ true → P (beside_stage stage (committed ad body)))
      → P (load_firmware ad stage body)
  unfolding load_firmware validation commit
  download_by P refuse stages commits =
      either_by P (buffer_length_holds body)
      (λ l. either_by P (validates body)
      (λ v. either_by P (image_sound body) (stages v l) (λ s. refuse failed refused_failed))
      (λ v. either_by (λ c. P (beside_stage stage c)) (eqb ad.staged.flag 1) (commits v l) (λ f. refuse failed refused_failed)))
      (λ l. refuse invalid_parameter refused_parameter)

  -- the stage keeps its length, whatever the body
  pub stage_long : length stage ≡ stage_size → length (load_firmware ad stage body).stage ≡ stage_size
  unfolding validated
  stage_long e =
      download_by (λ (d : Downloaded). length d.stage ≡ stage_size) (λ code r. e)
      (λ v l _. let few : buffer_length body ≤ stage_size = blocks_few (buffer_length body) (length_blocks body (buffer_length_holds body) (validates body) refl l refl v) in
      length_splice stage 0 (image_of body) (omega (arith, part_short body image_place (buffer_length body))) ∙ e)
      (λ _ _ _. e)
