-- Code 4, firmware download (W-207; 6.4): an image is validated and staged, or the staged one made current. Assumes nothing.
use Rattle.std.specs.Prelude.{Bool, cond, ◌&&◌, List, ℕ, ◌/◌, ◌%◌, eqb, leb}
use Rattle.laws.specs.Clear.{zeros}
use Rattle.laws.specs.Splice.{part, splice}
use Rattle.codes.specs.Codes.{success, failed, invalid_parameter}
use Rattle.block.specs.Check.{sound_to}
use Rattle.download.specs.Body.{buffer_length, validates, download_status_place, image_of}
use Rattle.adapter.specs.Staged.{image_staged}
use Rattle.adapter.specs.Adapter.{Adapter, with_staged, made_current}
use Rattle.adapter.specs.Changed.{Changed, leaves}

-- "a lent stage of 16,384 bytes"
abbrev pub stage_size : ℕ
stage_size = 16384

-- the return code, the tables, the stage and the body that a request leaves
pub record Downloaded : Type 0 where
  pub code : ℕ
  pub adapter : Adapter
  pub stage : List ℕ
  pub body : List ℕ

-- the four together
abbrev pub downloads : ℕ → Adapter → List ℕ → List ℕ → Downloaded
downloads code ad stage body = record { code = code; adapter = ad; stage = stage; body = body }

-- ---- what is asked of a request

-- "1 to 32 blocks", of 512 bytes each
unfoldable pub blocks_hold : ℕ → Bool
blocks_hold n = eqb (n % 512) 0 && leb 512 n && leb n 16384

-- "Bytes without the flag, or with it a length that isn't 1 to 32 blocks, are code 3"
unfoldable pub buffer_length_holds : List ℕ → Bool
buffer_length_holds body = cond (validates body) (blocks_hold (buffer_length body)) (eqb (buffer_length body) 0)

-- "An image is 1 to 32 blocks in the file's block form": numbered from 0, each with its check
unfoldable pub image_sound : List ℕ → Bool
image_sound body = sound_to (image_of body) (buffer_length body / 512)

-- ---- what it does

-- "Code 0 sets status and severity to 0"
unfoldable pub acknowledged : List ℕ → List ℕ
acknowledged body = splice body download_status_place (zeros 4)

-- "revisions in the first eight bytes of block 0, four numbers of 16 bits"
abbrev pub revisions_of : List ℕ → List ℕ
revisions_of body = part (image_of body) 0 8

-- "copied to the start of a lent stage .., and the state holds that, with its revisions"
unfoldable pub validated : Adapter → List ℕ → List ℕ → Downloaded
validated ad stage body = downloads success (with_staged ad (image_staged (revisions_of body))) (splice stage 0 (image_of body)) (acknowledged body)

-- "the staged image becomes the running one"
unfoldable pub committed : Adapter → List ℕ → Changed
committed ad body = leaves success (made_current ad) (acknowledged body)

-- "With the validate flag the image is checked"; "Code 1, failed: image check wrong"
unfoldable pub validation : Adapter → List ℕ → List ℕ → Downloaded
validation ad stage body = cond (image_sound body) (validated ad stage body) (downloads failed ad stage body)

-- "Without it"; "commit with nothing staged". It "doesn't read the stage", so it is not given it
unfoldable pub commit : Adapter → List ℕ → Changed
commit ad body = cond (eqb ad.staged.flag 1) (committed ad body) (leaves failed ad body)

-- what leaves the stage as it was
abbrev pub beside_stage : List ℕ → Changed → Downloaded
beside_stage stage c = downloads c.code c.adapter stage c.body

-- the length first: "both come last in the code's own checks"
unfoldable pub load_firmware : Adapter → List ℕ → List ℕ → Downloaded
load_firmware ad stage body =
    cond (buffer_length_holds body) (cond (validates body) (validation ad stage body) (beside_stage stage (commit ad body))) (downloads invalid_parameter ad stage body)
