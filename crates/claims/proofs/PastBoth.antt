-- The proof that neither header shuts a request out. Assumes nothing.
use mathlib.Core.Path.{◌≡◌, refl, sym, ◌∙◌, ap}
use mathlib.Core.Bool.{Bool, true, false, cond}
use mathlib.Core.List.{List, ◌++◌}
use Prim.Native.Nat.{ℕ, ◌+◌, ◌<◌, ◌≤◌}
use native.Mathlib.Omega.{arith}
use lib.ListN.{length, length-append}
use lib.Seq.{drop_at}
use borrow.Author.Tests.{le-leb}
use Rattle.laws.specs.Ascii.{ascii}
use Rattle.laws.specs.Clear.{zeros}
use Rattle.laws.specs.Splice.{part, part_left}
use Rattle.wire.specs.Number.{number, bytes}
use Rattle.wire.specs.Same.{same_bytes}
use Rattle.wire.proofs.NumberLaws.{number_bytes}
use Rattle.wire.proofs.SameLaws.{same_refl}
use Rattle.control_codes.specs.Table.{known, structure_size, data_size, signed_all, csmi_all, csmi_sas}
use Rattle.header.specs.Srb.{header_length, signature, control_code, length_field, srb_body, signature_holds, length_holds, code_checked, srb_code}
use Rattle.header.specs.Linux.{linux_length, direction, linux_body, direction_holds, linux_length_holds, linux_code}
use Rattle.claims.specs.Sameness.{srb_header, linux_header, TwinsPast, PastBoth}

module _ (control : ℕ) (body : List ℕ) (k : known control ≡ true) (c : control < 4294967296) (room : structure_size control + data_size control body ≤ length body)
    (l : 20 + length body < 4294967296)
  where
    abbrev n : ℕ
    n = length body

    -- ---- the first header

    -- by its signature
    abbrev head_by : Bool → List ℕ
    head_by b = bytes 4 28 ++ (cond b csmi_all csmi_sas ++ (zeros 4 ++ (bytes 4 control ++ (zeros 4 ++ bytes 4 n))))

    length_srb : (b : Bool) → length (head_by b) ≡ 28
    unfolding bytes ascii
    length_srb true = refl
    length_srb false = refl

    abbrev srb_buffer : List ℕ
    srb_buffer = srb_header control n ++ body

    -- its fields, as they were put there
    header_length_lem : (b : Bool) → part (head_by b) 0 4 ≡ bytes 4 28
    unfolding part bytes ascii
    header_length_lem true = refl
    header_length_lem false = refl

    signature_put : (b : Bool) → part (head_by b) 4 8 ≡ cond b csmi_all csmi_sas
    unfolding part bytes ascii
    signature_put true = refl
    signature_put false = refl

    control_put : (b : Bool) → part (head_by b) 16 4 ≡ bytes 4 control
    unfolding part bytes ascii
    control_put true = refl
    control_put false = refl

    length_put : (b : Bool) → part (head_by b) 24 4 ≡ bytes 4 n
    unfolding part bytes ascii
    length_put true = refl
    length_put false = refl

    srb_part : (at w : ℕ) → at + w ≤ 28 → part srb_buffer at w ≡ part (head_by (signed_all control)) at w
    srb_part at w h = part_left (head_by (signed_all control)) body at w (rw (length_srb (signed_all control)) h)

    srb_body_lem : srb_body srb_buffer ≡ body
    srb_body_lem = drop_at (head_by (signed_all control)) body 28 (length_srb (signed_all control))

    srb_control : control_code srb_buffer ≡ control
    srb_control = ap number (srb_part 16 4 (omega arith) ∙ control_put (signed_all control)) ∙ number_bytes 4 control (omega arith)

    srb_checked : srb_code srb_buffer ≡ 0
    unfolding srb_code code_checked signature_holds length_holds
    srb_checked =
        let h : header_length srb_buffer ≡ 28 = ap number (srb_part 0 4 (omega arith) ∙ header_length_lem (signed_all control)) ∙ number_bytes 4 28 (omega arith) in
        let f : length_field srb_buffer ≡ n = ap number (srb_part 24 4 (omega arith) ∙ length_put (signed_all control)) ∙ number_bytes 4 n (omega arith) in
        let g : signature srb_buffer ≡ cond (signed_all control) csmi_all csmi_sas = srb_part 4 8 (omega arith) ∙ signature_put (signed_all control) in
        rw (h, srb_control, k, g, same_signature (signed_all control), f, srb_body_lem, le-leb (structure_size control + data_size control body) n room, le-leb n n (omega arith)) refl
      where
        same_signature : (b : Bool) → cond b (same_bytes (cond b csmi_all csmi_sas) csmi_all) (same_bytes (cond b csmi_all csmi_sas) csmi_sas) ≡ true
        same_signature true = same_refl csmi_all
        same_signature false = same_refl csmi_sas

    -- ---- the Linux header

    abbrev linux_buffer : List ℕ
    linux_buffer = linux_header n ++ body

    length_linux : length (linux_header n) ≡ 20
    unfolding bytes
    length_linux = refl

    linux_put : part (linux_header n) 4 4 ≡ bytes 4 (20 + n)
    unfolding part bytes
    linux_put = refl

    direction_put : part (linux_header n) 16 2 ≡ bytes 2 0
    unfolding part bytes
    direction_put = refl

    linux_part : (at w : ℕ) → at + w ≤ 20 → part linux_buffer at w ≡ part (linux_header n) at w
    linux_part at w h = part_left (linux_header n) body at w (rw length_linux h)

    linux_body_lem : linux_body linux_buffer ≡ body
    linux_body_lem = drop_at (linux_header n) body 20 length_linux

    linux_long : length linux_buffer ≡ 20 + n
    linux_long = length-append (linux_header n) body ∙ rw length_linux refl

    linux_checked : linux_code control linux_buffer ≡ 0
    unfolding linux_code direction_holds linux_length_holds
    linux_checked =
        let d : direction linux_buffer ≡ 0 = ap number (linux_part 16 2 (omega arith) ∙ direction_put) ∙ number_bytes 2 0 (omega arith) in
        let f : linux_length linux_buffer ≡ 20 + n = ap number (linux_part 4 4 (omega arith) ∙ linux_put) ∙ number_bytes 4 (20 + n) (omega arith) in
        rw (d, k, f, linux_body_lem, linux_long, le-leb (20 + (structure_size control + data_size control body)) (20 + n) (omega arith), le-leb (20 + n) (20 + n) (omega arith)) refl

    twins_past : TwinsPast control body
    twins_past =
        record {
          srb = record { long = rw (length-append (head_by (signed_all control)) body, length_srb (signed_all control)) (omega arith); checked = srb_checked };
          linux = record { long = rw linux_long (omega arith); checked = linux_checked };
          twins = record { control = sym srb_control; body = linux_body_lem ∙ sym srb_body_lem };
        }

pub past_both : PastBoth
past_both control body k c room l = twins_past control body k c room l
