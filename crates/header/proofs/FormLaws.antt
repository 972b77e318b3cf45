-- A header of any form, with the return code inside it: what is written and put back stands there. Assumes nothing.
use mathlib.Core.Path.{◌≡◌, ◌∙◌, ap}
use mathlib.Core.List.{List, ◌++◌}
use Prim.Native.Nat.{ℕ, ◌+◌, ◌<◌, ◌≤◌}
use native.Mathlib.Omega.{arith}
use lib.ListN.{length, take, length-append}
use lib.Seq.{length-take-le, drop_at}
use Rattle.laws.specs.Splice.{part_splice, drop_splice}
use Rattle.wire.specs.Number.{number, bytes}
use Rattle.wire.proofs.NumberLaws.{length_bytes, number_bytes}
use Rattle.header.specs.Form.{Form, behind_header, return_code, with_code}

module _ (f : Form) (h : f.place + 4 ≤ f.size) where
  -- the four bytes that were written stand there
  pub code_there : (buffer : List ℕ) (code : ℕ) → f.size ≤ length buffer → return_code f (with_code f buffer code) ≡ number (bytes 4 code)
  code_there buffer code l = ap number (rw (length_bytes 4 code) at (part_splice buffer f.place (bytes 4 code) (omega arith)))

  -- and so the return code does
  pub code_shown : (buffer : List ℕ) (code : ℕ) → f.size ≤ length buffer → code < 4294967296 → return_code f (with_code f buffer code) ≡ code
  code_shown buffer code l k = code_there buffer code l ∙ number_bytes 4 code (omega arith)

  module _ (buffer body : List ℕ) (l : f.size ≤ length buffer) where
    front : length (take f.size buffer) ≡ f.size
    front = length-take-le f.size buffer l

    -- a body put back behind its header
    pub header_kept : f.size ≤ length (take f.size buffer ++ body)
    header_kept = rw (length-append (take f.size buffer) body, front) (omega arith)

    -- it stays where the return code is written
    pub body_shown_lem : (code : ℕ) → behind_header f (with_code f (take f.size buffer ++ body) code) ≡ body
    body_shown_lem code =
        drop_splice (take f.size buffer ++ body) f.place (bytes 4 code) f.size (omega (arith, header_kept)) (rw length_bytes h)
        ∙ drop_at (take f.size buffer) body f.size front
