-- What the proofs of this crate cite. Assumes nothing.
use mathlib.Core.Path.{◌≡◌, refl, ◌∙◌, ap}
use mathlib.Core.Bool.{Bool, true, false}
use mathlib.Core.List.{List, ◌++◌}
use Prim.Native.Nat.{ℕ, ◌+◌, ◌*◌, ◌<◌, ◌≤◌}
use native.Mathlib.Omega.{arith}
use lib.ListN.{length, take, drop}
use Rattle.std.specs.Prelude.{Result, Ok, Err}
use Rattle.std.proofs.Common.{ne_eqb}
use Rattle.laws.specs.Splice.{part, length_part, lent_back}
use Rattle.codes.specs.declared.return_code.ReturnCode.{ReturnCode}
use Rattle.codes.specs.Numbers.{return_number}
use Rattle.codes.proofs.NumbersLaws.{refusal_some}
use Rattle.phy.specs.declared.PhyIdentifier.{PhyIdentifier}
use Rattle.phy.specs.declared.PortIdentifier.{PortIdentifier}
use Rattle.codes.specs.Codes.{connection_failed}
use Rattle.adapter.specs.Adapter.{Adapter, medium_size, phy_in}
use Rattle.stp.specs.Body.{data_length, connection_rate, destination_of}
use Rattle.disk.specs.Disk.{performs, performed, Performed}
use Rattle.disk.proofs.Laws.{disk_length}
use Rattle.select.specs.Select.{select_in}
use Rattle.select.specs.Chosen.{chosen}
use Rattle.select.proofs.Laws.{below, selected_phy}
use Rattle.passthrough.specs.Passthrough.{Passed, passes, connected, put_back, on_disk, sent_to, passed_to}

module _ (ad : Adapter) (phy : PhyIdentifier) (port : PortIdentifier) (x : Result PhyIdentifier ReturnCode) (e : chosen x ≡ select_in ad phy port) where
  -- a phy that was selected is one of 32, and its disk stands within the medium
  pub chosen_phy : (n : PhyIdentifier) → x ≡ Ok n → ad.phy_count ≤ 32 → n.0 < 32
  chosen_phy n i k = selected_phy ad phy port (chosen (Ok n)) (rw i at e) refl k

  pub chosen_disk : (n : PhyIdentifier) → x ≡ Ok n → (medium : List ℕ) → length medium ≡ medium_size ad → 8192 * n.0 + 8192 ≤ length medium
  chosen_disk n i medium k = omega (arith, below ad phy port (chosen (Ok n)) (rw i at e) refl)

  -- what is left where a phy was selected, and where none was
  pub connected_left : (n : PhyIdentifier) (medium body : List ℕ) (t : Bool) (p : Passed) → x ≡ Ok n
      → t ≡ connected (phy_in ad n.0) (connection_rate body) (destination_of body) → t ≡ true → p ≡ on_disk medium n.0 body
      → p ≡ passed_to ad medium body (select_in ad phy port)
  unfolding passed_to sent_to
  connected_left n medium body t p i c h k = k ∙ rw (← e, i, ← c, h) refl

  pub unconnected_left : (n : PhyIdentifier) (medium body : List ℕ) (t : Bool) → x ≡ Ok n
      → t ≡ connected (phy_in ad n.0) (connection_rate body) (destination_of body) → t ≡ false
      → passes connection_failed medium body ≡ passed_to ad medium body (select_in ad phy port)
  unfolding passed_to sent_to
  unconnected_left n medium body t i c h = rw (← e, i, ← c, h) refl

  pub refused_left : (code : ReturnCode) (medium body : List ℕ) → x ≡ Err code
      → passes (return_number code) medium body ≡ passed_to ad medium body (select_in ad phy port)
  unfolding passed_to
  refused_left code medium body i = rw (← e, i, ne_eqb (return_number code) 0 (refusal_some code)) refl

-- a disk that was lent
pub on_disk_left : (medium body front rest old : List ℕ) (n code : ℕ) (d b : List ℕ) → 8192 * n + 8192 ≤ length medium → 136 + data_length body ≤ length body
    → front ≡ take (8192 * n) medium → rest ≡ drop (8192 * n) medium → old ≡ take 8192 rest → performs code d b ≡ performed old body
    → passes code (front ++ (d ++ drop 8192 rest)) b ≡ on_disk medium n body
unfolding on_disk part
on_disk_left medium body front rest old n code d b h k f p o e =
    let q : performs code d b ≡ performed (take 8192 (drop (8192 * n) medium)) body = rw (o, p) at e in
    let l : length d ≡ 8192 =
    ap (λ (s : Performed). length s.disk) q ∙ disk_length (take 8192 (drop (8192 * n) medium)) body (length_part medium (8192 * n) 8192 h, k) in
    rw (f, p, lent_back medium (8192 * n) 8192 d l) (ap (put_back medium n) q)
