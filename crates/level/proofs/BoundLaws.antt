-- A text's level is one of the four, and so is a command's need, which is Full of a write. Assumes nothing.
use mathlib.Core.Path.{◌≡◌, refl}
use mathlib.Core.List.{List, [], ◌∷◌}
use Prim.Native.Nat.{ℕ, ◌≤◌}
use native.Mathlib.Omega.{arith}
use lib.Dec.{ltb}
use lib.ListN.{length}
use Rattle.laws.specs.Ascii.{ascii}
use Rattle.laws.specs.Choice.{either}
use Rattle.wire.specs.Same.{same_bytes}
use Rattle.level.specs.declared.Level.{Level}
use Rattle.level.specs.Setting.{Setting, TextLevel}
use Rattle.level.specs.Text.{full, entries, ours, exact, setting_of, meant, text_level}
use Rattle.level.specs.Need.{restricted_commands, limited_commands, among, need_of}

Bounded : TextLevel → Type 0
Bounded t = t.level.0 ≤ 3

setting_bounded : (es : List (List ℕ)) → Bounded (meant (setting_of es))
unfolding Bounded exact
setting_bounded [] = omega arith
setting_bounded (e ∷ []) =
    either (λ (s : Setting). Bounded (meant s)) (same_bytes e (ascii "CSMI=None;")) (omega arith)
    (either (λ (s : Setting). Bounded (meant s)) (same_bytes e (ascii "CSMI=Restricted;")) (omega arith)
    (either (λ (s : Setting). Bounded (meant s)) (same_bytes e (ascii "CSMI=Limited;")) (omega arith)
    (either (λ (s : Setting). Bounded (meant s)) (same_bytes e (ascii "CSMI=Full;")) (omega arith) (omega arith))))
setting_bounded (e ∷ f ∷ es) = omega arith

pub level_bound : (text : List ℕ) → (text_level text).level.0 ≤ 3
unfolding text_level Bounded
level_bound text = either Bounded (ltb 1024 (length text)) (omega arith) (setting_bounded (ours (entries text)))

-- no need is above Full
pub need_bound : (command : ℕ) → (need_of command).0 ≤ full.0
unfolding need_of
need_bound command =
    either Within (among command restricted_commands) (omega arith) (either Within (among command limited_commands) (omega arith) (omega arith))
  where
    Within : Level → Type 0
    Within l = l.0 ≤ full.0

-- that of 30h, which writes sectors, is Full
pub write_need : (command : ℕ) → command ≡ 0x30 → need_of command ≡ full
unfolding need_of among
write_need command e = rw e refl
