-- What each part of the reading gives, from the answers that it has from others. Assumes nothing.
use Rattle.std.proofs.Common.{◌≡◌}
use Rattle.codes.specs.Codes.{bad_text}
use Rattle.level.specs.declared.Level.{Level}
use Rattle.level.specs.Setting.{Setting, Absent, Given, Bad, TextLevel}
use Rattle.level.specs.Text.{limited, none, meant}

-- one more entry that begins with CSMI= : the first decides, and a second is one too many
abbrev pub another : Setting → Setting → Setting
another Absent e = e
another (Given l) e = Bad
another Bad e = Bad

-- one more entry, by what it says
abbrev pub joined : Setting → Setting → Setting
joined s Absent = s
joined s (Given l) = another s (Given l)
joined s Bad = another s Bad

pub joined_given : (s e r : Setting) (l : Level) → e ≡ Given l → r ≡ another s (Given l) → r ≡ joined s e
joined_given s e r l p q = rw p q

pub joined_bad : (s e r : Setting) → e ≡ Bad → r ≡ another s Bad → r ≡ joined s e
joined_bad s e r p q = rw p q

pub meant_absent : (s : Setting) → s ≡ Absent → ◌≡◌ {A = TextLevel} (record { call = 0; level = limited }) (meant s)
meant_absent s p = rw p

pub meant_given : (s : Setting) (l : Level) → s ≡ Given l → ◌≡◌ {A = TextLevel} (record { call = 0; level = l }) (meant s)
meant_given s l p = rw p

pub meant_bad : (s : Setting) → s ≡ Bad → ◌≡◌ {A = TextLevel} (record { call = bad_text; level = none }) (meant s)
meant_bad s p = rw p

pub meant_by : (s t : Setting) (r : TextLevel) → s ≡ t → r ≡ meant s → r ≡ meant t
meant_by s t r p q = rw p at q
