-- A quoted text as the bytes that it is, so that a definition can show a text as its document prints it. Assumes nothing.
use Rattle.std.specs.Prelude.{List, [] as none, ◌∷◌ as ◌and◌, ℕ}
use Prim.Native.Char.{code}
use Prim.Native.String.{String, [], ◌∷◌}

-- the codes of the characters, which are bytes where each is of ASCII
unfoldable pub ascii : String → List ℕ
ascii [] = none
ascii (c ∷ s) = code c and ascii s
