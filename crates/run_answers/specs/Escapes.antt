-- How texts are written in reports and messages.
use Rattle.std.specs.Prelude.{ℕ, List, [], ◌∷◌, if◌then◌else◌, ◌==◌, codes}
use Rattle.std.specs.List.{flat_map}

-- a backslash, a tab and a line feed are written as escapes; each other byte stands for itself
abbrev pub escape : ℕ → List ℕ
escape b = if b == 92 then codes "\\\\" else (if b == 9 then codes "\\t" else (if b == 10 then codes "\\n" else b ∷ []))

-- a text as it is written, byte by byte
unfoldable pub escaped : List ℕ → List ℕ
escaped text = flat_map escape text
