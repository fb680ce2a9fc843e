-- What a report says.
use Rattle.std.specs.Prelude.{ℕ, ℤ, List, [], ◌∷◌, ◌++◌, codes, Option, Some, None}
use Rattle.std.specs.List.{flat_map}
use Rattle.std.specs.Fmt.{signed_decimal}
use Rattle.run_answers.specs.Escapes.{escaped}

-- a tab before each cell but the first
abbrev pub behind_tab : List ℕ → List ℕ
behind_tab cell = codes "\t" ++ escaped cell

-- the cells with one tab between two
unfoldable pub cells_text : List (List ℕ) → List ℕ
cells_text [] = []
cells_text (cell ∷ cells) = escaped cell ++ flat_map behind_tab cells

-- the cells with one tab between two, and a line feed
unfoldable pub line : List (List ℕ) → List ℕ
line cells = cells_text cells ++ codes "\n"

-- the line of the column names, and a line for each row
abbrev pub report_text : List (List ℕ) → List (List (List ℕ)) → List ℕ
report_text columns rows = line columns ++ flat_map line rows

-- the cell of an id that may lack
abbrev pub id_cell : Option ℤ → List ℕ
id_cell None = codes "null"
id_cell (Some id) = signed_decimal id
