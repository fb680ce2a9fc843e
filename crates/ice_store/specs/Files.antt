-- Files by their places.
use Rattle.std.specs.Prelude.{Bool, not, List, [], ◌∷◌, ◌++◌, Option, Some, None, if◌then◌else◌, is_some, filter, find as first}
use Rattle.ice_store.specs.Places.{Parts, same_place}
use Rattle.ice_store.specs.declared.history.Held.{Held}

-- the file that stands at a place
abbrev pub find : List Held → Parts → Option Held
find files place = first (λ h. same_place h.place place) files

-- whether one stands there
abbrev pub is_named : List Held → Parts → Bool
is_named files place = is_some (find files place)

-- the files that stand elsewhere
abbrev pub without : List Held → Parts → List Held
without files place = filter (λ h. not (same_place h.place place)) files

-- the first file at a place, changed
abbrev pub changed : (Held → Held) → List Held → Parts → List Held
changed change [] place = []
changed change (held ∷ files) place = if same_place held.place place then change held ∷ files else held ∷ changed change files place

-- a file at its place, and no other there
abbrev pub put : Held → List Held → List Held
put held files = without files held.place ++ held ∷ []

-- a file at another place
abbrev pub moved : Parts → Held → Held
moved to held = record held { place = to }

-- a file that is there, at another place, where then no other stands
abbrev pub renamed_by : Option Held → Parts → Parts → List Held → List Held
renamed_by None from to files = files
renamed_by (Some held) from to files = put (moved to held) (without files from)

-- the file at one place, at another
abbrev pub renamed : Parts → Parts → List Held → List Held
renamed from to files = renamed_by (find files from) from to files
