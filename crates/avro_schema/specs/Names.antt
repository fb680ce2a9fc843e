-- Names of types (Apache Avro specification, "Names"), and the types that were defined under them so far.
use Rattle.std.specs.Prelude.{ℕ, List, [], ◌∷◌, map, Option, String, string_bytes, ◌==◌, if◌then◌else◌}
use Rattle.std.specs.Ordering.{nat_cmp}
use Rattle.std.specs.Cmp.Lexicographic.{slice_cmp}
use Rattle.std.specs.Map.{lookup}
use Rattle.std.specs.BTreeMap.{insert_entry, is_at}
use Rattle.std.specs.declared.alloc.Global.{Global}
use Rattle.avro_schema.specs.declared.known.Known.{Known}

-- what stands behind the last dot, and all where there is none; best is what stands behind the last one so far
abbrev pub last_from : List ℕ → List ℕ → List ℕ
last_from best [] = best
last_from best (b ∷ bs) = if b == 46 then last_from bs bs else last_from best bs

-- the part of a name that counts
unfoldable pub last_part : List ℕ → List ℕ
last_part name = last_from name name

-- names in their order, each with what is known of its type
abbrev pub Names : Type 0
Names = List (List ℕ × Known)

-- what a name stands for, where it is known
abbrev pub find : List ℕ → Names → Option Known
find name names = lookup (is_at (slice_cmp nat_cmp name)) names

-- the names with one more, or with that one changed
abbrev pub define : List ℕ → Known → Names → Names
define name known names = insert_entry (slice_cmp nat_cmp) names name known

-- the known names, from the entries of a map
abbrev pub names_of : List (String Global × Known) → Names
names_of entries = map (λ e. (string_bytes e.0, e.1)) entries
