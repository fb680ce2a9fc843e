-- The names of a table's metadata files (Iceberg table specification, "File System Tables").
use Rattle.std.specs.Prelude.{ℕ, List, [], ◌∷◌, ◌++◌, if◌then◌else◌, nat_eq, codes}
use Rattle.std.specs.Fmt.{decimal}
use Rattle.std.specs.Int.{to_be_bytes, w128}
use Rattle.uuid.specs.Text.{hyphenated_text, lower}
use Rattle.commit_history.specs.Versions.{ending}

-- `v<n>.metadata.json`: a `v`, the number's decimal digits, and the ending
abbrev pub version_name : ℕ → List ℕ
version_name number = codes "v" ++ (decimal number ++ ending)

-- `<u>.metadata.json`: the identifier as a hyphenated UUID in lower case (RFC 9562, section 4), and the ending
abbrev pub draft_name : ℕ → List ℕ
draft_name id = hyphenated_text lower (to_be_bytes w128 id) ++ ending

-- a byte before a text, which is dropped where it is a slash and no text follows
abbrev pub kept : ℕ → List ℕ → List ℕ
kept byte [] = if nat_eq byte 47 then [] else byte ∷ []
kept byte (next ∷ text) = byte ∷ next ∷ text

-- a text without its ending slashes
abbrev pub unslashed : List ℕ → List ℕ
unslashed [] = []
unslashed (byte ∷ text) = kept byte (unslashed text)

-- `L/metadata/v<n>.metadata.json`, L being the location without its ending slashes
abbrev pub version_text_of : List ℕ → ℕ → List ℕ
version_text_of location number = unslashed location ++ (codes "/metadata/" ++ version_name number)
