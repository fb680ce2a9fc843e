-- Places: absolute paths in normal form, each the list of its parts. The normal form is this project's own.
use Rattle.std.specs.Prelude.{◌≡◌, ℕ, ◌+◌, Bool, not, ◌&&◌, ◌||◌, List, [], ◌∷◌, ◌++◌, drop, length, filter, Option, Some, None, Result, Ok, Err, if◌then◌else◌, nat_eq, codes}
use Rattle.std.specs.Cmp.Lexicographic.{pointwise}
use Rattle.std.specs.List.{flat_map, starts_with, list_any}
use Rattle.ice_store.specs.declared.place.PlaceErr.{PlaceErr}
use Rattle.ice_store.specs.declared.place.PlaceErr.TheVariants.{Bad, Memory}

-- a place is the list of its parts, from the root down
abbrev pub Parts : Type 0
Parts = List (List ℕ)

-- whether two places have the same parts
abbrev pub same_place : Parts → Parts → Bool
same_place = pointwise (pointwise nat_eq)

-- the parts with a slash before each, which orders places by the bytes of their texts
abbrev pub joined : Parts → List ℕ
joined parts = flat_map (λ part. 47 ∷ part) parts

-- the text of a place: the root has its slash alone
abbrev pub text_of : Parts → List ℕ
text_of [] = 47 ∷ []
text_of (part ∷ parts) = joined (part ∷ parts)

-- the folder's parts stand first
abbrev pub is_under : Parts → Parts → Bool
is_under parts folder = starts_with (pointwise nat_eq) parts folder

-- a byte before the first piece
abbrev pub onto_first : ℕ → Parts → Parts
onto_first b [] = (b ∷ []) ∷ []
onto_first b (piece ∷ pieces) = (b ∷ piece) ∷ pieces

-- a text cut at each slash
abbrev pub pieces : List ℕ → Parts
pieces [] = [] ∷ []
pieces (b ∷ bs) = if nat_eq b 47 then [] ∷ pieces bs else onto_first b (pieces bs)

-- whether a part has a byte
abbrev pub is_filled : List ℕ → Bool
is_filled [] = Bool.false
is_filled (b ∷ bs) = Bool.true

-- no part of a place is a dot, two dots, or holds a NUL
abbrev pub is_barred : List ℕ → Bool
is_barred part = pointwise nat_eq part (codes ".") || (pointwise nat_eq part (codes "..") || list_any (λ b. nat_eq b 0) part)

-- the offset of the first barred piece, the pieces beginning at an offset and one slash standing between two
abbrev pub first_barred : ℕ → Parts → Option ℕ
first_barred at [] = None
first_barred at (piece ∷ pieces) = if is_barred piece then Some at else first_barred (at + length piece + 1) pieces

-- the offset of a fault, where there is one, and else the parts
abbrev pub unless : Option ℕ → Parts → Result Parts ℕ
unless None parts = Ok parts
unless (Some at) parts = Err at

-- the parts in a text that begins at an offset, repeated and ending slashes dropped; or where its first barred part begins
abbrev pub parts_from : ℕ → List ℕ → Result Parts ℕ
parts_from at text = unless (first_barred at (pieces text)) (filter is_filled (pieces text))

-- whether a text begins with another
abbrev pub begins : List ℕ → List ℕ → Bool
begins text front = starts_with nat_eq text front

-- the length of the optional `file:`
abbrev pub scheme_len : List ℕ → ℕ
scheme_len text = if begins text (codes "file:") then 5 else 0

-- exactly two slashes after `file:` would name a host
abbrev pub names_host : ℕ → List ℕ → Bool
names_host scheme rest = nat_eq scheme 5 && (begins rest (codes "//") && not (begins rest (codes "///")))

-- the parts of an absolute path behind a scheme of this length, or the offset of its fault
abbrev pub path_in : ℕ → List ℕ → Result Parts ℕ
path_in scheme rest = if begins rest (codes "/") then (if names_host scheme rest then Err 7 else parts_from scheme rest) else Err 0

-- the parts of the place that a text names, or the offset of its fault
abbrev pub place_in : List ℕ → Result Parts ℕ
place_in text = path_in (scheme_len text) (drop (scheme_len text) text)

-- what a reader of places answers, where the definition gives this
abbrev pub IsPlaceAnswer : Result Parts ℕ → Result Parts PlaceErr → Type 0
IsPlaceAnswer defined (Ok place) = defined ≡ Ok place
IsPlaceAnswer defined (Err (Bad at)) = defined ≡ Err at
IsPlaceAnswer defined (Err Memory) = Unit {0}

-- these parts before what was read
abbrev pub below : Parts → Result Parts ℕ → Result Parts ℕ
below front (Ok parts) = Ok (front ++ parts)
below front (Err at) = Err at

-- a name that one part of a place may have
abbrev pub is_name : List ℕ → Bool
is_name name = is_filled name && (not (is_barred name) && not (list_any (λ b. nat_eq b 47) name))

-- the place under one folder moved under another, where it is under the first
abbrev pub swapped : Parts → Parts → Parts → Option Parts
swapped place from to = if is_under place from then Some (to ++ drop (length from) place) else None

-- one piece more: a barred one is refused where it begins, and an empty one is no part
abbrev pub AddsPiece : List ℕ → ℕ → Parts → Parts → Result (Unit {0}) PlaceErr → Type 0
AddsPiece piece at old new (Ok u) = (is_barred piece ≡ Bool.false) × (new ≡ old ++ filter is_filled (piece ∷ []))
AddsPiece piece at old new (Err (Bad where_)) = (is_barred piece ≡ Bool.true) × (where_ ≡ at)
AddsPiece piece at old new (Err Memory) = Unit {0}

-- what was read of a text stands behind the parts before it; or its fault is told
abbrev pub AddsParts : Result Parts ℕ → Parts → Parts → Result (Unit {0}) PlaceErr → Type 0
AddsParts defined old new (Ok u) = below old defined ≡ Ok new
AddsParts defined old new (Err (Bad at)) = defined ≡ Err at
AddsParts defined old new (Err Memory) = Unit {0}
