-- Which argument of a call is wrong, and which required one lacks.
use Rattle.std.specs.Prelude.{◌≡◌, ℕ, ◌+◌, Bool, true, false, ◌&&◌, ◌||◌, not, List, [], ◌∷◌, ◌++◌, length, codes, Option, Some, None, is_some, unwrap_or, Result, Ok, Err, if◌then◌else◌, option_and_then, option_map, find}
use Rattle.std.specs.List.{list_any, AllByRecursion}
use Rattle.std.specs.Fmt.{decimal}
use Rattle.ice_store.specs.Places.{Parts, place_in, is_under}
use Rattle.call_text.specs.declared.call.Arg.{Arg}
use Rattle.call_text.specs.declared.call.ArgValue.{ArgValue}
use Rattle.call_text.specs.declared.call.ArgValue.TheVariants as values
use Rattle.call_arguments.specs.declared.procedure.Procedure.{Procedure}
use Rattle.call_arguments.specs.declared.table.ArgName.{ArgName}
use Rattle.call_arguments.specs.declared.table.ArgName.TheVariants as names
use Rattle.call_arguments.specs.declared.table.Form.{Form}
use Rattle.call_arguments.specs.declared.table.Form.TheVariants.{PlaceUnderTable}
use Rattle.call_arguments.specs.declared.table.Presence.{Presence}
use Rattle.call_arguments.specs.declared.table.Presence.TheVariants.{Required, Unless, Without}
use Rattle.call_arguments.specs.declared.table.ArgLine.{ArgLine}
use Rattle.call_arguments.specs.Table.{argument_name, arguments_of, line_for, same_argument}
use Rattle.call_arguments.specs.Forms.{fits, bad_option}

-- ---- the value that is given for an argument

-- NULL
abbrev pub is_null : ArgValue → Bool
is_null values.Null = true
is_null _ = false

-- the line is one of this argument
abbrev pub goes_by : Option ArgLine → ArgName → Bool
goes_by None n = false
goes_by (Some l) n = same_argument l.name n

-- the argument at this place stands for the one of this name, and is not NULL
abbrev pub stands_for : Procedure → ℕ → Arg → ArgName → Bool
stands_for p place a n = goes_by (line_for p place a.name) n && not (is_null a.value)

-- the value of the first of these arguments that stands for this name; the first of them is at this place
abbrev pub value_from : Procedure → ℕ → List Arg → ArgName → Option ArgValue
value_from p place [] n = None
value_from p place (a ∷ rest) n = if stands_for p place a n then Some a.value else value_from p (place + 1) rest n

-- the value that is given for an argument, by its name or by its place; NULL counts as left out
abbrev pub value_of : Procedure → List Arg → ArgName → Option ArgValue
value_of p args n = value_from p 0 args n

-- the argument is given
abbrev pub is_given : Procedure → List Arg → ArgName → Bool
is_given p args n = is_some (value_of p args n)

-- ---- right and wrong arguments

-- a place under a table's place; where the table's text names none, nothing is said
abbrev pub place_is_under : Result Parts ℕ → Result Parts ℕ → Bool
place_is_under (Err at) location = true
place_is_under (Ok table) (Ok location) = is_under location table
place_is_under (Ok table) (Err at) = false

-- the location is a place under the table's; where the table's text names no place, nothing is said
abbrev pub is_within : List ℕ → List ℕ → Bool
is_within table location = place_is_under (place_in table) (place_in location)

-- the location is within the table that was given; nothing is said where none was
abbrev pub is_under_table : Option ArgValue → List ℕ → Bool
is_under_table (Some (values.Str table)) location = is_within table location
is_under_table _ location = true

-- where a place under the table's is asked for, the value is one
abbrev pub stays_within : Procedure → List Arg → Form → ArgValue → Bool
stays_within p args PlaceUnderTable (values.Str location) = is_under_table (value_of p args names.Table) location
stays_within p args _ value = true

-- an argument that excludes another one is given without it
abbrev pub stands_beside : Procedure → List Arg → Presence → ArgValue → Bool
stands_beside p args (Without other) value = is_null value || not (is_given p args other)
stands_beside p args _ value = true

-- the value is right for a line, given all the call's arguments
abbrev pub is_right : Procedure → List Arg → ArgLine → ArgValue → Bool
is_right p args l value = fits l.form value && stays_within p args l.form value && stands_beside p args l.presence value

-- an earlier line is of the same argument
abbrev pub is_repeated : List ArgLine → ArgLine → Bool
is_repeated seen l = list_any (λ (other : ArgLine). same_argument other.name l.name) seen

-- the line of a right argument: one that the table has, that no earlier argument went by, and for which the value is right
abbrev pub right_line : Procedure → List Arg → List ArgLine → Arg → Option ArgLine
right_line p args seen a = option_and_then (λ (l : ArgLine). if is_repeated seen l || not (is_right p args l a.value) then None else Some l) (line_for p (length seen) a.name)

-- how an argument is called for which the table has no line: by its name as written, or by `#` and its number from 1
abbrev pub own_name : ℕ → Option (List ℕ) → List ℕ
own_name place (Some n) = n
own_name place None = codes "#" ++ decimal (place + 1)

-- a repeated argument, or one with a wrong value, has the table's spelling; a map has its first bad option's name
abbrev pub line_or_option : List ArgLine → ArgLine → Arg → List ℕ
line_or_option seen l a = if is_repeated seen l then argument_name l.name else unwrap_or (bad_option l.form a.value) (argument_name l.name)

-- by the line that the argument goes by, or as it is called where it goes by none
abbrev pub name_by : Option ArgLine → List ArgLine → Arg → List ℕ
name_by None seen a = own_name (length seen) a.name
name_by (Some l) seen a = line_or_option seen l a

-- the name for which a wrong argument is refused
abbrev pub wrong_name : Procedure → List ArgLine → Arg → List ℕ
wrong_name p seen a = name_by (line_for p (length seen) a.name) seen a

-- the name where there is no line, and else what follows on the line
abbrev pub go_on : Option ArgLine → List ℕ → (ArgLine → Option (List ℕ)) → Option (List ℕ)
go_on None name rest = Some name
go_on (Some l) name rest = rest l

-- the name of the first wrong one of these arguments, in the order in which they are written; the earlier ones went by
-- these lines
abbrev pub first_wrong : Procedure → List Arg → List ArgLine → List Arg → Option (List ℕ)
first_wrong p args seen [] = None
first_wrong p args seen (a ∷ rest) = go_on (right_line p args seen a) (wrong_name p seen a) (λ l. first_wrong p args (seen ++ l ∷ []) rest)

-- ---- lacking arguments

-- an argument with this presence must stand among these
abbrev pub must_stand : Procedure → List Arg → Presence → Bool
must_stand p args Required = true
must_stand p args (Unless other) = not (is_given p args other)
must_stand p args _ = false

-- the line's argument must stand and isn't given
abbrev pub lacks : Procedure → List Arg → ArgLine → Bool
lacks p args l = must_stand p args l.presence && not (is_given p args l.name)

-- the name of the first required argument that isn't given, in the table's order
abbrev pub first_lacking : Procedure → List Arg → Option (List ℕ)
first_lacking p args = option_map (λ (l : ArgLine). argument_name l.name) (find (lacks p args) (arguments_of p))

-- the first of two names that there is
abbrev pub first_of : Option (List ℕ) → Option (List ℕ) → Option (List ℕ)
first_of None other = other
first_of (Some n) other = Some n

-- the name of the argument for which the arguments of a procedure are refused
abbrev pub bad_argument : Procedure → List Arg → Option (List ℕ)
bad_argument p args = first_of (first_wrong p args [] args) (first_lacking p args)

-- ---- accepted arguments

-- a line of this argument for which the value is right
abbrev pub IsRightFor : Procedure → List Arg → ArgName → ArgValue → Type 0
IsRightFor p args n v = (l : ArgLine) × ((same_argument l.name n ≡ true) × (is_right p args l v ≡ true))

-- where no argument is refused, each value that is given is right for the line of its argument
abbrev pub GivenAreRight : Type 0
GivenAreRight = (p : Procedure) (args : List Arg) (n : ArgName) (v : ArgValue) → bad_argument p args ≡ None → value_of p args n ≡ Some v → IsRightFor p args n v

-- and no required argument lacks
abbrev pub NoneLack : Type 0
NoneLack = (p : Procedure) (args : List Arg) → bad_argument p args ≡ None → AllByRecursion (λ (l : ArgLine). lacks p args l ≡ false) (arguments_of p)
