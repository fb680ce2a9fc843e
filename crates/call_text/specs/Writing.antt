-- The text that is written for a call, and the calls that can be written.
use Rattle.std.specs.Prelude.{◌≡◌, ℕ, Bool, true, false, List, [], ◌∷◌, ◌++◌, drop, codes, Option, Some, None, if◌then◌else◌, ◌==◌}
use Rattle.std.specs.List.{flat_map, AllByRecursion}
use Rattle.call_text.specs.declared.token.Token.{Token}
use Rattle.call_text.specs.declared.token.Token.TheVariants as tokens
use Rattle.call_text.specs.Characters.{backslash}
use Rattle.call_text.specs.Spelling.{is_plain, IsBetweenBackquotes, IsNumber}
use Rattle.call_text.specs.declared.call.Call.{Call}
use Rattle.call_text.specs.declared.call.Arg.{Arg}
use Rattle.call_text.specs.declared.call.ArgValue.{ArgValue}
use Rattle.call_text.specs.declared.call.ArgValue.TheVariants as values
use Rattle.call_text.specs.Grammar.{is_named}

-- a token, and whether a blank stands behind it
pub record Piece : Type 0 where
  pub token : Token
  pub blank : Bool

-- no blank stands behind it
abbrev pub plain : Token → Piece
plain t = record { token = t; blank = false }

-- one blank stands behind it
abbrev pub spaced : Token → Piece
spaced t = record { token = t; blank = true }

-- a character of a string: ' and \ stand behind a backslash, a line feed is \n and a tab \t, and no other is escaped
abbrev pub escape : ℕ → List ℕ
escape b =
    if b == 39 then codes "\\'"
    else (if b == backslash then codes "\\\\"
    else (if b == 10 then codes "\\n"
    else (if b == 9 then codes "\\t"
    else b ∷ [])))

-- strings stand in '
unfoldable pub token_text : Token → List ℕ
token_text (tokens.Word w) = w
token_text (tokens.Quoted w) = codes "`" ++ (w ++ codes "`")
token_text (tokens.Str s) = codes "'" ++ (flat_map escape s ++ codes "'")
token_text (tokens.Number n) = n
token_text tokens.Dot = codes "."
token_text tokens.Comma = codes ","
token_text tokens.Open = codes "("
token_text tokens.Close = codes ")"
token_text tokens.Arrow = codes "=>"
token_text tokens.Semicolon = codes ";"

-- one blank, or nothing
abbrev pub blank_text : Bool → List ℕ
blank_text b = if b then codes " " else []

-- the token's text, and the blank behind it
unfoldable pub piece_text : Piece → List ℕ
piece_text p = token_text p.token ++ blank_text p.blank

-- an identifier stands in backquotes exactly where it isn't one without them
unfoldable pub name_token : List ℕ → Token
name_token n = if is_plain n then tokens.Word n else tokens.Quoted n

-- as in the grammar, lists are stated with a comma before each item, and the first comma is left out then
abbrev pub pair_pieces : List ℕ × List ℕ → List Piece
pair_pieces p = spaced tokens.Comma ∷ plain (tokens.Str p.0) ∷ spaced tokens.Comma ∷ plain (tokens.Str p.1) ∷ []

-- a number behind a comma
abbrev pub number_pieces : List ℕ → List Piece
number_pieces n = spaced tokens.Comma ∷ plain (tokens.Number n) ∷ []

-- words in upper case, and map and array in lower case
unfoldable pub value_pieces : ArgValue → List Piece
value_pieces (values.Str s) = plain (tokens.Str s) ∷ []
value_pieces (values.Number n) = plain (tokens.Number n) ∷ []
value_pieces (values.Bool true) = plain (tokens.Word (codes "TRUE")) ∷ []
value_pieces (values.Bool false) = plain (tokens.Word (codes "FALSE")) ∷ []
value_pieces values.Null = plain (tokens.Word (codes "NULL")) ∷ []
value_pieces (values.Moment s) = spaced (tokens.Word (codes "TIMESTAMP")) ∷ plain (tokens.Str s) ∷ []
value_pieces (values.Map ps) = plain (tokens.Word (codes "map")) ∷ plain tokens.Open ∷ (drop 1 (flat_map pair_pieces ps) ++ plain tokens.Close ∷ [])
value_pieces (values.Array ns) = plain (tokens.Word (codes "array")) ∷ plain tokens.Open ∷ (drop 1 (flat_map number_pieces ns) ++ plain tokens.Close ∷ [])

-- an argument's name, with a blank on both sides of =>
abbrev pub lead_pieces : Option (List ℕ) → List Piece
lead_pieces None = []
lead_pieces (Some n) = spaced (name_token n) ∷ spaced tokens.Arrow ∷ []

-- an argument behind a comma
unfoldable pub arg_pieces : Arg → List Piece
arg_pieces a = spaced tokens.Comma ∷ (lead_pieces a.name ++ value_pieces a.value)

-- CALL catalog.system.procedure(
abbrev pub head_pieces : Call → List Piece
head_pieces c = spaced (tokens.Word (codes "CALL")) ∷ plain (name_token c.catalog) ∷ plain tokens.Dot ∷ plain (tokens.Word (codes "system")) ∷ plain tokens.Dot ∷ plain (name_token c.procedure) ∷ plain tokens.Open ∷ []

-- all pieces of a call
abbrev pub call_pieces : Call → List Piece
call_pieces c = head_pieces c ++ (drop 1 (flat_map arg_pieces c.args) ++ plain tokens.Close ∷ [])

-- the text that is written for the call
abbrev pub written : Call → List ℕ
written c = flat_map piece_text (call_pieces c)

-- What can be written: a name has at least one character and no backquote, a number has a number's form, and all
-- arguments have names, or none has.

-- a name that can be written
abbrev pub CanBeName : List ℕ → Type 0
CanBeName name = IsBetweenBackquotes name

-- a value that can be written
abbrev pub CanBeValue : ArgValue → Type 0
CanBeValue (values.Number n) = IsNumber n
CanBeValue (values.Array ns) = AllByRecursion IsNumber ns
CanBeValue _ = Unit {0}

-- a name that can be written, or none
abbrev pub CanBeLead : Option (List ℕ) → Type 0
CanBeLead None = Unit {0}
CanBeLead (Some n) = CanBeName n

-- an argument that can be written, which has a name or has none
pub record CanBeArg (named : Bool) (a : Arg) : Type 0 where
  pub kind : is_named a.name ≡ named
  pub name : CanBeLead a.name
  pub value : CanBeValue a.value

-- a call that can be written
pub record CanBeWritten (c : Call) : Type 0 where
  pub named : Bool
  pub catalog : CanBeName c.catalog
  pub procedure : CanBeName c.procedure
  pub args : AllByRecursion (CanBeArg named) c.args

-- ---- the text of each item of a list

-- of a pair in a map
abbrev pub pair_text : List ℕ × List ℕ → List ℕ
pair_text p = flat_map piece_text (pair_pieces p)

-- of a number in an array
abbrev pub number_text : List ℕ → List ℕ
number_text n = flat_map piece_text (number_pieces n)

-- of an argument
abbrev pub arg_text : Arg → List ℕ
arg_text a = flat_map piece_text (arg_pieces a)
