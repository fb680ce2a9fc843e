-- The grammar of statements, over their tokens: that of the CALL statements of Iceberg's Spark procedures.
--
--   statement ::= CALL name . SYSTEM . name ( arguments? ) ;?
--   arguments ::= named (, named)* | value (, value)*
--   named     ::= name => value
--   value     ::= string | number | TRUE | FALSE | NULL | TIMESTAMP string | map | array
--   map       ::= MAP ( (pair (, pair)*)? )            pair ::= string , string
--   array     ::= ARRAY ( (number (, number)*)? )
--
-- Each definition below is a part of it, from the innermost to the whole. A list is stated with a comma before each item,
-- and its first comma is left out then.
use Rattle.std.specs.Prelude.{◌≡◌, ◌⊎◌, ℕ, List, [], ◌∷◌, ◌++◌, drop, Option, Some, None, Bool, true, false}
use Rattle.std.specs.List.{flat_map}
use Rattle.call_text.specs.declared.token.Token.{Token}
use Rattle.call_text.specs.declared.token.Token.TheVariants as tokens
use Rattle.call_text.specs.declared.token.Token.TheVariants.{Dot, Comma, Open, Close, Arrow, Semicolon}
use Rattle.call_text.specs.declared.call.Call.{Call}
use Rattle.call_text.specs.declared.call.Arg.{Arg}
use Rattle.call_text.specs.declared.call.ArgValue.{ArgValue}
use Rattle.call_text.specs.declared.call.ArgValue.TheVariants as values
use Rattle.call_text.specs.declared.keyword.Keyword.TheVariants as words
use Rattle.call_text.specs.Keywords.{IsKeyword, IsName}

-- , string , string
abbrev pub pair_behind_comma : List ℕ × List ℕ → List Token
pair_behind_comma p = Comma ∷ tokens.Str p.0 ∷ Comma ∷ tokens.Str p.1 ∷ []

-- , number
abbrev pub number_behind_comma : List ℕ → List Token
number_behind_comma n = Comma ∷ tokens.Number n ∷ []

-- (pair (, pair)*)?
abbrev pub pair_tokens : List (List ℕ × List ℕ) → List Token
pair_tokens ps = drop 1 (flat_map pair_behind_comma ps)

-- (number (, number)*)?
abbrev pub number_tokens : List (List ℕ) → List Token
number_tokens ns = drop 1 (flat_map number_behind_comma ns)

-- value ::= string | number | TRUE | FALSE | NULL | TIMESTAMP string | map | array
abbrev pub IsValue : ArgValue → List Token → Type 0
IsValue (values.Str s) ts = ts ≡ tokens.Str s ∷ []
IsValue (values.Number n) ts = ts ≡ tokens.Number n ∷ []
IsValue (values.Bool true) ts = (w : Token) × IsKeyword words.True w × (ts ≡ w ∷ [])
IsValue (values.Bool false) ts = (w : Token) × IsKeyword words.False w × (ts ≡ w ∷ [])
IsValue values.Null ts = (w : Token) × IsKeyword words.Null w × (ts ≡ w ∷ [])
IsValue (values.Moment s) ts = (w : Token) × IsKeyword words.Timestamp w × (ts ≡ w ∷ tokens.Str s ∷ [])
IsValue (values.Map ps) ts = (w : Token) × IsKeyword words.Map w × (ts ≡ w ∷ Open ∷ pair_tokens ps ++ Close ∷ [])
IsValue (values.Array ns) ts = (w : Token) × IsKeyword words.Array w × (ts ≡ w ∷ Open ∷ number_tokens ns ++ Close ∷ [])

-- what stands before an argument's value: name => where it has a name, and nothing where it has none
abbrev pub IsLead : Option (List ℕ) → List Token → Type 0
IsLead None ts = ts ≡ []
IsLead (Some n) ts = (t : Token) × IsName n t × (ts ≡ t ∷ Arrow ∷ [])

-- the argument has a name
abbrev pub is_named : Option (List ℕ) → Bool
is_named None = false
is_named (Some n) = true

-- , named or , value
pub record IsArg (named : Bool) (a : Arg) (ts : List Token) : Type 0 where
  pub kind : is_named a.name ≡ named
  pub lead : List Token
  pub value : List Token
  pub is_lead : IsLead a.name lead
  pub is_value : IsValue a.value value
  pub is : ts ≡ Comma ∷ lead ++ value

-- arguments, each behind a comma: all of them have names, or none has
abbrev pub AreArgs : Bool → List Arg → List Token → Type 0
AreArgs named [] ts = ts ≡ []
AreArgs named (a ∷ more) ts = (front rest : List Token) × IsArg named a front × AreArgs named more rest × (ts ≡ front ++ rest)

-- ;?
abbrev pub IsEnd : List Token → Type 0
IsEnd ts = (ts ≡ []) ⊎ (ts ≡ Semicolon ∷ [])

-- CALL name . SYSTEM . name (
pub record IsHead (catalog procedure : List ℕ) (ts : List Token) : Type 0 where
  pub call : Token
  pub catalog_name : Token
  pub system : Token
  pub procedure_name : Token
  pub is_call : IsKeyword words.Call call
  pub is_catalog : IsName catalog catalog_name
  pub is_system : IsKeyword words.System system
  pub is_procedure : IsName procedure procedure_name
  pub is : ts ≡ call ∷ catalog_name ∷ Dot ∷ system ∷ Dot ∷ procedure_name ∷ Open ∷ []

-- statement ::= CALL name . SYSTEM . name ( arguments? ) ;?
pub record IsStatement (c : Call) (ts : List Token) : Type 0 where
  pub named : Bool
  pub head : List Token
  pub args : List Token
  pub end : List Token
  pub is_head : IsHead c.catalog c.procedure head
  pub are_args : AreArgs named c.args args
  pub is_end : IsEnd end
  pub is : ts ≡ head ++ (drop 1 args ++ Close ∷ end)

-- some statement begins with these tokens
abbrev pub Begins : List Token → Type 0
Begins ts = (rest : List Token) × (c : Call) × IsStatement c (ts ++ rest)
