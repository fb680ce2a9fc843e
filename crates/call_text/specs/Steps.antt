-- How a statement is read, one token further at a time, as a function. No contract of a public call cites it.
use Rattle.std.specs.Prelude.{ℕ, List, [], ◌∷◌, ◌++◌, Option, Some, None, true, false, option_and_then, if◌then◌else◌}
use Rattle.std.specs.Option.{option_map}
use Rattle.call_text.specs.declared.token.Token.{Token}
use Rattle.call_text.specs.Cutting.{token_of}
use Rattle.call_text.specs.declared.token.Token.TheVariants as tokens
use Rattle.call_text.specs.declared.token.Token.TheVariants.{Dot, Comma, Open, Close, Arrow, Semicolon}
use Rattle.call_text.specs.declared.call.Call.{Call}
use Rattle.call_text.specs.declared.call.ArgValue.{ArgValue}
use Rattle.call_text.specs.declared.call.ArgValue.TheVariants as values
use Rattle.call_text.specs.declared.value_state.ValueState.{ValueState}
use Rattle.call_text.specs.declared.value_state.ValueState.TheVariants.{Nothing, TimestampWord, MapWord, MapOpen, MapKey, MapKeyComma, MapPairs, MapPairsComma, ArrayWord, ArrayOpen, ArrayNumbers, ArrayNumbersComma, Whole}
use Rattle.call_text.specs.declared.keyword.Keyword.{Keyword}
use Rattle.call_text.specs.declared.keyword.Keyword.TheVariants as words
use Rattle.call_text.specs.Keywords.{keyword, is_keyword}
use Rattle.call_text.specs.Statement.{past_blanks}
use Rattle.call_text.specs.declared.state.State.{State}
use Rattle.call_text.specs.declared.state.State.TheVariants as states

-- where a value stands behind this word
unfoldable pub begun_by : Keyword → Option ValueState
begun_by words.True = Some (Whole (values.Bool true))
begun_by words.False = Some (Whole (values.Bool false))
begun_by words.Null = Some (Whole values.Null)
begun_by words.Timestamp = Some TimestampWord
begun_by words.Map = Some MapWord
begun_by words.Array = Some ArrayWord
begun_by _ = None

-- one token further in a value; nothing where no value goes on so
unfoldable pub value_step : ValueState → Token → Option ValueState
value_step Nothing (tokens.Word w) = option_and_then begun_by (keyword w)
value_step Nothing (tokens.Str s) = Some (Whole (values.Str s))
value_step Nothing (tokens.Number n) = Some (Whole (values.Number n))
value_step TimestampWord (tokens.Str s) = Some (Whole (values.Moment s))
value_step MapWord Open = Some MapOpen
value_step MapOpen (tokens.Str k) = Some (MapKey [] k)
value_step MapOpen Close = Some (Whole (values.Map []))
value_step (MapKey ps k) Comma = Some (MapKeyComma ps k)
value_step (MapKeyComma ps k) (tokens.Str v) = Some (MapPairs (ps ++ (k, v) ∷ []))
value_step (MapPairs ps) Comma = Some (MapPairsComma ps)
value_step (MapPairs ps) Close = Some (Whole (values.Map ps))
value_step (MapPairsComma ps) (tokens.Str k) = Some (MapKey ps k)
value_step ArrayWord Open = Some ArrayOpen
value_step ArrayOpen (tokens.Number n) = Some (ArrayNumbers (n ∷ []))
value_step ArrayOpen Close = Some (Whole (values.Array []))
value_step (ArrayNumbers ns) Comma = Some (ArrayNumbersComma ns)
value_step (ArrayNumbers ns) Close = Some (Whole (values.Array ns))
value_step (ArrayNumbersComma ns) (tokens.Number n) = Some (ArrayNumbers (ns ++ n ∷ []))
value_step _ _ = None

-- one argument more
abbrev pub with_arg : Call → Option (List ℕ) → ArgValue → Call
with_arg c n v = record c { args = c.args ++ record { name = n; value = v } ∷ [] }

-- behind the comma after an argument: after a named one names follow, and after another one values
abbrev pub behind_comma : Option (List ℕ) → Call → State
behind_comma None c = states.Value c None Nothing
behind_comma (Some n) c = states.NextName c

-- one token further in an argument
unfoldable pub argument_step : Call → Option (List ℕ) → ValueState → Token → Option State
argument_step c name (Whole v) Comma = Some (behind_comma name (with_arg c name v))
argument_step c name (Whole v) Close = Some (states.Closed (with_arg c name v))
argument_step c name p t = option_map (λ q. states.Value c name q) (value_step p t)

-- on with this word alone
abbrev pub only : Keyword → List ℕ → State → Option State
only k w s = if is_keyword k w then Some s else None

-- where a value stands behind an identifier without backquotes
abbrev pub begun_by_word : List ℕ → Option ValueState
begun_by_word w = option_and_then begun_by (keyword w)

-- one token further in a statement; nothing where no statement goes on so
unfoldable pub state_step : State → Token → Option State
state_step states.Start (tokens.Word w) = only words.Call w states.Called
state_step states.Called (tokens.Word n) = Some (states.Catalog n)
state_step states.Called (tokens.Quoted n) = Some (states.Catalog n)
state_step (states.Catalog n) Dot = Some (states.CatalogDot n)
state_step (states.CatalogDot n) (tokens.Word w) = only words.System w (states.System n)
state_step (states.System n) Dot = Some (states.SystemDot n)
state_step (states.SystemDot n) (tokens.Word p) = Some (states.Procedure n p)
state_step (states.SystemDot n) (tokens.Quoted p) = Some (states.Procedure n p)
state_step (states.Procedure n p) Open = Some (states.First (record { catalog = n; procedure = p; args = [] }))
state_step (states.First c) Close = Some (states.Closed c)
state_step (states.First c) (tokens.Word w) = Some (states.FirstWord c w)
state_step (states.First c) (tokens.Quoted n) = Some (states.Named c n)
state_step (states.First c) t = argument_step c None Nothing t
state_step (states.FirstWord c w) Arrow = Some (states.Value c (Some w) Nothing)
state_step (states.FirstWord c w) t = option_and_then (λ p. argument_step c None p t) (begun_by_word w)
state_step (states.NextName c) (tokens.Word n) = Some (states.Named c n)
state_step (states.NextName c) (tokens.Quoted n) = Some (states.Named c n)
state_step (states.Named c n) Arrow = Some (states.Value c (Some n) Nothing)
state_step (states.Value c name p) t = argument_step c name p t
state_step (states.Closed c) Semicolon = Some (states.Ended c)
state_step _ _ = None

-- through all of these tokens
unfoldable pub run : State → List Token → Option State
run s [] = Some s
run s (t ∷ ts) = option_and_then (λ n. run n ts) (state_step s t)

-- the call, where a statement may end here
abbrev pub finished : State → Option Call
finished (states.Closed c) = Some c
finished (states.Ended c) = Some c
finished _ = None

-- one token of a text further, and past the blanks behind it
abbrev pub token_step : State → List ℕ → Option (State × List ℕ)
token_step s bytes = option_and_then (λ x. option_map (λ n. (n, past_blanks x.1)) (state_step s x.0)) (token_of bytes)
