-- What is in the grammar is read, and as its call; tokens begin a statement exactly where the steps go through them.
use Rattle.std.proofs.Common.{◌≡◌, ℕ, Bool, true, false, List, [], ◌∷◌, ◌++◌, drop, Option, Some, None, refl, sym, ◌∙◌, ap, subst, append_assoc, inl, inr}
use Rattle.std.proofs.lemmas.List.{append-nil}
use Rattle.std.specs.Option.{option_map}
use Rattle.std.proofs.lemmas.Option.{option_and_then_some}
use Rattle.std.specs.Prelude.{option_and_then, codes}
use Rattle.call_text.specs.declared.token.Token.{Token}
use Rattle.call_text.specs.declared.token.Token.TheVariants as tokens
use Rattle.call_text.specs.declared.token.Token.TheVariants.{Dot, Comma, Open, Close, Arrow, Semicolon}
use Rattle.call_text.specs.declared.call.Call.{Call}
use Rattle.call_text.specs.declared.call.Arg.{Arg}
use Rattle.call_text.specs.declared.call.ArgValue.{ArgValue}
use Rattle.call_text.specs.declared.call.ArgValue.TheVariants as values
use Rattle.call_text.specs.declared.value_state.ValueState.{ValueState}
use Rattle.call_text.specs.declared.value_state.ValueState.TheVariants.{Nothing, TimestampWord, MapWord, MapOpen, MapKey, MapKeyComma, MapPairs, MapPairsComma, ArrayWord, ArrayOpen, ArrayNumbers, ArrayNumbersComma, Whole}
use Rattle.call_text.specs.declared.keyword.Keyword.{Keyword}
use Rattle.call_text.specs.declared.keyword.Keyword.TheVariants as words
use Rattle.call_text.specs.declared.state.State.{State}
use Rattle.call_text.specs.declared.state.State.TheVariants as states
use Rattle.call_text.specs.Keywords.{IsKeyword, IsName, lower, spelling}
use Rattle.call_text.specs.Grammar.{IsValue, IsLead, is_named, IsArg, AreArgs, IsEnd, IsHead, IsStatement, Begins}
use Rattle.call_text.specs.Steps.{begun_by, value_step, with_arg, behind_comma, argument_step, only, begun_by_word, state_step, run, finished}
use Rattle.std.specs.List.{flat_map}
use Rattle.call_text.specs.Grammar.{pair_behind_comma, number_behind_comma, pair_tokens, number_tokens}
use Rattle.call_text.specs.Keywords.{keyword_of}
use Rattle.call_text.proofs.KeywordLaws.{keyword-spelling, word_from}
use Rattle.call_text.proofs.StateLaws.{sound}

begun_by_word_is : (k : Keyword) (w : List ℕ) → lower w ≡ spelling k → begun_by_word w ≡ begun_by k
begun_by_word_is k w e = ap (option_and_then begun_by) (ap keyword_of e ∙ keyword-spelling k)

-- the steps through a map's pairs and an array's numbers
pairs_run : (ps done : List (List ℕ × List ℕ)) (c : Call) (name : Option (List ℕ)) (rest : List Token) → run (states.Value c name (MapPairs done)) (flat_map pair_behind_comma ps ++ Close ∷ rest) ≡ run (states.Value c name (Whole (values.Map (done ++ ps)))) rest
unfolding run state_step argument_step value_step
pairs_run [] done c name rest = ap (λ (x : List (List ℕ × List ℕ)). run (states.Value c name (Whole (values.Map x))) rest) (sym (append-nil done))
pairs_run (p ∷ ps) done c name rest = pairs_run ps (done ++ p ∷ []) c name rest ∙ ap (λ (x : List (List ℕ × List ℕ)). run (states.Value c name (Whole (values.Map x))) rest) (append_assoc done (p ∷ []) ps)

numbers_run : (ns done : List (List ℕ)) (c : Call) (name : Option (List ℕ)) (rest : List Token) → run (states.Value c name (ArrayNumbers done)) (flat_map number_behind_comma ns ++ Close ∷ rest) ≡ run (states.Value c name (Whole (values.Array (done ++ ns)))) rest
unfolding run state_step argument_step value_step
numbers_run [] done c name rest = ap (λ (x : List (List ℕ)). run (states.Value c name (Whole (values.Array x))) rest) (sym (append-nil done))
numbers_run (n ∷ ns) done c name rest = numbers_run ns (done ++ n ∷ []) c name rest ∙ ap (λ (x : List (List ℕ)). run (states.Value c name (Whole (values.Array x))) rest) (append_assoc done (n ∷ []) ns)

map_run : (ps : List (List ℕ × List ℕ)) (c : Call) (name : Option (List ℕ)) (rest : List Token) → run (states.Value c name MapOpen) (pair_tokens ps ++ Close ∷ rest) ≡ run (states.Value c name (Whole (values.Map ps))) rest
unfolding run state_step argument_step value_step
map_run [] c name rest = refl
map_run (p ∷ ps) c name rest = pairs_run ps (p ∷ []) c name rest

array_run : (ns : List (List ℕ)) (c : Call) (name : Option (List ℕ)) (rest : List Token) → run (states.Value c name ArrayOpen) (number_tokens ns ++ Close ∷ rest) ≡ run (states.Value c name (Whole (values.Array ns))) rest
unfolding run state_step argument_step value_step
array_run [] c name rest = refl
array_run (n ∷ ns) c name rest = numbers_run ns (n ∷ []) c name rest

-- a word that begins a value
word_run : (k : Keyword) (t : Token) (c : Call) (name : Option (List ℕ)) (p : ValueState) (rest : List Token) → IsKeyword k t → begun_by k ≡ Some p → run (states.Value c name Nothing) (t ∷ rest) ≡ run (states.Value c name p) rest
unfolding run state_step argument_step value_step
word_run k t c name p rest is e =
    ap (λ x. run (states.Value c name Nothing) (x ∷ rest)) is.1
    ∙ ap (λ o. option_and_then (λ n. run n rest) (option_map (λ q. states.Value c name q) o)) (begun_by_word_is k is.0 is.2 ∙ e)

value_run : (v : ArgValue) (ts rest : List Token) (c : Call) (name : Option (List ℕ)) → IsValue v ts → run (states.Value c name Nothing) (ts ++ rest) ≡ run (states.Value c name (Whole v)) rest
unfolding run state_step argument_step value_step begun_by
value_run (values.Str s) ts rest c name h = ap (λ (x : List Token). run (states.Value c name Nothing) (x ++ rest)) h
value_run (values.Number n) ts rest c name h = ap (λ (x : List Token). run (states.Value c name Nothing) (x ++ rest)) h
value_run (values.Bool true) ts rest c name h = ap (λ (x : List Token). run (states.Value c name Nothing) (x ++ rest)) h.2 ∙ word_run words.True h.0 c name (Whole (values.Bool true)) rest h.1 refl
value_run (values.Bool false) ts rest c name h = ap (λ (x : List Token). run (states.Value c name Nothing) (x ++ rest)) h.2 ∙ word_run words.False h.0 c name (Whole (values.Bool false)) rest h.1 refl
value_run values.Null ts rest c name h = ap (λ (x : List Token). run (states.Value c name Nothing) (x ++ rest)) h.2 ∙ word_run words.Null h.0 c name (Whole values.Null) rest h.1 refl
value_run (values.Moment s) ts rest c name h = ap (λ (x : List Token). run (states.Value c name Nothing) (x ++ rest)) h.2 ∙ word_run words.Timestamp h.0 c name TimestampWord (tokens.Str s ∷ rest) h.1 refl
value_run (values.Map ps) ts rest c name h =
    ap (λ (x : List Token). run (states.Value c name Nothing) (x ++ rest)) h.2
    ∙ word_run words.Map h.0 c name MapWord (Open ∷ ((pair_tokens ps ++ Close ∷ []) ++ rest)) h.1 refl
    ∙ ap (λ (x : List Token). run (states.Value c name MapOpen) x) (append_assoc (pair_tokens ps) (Close ∷ []) rest)
    ∙ map_run ps c name rest
value_run (values.Array ns) ts rest c name h =
    ap (λ (x : List Token). run (states.Value c name Nothing) (x ++ rest)) h.2
    ∙ word_run words.Array h.0 c name ArrayWord (Open ∷ ((number_tokens ns ++ Close ∷ []) ++ rest)) h.1 refl
    ∙ ap (λ (x : List Token). run (states.Value c name ArrayOpen) x) (append_assoc (number_tokens ns) (Close ∷ []) rest)
    ∙ array_run ns c name rest

-- a name
name_run : (n : List ℕ) (t : Token) (c : Call) (rest : List Token) → IsName n t → run (states.NextName c) (t ∷ Arrow ∷ rest) ≡ run (states.Value c (Some n) Nothing) rest
unfolding run state_step
name_run n t c rest h = elim h [
  | inl e ↦ ap (λ x. run (states.NextName c) (x ∷ Arrow ∷ rest)) e
  | inr e ↦ ap (λ x. run (states.NextName c) (x ∷ Arrow ∷ rest)) e
]

lead_run : (name m : Option (List ℕ)) (c : Call) (lead rest : List Token) → is_named m ≡ is_named name → IsLead m lead → run (behind_comma name c) (lead ++ rest) ≡ run (states.Value c m Nothing) rest
unfolding run state_step
lead_run None None c lead rest e h = ap (λ (x : List Token). run (states.Value c None Nothing) (x ++ rest)) h
lead_run None (Some n) c lead rest e h = absurd cc
lead_run (Some n) None c lead rest e h = absurd cc
lead_run (Some n) (Some m) c lead rest e h =
    ap (λ (x : List Token). run (states.NextName c) (x ++ rest)) h.2
    ∙ name_run m h.0 c rest h.1

-- one argument more, whatever follows
arg_run : (name : Option (List ℕ)) (v : ArgValue) (c : Call) (a : Arg) (front rest : List Token) → IsArg (is_named name) a front → run (states.Value c name (Whole v)) (front ++ rest) ≡ run (states.Value (with_arg c name v) a.name (Whole a.value)) rest
unfolding run state_step argument_step
arg_run name v c a front rest h =
    ap (λ (x : List Token). run (states.Value c name (Whole v)) (x ++ rest)) h.is
    ∙ ap (λ (x : List Token). run (behind_comma name (with_arg c name v)) x) (append_assoc h.lead h.value rest)
    ∙ lead_run name a.name (with_arg c name v) h.lead (h.value ++ rest) h.kind h.is_lead
    ∙ value_run a.value h.value rest (with_arg c name v) a.name h.is_value

with_args : Call → List Arg → Call
with_args c list = record c { args = c.args ++ list }

close_run : (name : Option (List ℕ)) (v : ArgValue) (c : Call) (rest : List Token) → run (states.Value c name (Whole v)) (Close ∷ rest) ≡ run (states.Closed (with_arg c name v)) rest
unfolding run state_step argument_step
close_run name v c rest = refl

args_run : (list : List Arg) (name : Option (List ℕ)) (v : ArgValue) (c : Call) (us rest : List Token) → AreArgs (is_named name) list us → run (states.Value c name (Whole v)) (us ++ Close ∷ rest) ≡ run (states.Closed (with_args c (record { name = name; value = v } ∷ list))) rest
unfolding with_args
args_run [] name v c us rest h =
    ap (λ (x : List Token). run (states.Value c name (Whole v)) (x ++ Close ∷ rest)) h
    ∙ close_run name v c rest
args_run (a ∷ list) name v c us rest h =
    ap (λ (x : List Token). run (states.Value c name (Whole v)) (x ++ Close ∷ rest)) h.4
    ∙ ap (λ (x : List Token). run (states.Value c name (Whole v)) x) (append_assoc h.0 h.1 (Close ∷ rest))
    ∙ arg_run name v c a h.0 (h.1 ++ Close ∷ rest) h.2
    ∙ args_run list a.name a.value (with_arg c name v) h.1 rest (subst (λ b. AreArgs b list h.1) (sym h.2.kind) h.3)
    ∙ ap (λ (x : List Arg). run (states.Closed (record c { args = x })) rest) (append_assoc c.args (record { name = name; value = v } ∷ []) (a ∷ list))

-- the first argument, where an argument's end follows
abbrev IsBehind : List Token → Type 0
IsBehind [] = ⊥
IsBehind (Comma ∷ ts) = Unit {0}
IsBehind (Close ∷ ts) = Unit {0}
IsBehind (_ ∷ ts) = ⊥

no_arrow : (c : Call) (w : List ℕ) (p : ValueState) (x : Token) → (x ≡ Arrow → ⊥) → begun_by_word w ≡ Some p → state_step (states.FirstWord c w) x ≡ state_step (states.Value c None p) x
unfolding state_step
no_arrow c w p Arrow h e = absurd (h refl)
no_arrow c w p x h e = ap (option_and_then (λ q. argument_step c None q x)) e

first_word_run : (k : Keyword) (t : Token) (c : Call) (p : ValueState) (x : Token) (rest : List Token) → IsKeyword k t → begun_by k ≡ Some p → (x ≡ Arrow → ⊥) → run (states.First c) (t ∷ x ∷ rest) ≡ run (states.Value c None p) (x ∷ rest)
unfolding run state_step
first_word_run k t c p x rest is e other =
    ap (λ y. run (states.First c) (y ∷ x ∷ rest)) is.1
    ∙ ap (λ o. option_and_then (λ n. run n rest) o) (no_arrow c is.0 p x other (begun_by_word_is k is.0 is.2 ∙ e))

behind_no_arrow : (x : Token) (ts : List Token) → IsBehind (x ∷ ts) → x ≡ Arrow → ⊥
behind_no_arrow Comma ts h e = absurd cc
behind_no_arrow Close ts h e = absurd cc
behind_no_arrow x ts h e = h

single_word_run : (k : Keyword) (v : ArgValue) (t : Token) (c : Call) (rest : List Token) → IsKeyword k t → begun_by k ≡ Some (Whole v) → IsBehind rest → run (states.First c) (t ∷ rest) ≡ run (states.Value c None (Whole v)) rest
single_word_run k v t c [] is e h = absurd h
single_word_run k v t c (x ∷ rest) is e h = first_word_run k t c (Whole v) x rest is e (behind_no_arrow x rest h)

first_value_run : (v : ArgValue) (ts rest : List Token) (c : Call) → IsValue v ts → IsBehind rest → run (states.First c) (ts ++ rest) ≡ run (states.Value c None (Whole v)) rest
unfolding run state_step argument_step value_step begun_by
first_value_run (values.Str s) ts rest c h b = ap (λ (x : List Token). run (states.First c) (x ++ rest)) h
first_value_run (values.Number n) ts rest c h b = ap (λ (x : List Token). run (states.First c) (x ++ rest)) h
first_value_run (values.Bool true) ts rest c h b = ap (λ (x : List Token). run (states.First c) (x ++ rest)) h.2 ∙ single_word_run words.True (values.Bool true) h.0 c rest h.1 refl b
first_value_run (values.Bool false) ts rest c h b = ap (λ (x : List Token). run (states.First c) (x ++ rest)) h.2 ∙ single_word_run words.False (values.Bool false) h.0 c rest h.1 refl b
first_value_run values.Null ts rest c h b = ap (λ (x : List Token). run (states.First c) (x ++ rest)) h.2 ∙ single_word_run words.Null values.Null h.0 c rest h.1 refl b
first_value_run (values.Moment s) ts rest c h b = ap (λ (x : List Token). run (states.First c) (x ++ rest)) h.2 ∙ first_word_run words.Timestamp h.0 c TimestampWord (tokens.Str s) rest h.1 refl (λ e. absurd cc)
first_value_run (values.Map ps) ts rest c h b =
    ap (λ (x : List Token). run (states.First c) (x ++ rest)) h.2
    ∙ first_word_run words.Map h.0 c MapWord Open ((pair_tokens ps ++ Close ∷ []) ++ rest) h.1 refl (λ e. absurd cc)
    ∙ ap (λ (x : List Token). run (states.Value c None MapOpen) x) (append_assoc (pair_tokens ps) (Close ∷ []) rest)
    ∙ map_run ps c None rest
first_value_run (values.Array ns) ts rest c h b =
    ap (λ (x : List Token). run (states.First c) (x ++ rest)) h.2
    ∙ first_word_run words.Array h.0 c ArrayWord Open ((number_tokens ns ++ Close ∷ []) ++ rest) h.1 refl (λ e. absurd cc)
    ∙ ap (λ (x : List Token). run (states.Value c None ArrayOpen) x) (append_assoc (number_tokens ns) (Close ∷ []) rest)
    ∙ array_run ns c None rest

first_name_run : (n : List ℕ) (t : Token) (c : Call) (rest : List Token) → IsName n t → run (states.First c) (t ∷ Arrow ∷ rest) ≡ run (states.Value c (Some n) Nothing) rest
unfolding run state_step
first_name_run n t c rest h = elim h [
  | inl e ↦ ap (λ x. run (states.First c) (x ∷ Arrow ∷ rest)) e
  | inr e ↦ ap (λ x. run (states.First c) (x ∷ Arrow ∷ rest)) e
]

first_run : (name : Option (List ℕ)) (v : ArgValue) (lead value rest : List Token) (c : Call) → IsLead name lead → IsValue v value → IsBehind rest → run (states.First c) (lead ++ (value ++ rest)) ≡ run (states.Value c name (Whole v)) rest
first_run None v lead value rest c h k b = ap (λ (x : List Token). run (states.First c) (x ++ (value ++ rest))) h ∙ first_value_run v value rest c k b
first_run (Some n) v lead value rest c h k b =
    ap (λ (x : List Token). run (states.First c) (x ++ (value ++ rest))) h.2
    ∙ first_name_run n h.0 c (value ++ rest) h.1
    ∙ value_run v value rest c (Some n) k

args_behind : (named : Bool) (list : List Arg) (us rest : List Token) → AreArgs named list us → IsBehind (us ++ Close ∷ rest)
args_behind named [] us rest h = rw h tt
args_behind named (a ∷ list) us rest h = rw (h.4, h.2.is) tt

all_args_run : (named : Bool) (list : List Arg) (n p : List ℕ) (us rest : List Token) → AreArgs named list us → run (states.First (record { catalog = n; procedure = p; args = [] })) (drop 1 us ++ Close ∷ rest) ≡ run (states.Closed (record { catalog = n; procedure = p; args = list })) rest
unfolding run state_step with_args
all_args_run named [] n p us rest h = ap (λ (x : List Token). run (states.First (record { catalog = n; procedure = p; args = [] })) (drop 1 x ++ Close ∷ rest)) h
all_args_run named (a ∷ list) n p us rest h =
    let c : Call = record { catalog = n; procedure = p; args = [] } in
    ap (λ (x : List Token). run (states.First c) (drop 1 x ++ Close ∷ rest)) (h.4 ∙ ap (λ (x : List Token). x ++ h.1) h.2.is)
    ∙ ap (λ (x : List Token). run (states.First c) x) (append_assoc (h.2.lead ++ h.2.value) h.1 (Close ∷ rest) ∙ append_assoc h.2.lead h.2.value (h.1 ++ Close ∷ rest))
    ∙ first_run a.name a.value h.2.lead h.2.value (h.1 ++ Close ∷ rest) c h.2.is_lead h.2.is_value (args_behind named list h.1 rest h.3)
    ∙ args_run list a.name a.value c h.1 rest (subst (λ b. AreArgs b list h.1) (sym h.2.kind) h.3)

only_yes : (k : Keyword) (w : List ℕ) (s : State) → lower w ≡ spelling k → only k w s ≡ Some s
only_yes k w s e = rw (word_from w k e) refl

call_run : (t : Token) (rest : List Token) → IsKeyword words.Call t → run states.Start (t ∷ rest) ≡ run states.Called rest
unfolding run state_step
call_run t rest is = ap (λ x. run states.Start (x ∷ rest)) is.1 ∙ ap (option_and_then (λ n. run n rest)) (only_yes words.Call is.0 states.Called is.2)

catalog_run : (n : List ℕ) (t : Token) (rest : List Token) → IsName n t → run states.Called (t ∷ Dot ∷ rest) ≡ run (states.CatalogDot n) rest
unfolding run state_step
catalog_run n t rest h = elim h [
  | inl e ↦ ap (λ x. run states.Called (x ∷ Dot ∷ rest)) e
  | inr e ↦ ap (λ x. run states.Called (x ∷ Dot ∷ rest)) e
]

system_run : (n : List ℕ) (t : Token) (rest : List Token) → IsKeyword words.System t → run (states.CatalogDot n) (t ∷ Dot ∷ rest) ≡ run (states.SystemDot n) rest
unfolding run state_step
system_run n t rest is = ap (λ x. run (states.CatalogDot n) (x ∷ Dot ∷ rest)) is.1 ∙ ap (option_and_then (λ s. run s (Dot ∷ rest))) (only_yes words.System is.0 (states.System n) is.2)

procedure_run : (n p : List ℕ) (t : Token) (rest : List Token) → IsName p t → run (states.SystemDot n) (t ∷ Open ∷ rest) ≡ run (states.First (record { catalog = n; procedure = p; args = [] })) rest
unfolding run state_step
procedure_run n p t rest h = elim h [
  | inl e ↦ ap (λ x. run (states.SystemDot n) (x ∷ Open ∷ rest)) e
  | inr e ↦ ap (λ x. run (states.SystemDot n) (x ∷ Open ∷ rest)) e
]

head_run : (n p : List ℕ) (head rest : List Token) → IsHead n p head → run states.Start (head ++ rest) ≡ run (states.First (record { catalog = n; procedure = p; args = [] })) rest
head_run n p head rest h =
    ap (λ (x : List Token). run states.Start (x ++ rest)) h.is
    ∙ call_run h.call (h.catalog_name ∷ Dot ∷ h.system ∷ Dot ∷ h.procedure_name ∷ Open ∷ rest) h.is_call
    ∙ catalog_run n h.catalog_name (h.system ∷ Dot ∷ h.procedure_name ∷ Open ∷ rest) h.is_catalog
    ∙ system_run n h.system (h.procedure_name ∷ Open ∷ rest) h.is_system
    ∙ procedure_run n p h.procedure_name rest h.is_procedure

pub record Finishes (s : State) (ts : List Token) (c : Call) : Type 0 where
  pub last : State
  pub runs : run s ts ≡ Some last
  pub is : finished last ≡ Some c

end_run : (c : Call) (ts : List Token) → IsEnd ts → Finishes (states.Closed c) ts c
unfolding run state_step
end_run c ts h = elim h [
  | inl e ↦ record { last = states.Closed c; runs = ap (run (states.Closed c)) e; is = refl }
  | inr e ↦ record { last = states.Ended c; runs = ap (run (states.Closed c)) e; is = refl }
]

-- what is in the grammar is read, and as this call
pub complete : (ts : List Token) (c : Call) → IsStatement c ts → Finishes states.Start ts c
complete ts c h =
    let f = end_run c h.end h.is_end in
    record {
      last = f.last;
      runs = ap (run states.Start) h.is
          ∙ head_run c.catalog c.procedure h.head (drop 1 h.args ++ Close ∷ h.end) h.is_head
          ∙ all_args_run h.named c.args c.catalog c.procedure h.args h.end h.are_args
          ∙ f.runs;
      is = f.is;
    }

after : (s : State) (x : Token) (xs ys : List Token) (o : Option State) → ((n : State) → run n (xs ++ ys) ≡ option_and_then (λ m. run m ys) (run n xs)) → option_and_then (λ n. run n (xs ++ ys)) o ≡ option_and_then (λ m. run m ys) (option_and_then (λ n. run n xs) o)
after s x xs ys None h = refl
after s x xs ys (Some n) h = h n

pub run-append : (xs ys : List Token) (s : State) → run s (xs ++ ys) ≡ option_and_then (λ n. run n ys) (run s xs)
unfolding run
run-append [] ys s = refl
run-append (x ∷ xs) ys s = after s x xs ys (state_step s x) (λ n. run-append xs ys n)

-- tokens that end what was begun
value_ending : ValueState → List Token
value_ending Nothing = tokens.Str [] ∷ []
value_ending TimestampWord = tokens.Str [] ∷ []
value_ending MapWord = Open ∷ Close ∷ []
value_ending MapOpen = Close ∷ []
value_ending (MapKey ps k) = Comma ∷ tokens.Str [] ∷ Close ∷ []
value_ending (MapKeyComma ps k) = tokens.Str [] ∷ Close ∷ []
value_ending (MapPairs ps) = Close ∷ []
value_ending (MapPairsComma ps) = tokens.Str [] ∷ Comma ∷ tokens.Str [] ∷ Close ∷ []
value_ending ArrayWord = Open ∷ Close ∷ []
value_ending ArrayOpen = Close ∷ []
value_ending (ArrayNumbers ns) = Close ∷ []
value_ending (ArrayNumbersComma ns) = tokens.Number (codes "0") ∷ Close ∷ []
value_ending (Whole v) = []

args_ending : List Token
args_ending = tokens.Word (codes "a") ∷ Arrow ∷ tokens.Str [] ∷ Close ∷ []

ending : State → List Token
ending states.Start = tokens.Word (codes "CALL") ∷ tokens.Word (codes "a") ∷ Dot ∷ tokens.Word (codes "system") ∷ Dot ∷ tokens.Word (codes "a") ∷ Open ∷ Close ∷ []
ending states.Called = tokens.Word (codes "a") ∷ Dot ∷ tokens.Word (codes "system") ∷ Dot ∷ tokens.Word (codes "a") ∷ Open ∷ Close ∷ []
ending (states.Catalog n) = Dot ∷ tokens.Word (codes "system") ∷ Dot ∷ tokens.Word (codes "a") ∷ Open ∷ Close ∷ []
ending (states.CatalogDot n) = tokens.Word (codes "system") ∷ Dot ∷ tokens.Word (codes "a") ∷ Open ∷ Close ∷ []
ending (states.System n) = Dot ∷ tokens.Word (codes "a") ∷ Open ∷ Close ∷ []
ending (states.SystemDot n) = tokens.Word (codes "a") ∷ Open ∷ Close ∷ []
ending (states.Procedure n p) = Open ∷ Close ∷ []
ending (states.First c) = Close ∷ []
ending (states.FirstWord c w) = Arrow ∷ tokens.Str [] ∷ Close ∷ []
ending (states.NextName c) = args_ending
ending (states.Named c n) = Arrow ∷ tokens.Str [] ∷ Close ∷ []
ending (states.Value c name p) = value_ending p ++ Close ∷ []
ending (states.Closed c) = []
ending (states.Ended c) = []

pub record Ends (s : State) (ts : List Token) : Type 0 where
  pub call : Call
  pub last : State
  pub runs : run s ts ≡ Some last
  pub is : finished last ≡ Some call

value_ends : (c : Call) (name : Option (List ℕ)) (p : ValueState) → Ends (states.Value c name p) (value_ending p ++ Close ∷ [])
unfolding run state_step argument_step value_step value_ending
value_ends c name Nothing = record { call = with_arg c name (values.Str []); last = _; runs = refl; is = refl }
value_ends c name TimestampWord = record { call = with_arg c name (values.Moment []); last = _; runs = refl; is = refl }
value_ends c name MapWord = record { call = with_arg c name (values.Map []); last = _; runs = refl; is = refl }
value_ends c name MapOpen = record { call = with_arg c name (values.Map []); last = _; runs = refl; is = refl }
value_ends c name (MapKey ps k) = record { call = with_arg c name (values.Map (ps ++ (k, []) ∷ [])); last = _; runs = refl; is = refl }
value_ends c name (MapKeyComma ps k) = record { call = with_arg c name (values.Map (ps ++ (k, []) ∷ [])); last = _; runs = refl; is = refl }
value_ends c name (MapPairs ps) = record { call = with_arg c name (values.Map ps); last = _; runs = refl; is = refl }
value_ends c name (MapPairsComma ps) = record { call = with_arg c name (values.Map (ps ++ ([], []) ∷ [])); last = _; runs = refl; is = refl }
value_ends c name ArrayWord = record { call = with_arg c name (values.Array []); last = _; runs = refl; is = refl }
value_ends c name ArrayOpen = record { call = with_arg c name (values.Array []); last = _; runs = refl; is = refl }
value_ends c name (ArrayNumbers ns) = record { call = with_arg c name (values.Array ns); last = _; runs = refl; is = refl }
value_ends c name (ArrayNumbersComma ns) = record { call = with_arg c name (values.Array (ns ++ codes "0" ∷ [])); last = _; runs = refl; is = refl }
value_ends c name (Whole v) = record { call = with_arg c name v; last = _; runs = refl; is = refl }

ends : (s : State) → Ends s (ending s)
unfolding run state_step argument_step value_step ending args_ending spelling
ends states.Start = record { call = record { catalog = codes "a"; procedure = codes "a"; args = [] }; last = _; runs = refl; is = refl }
ends states.Called = record { call = record { catalog = codes "a"; procedure = codes "a"; args = [] }; last = _; runs = refl; is = refl }
ends (states.Catalog n) = record { call = record { catalog = n; procedure = codes "a"; args = [] }; last = _; runs = refl; is = refl }
ends (states.CatalogDot n) = record { call = record { catalog = n; procedure = codes "a"; args = [] }; last = _; runs = refl; is = refl }
ends (states.System n) = record { call = record { catalog = n; procedure = codes "a"; args = [] }; last = _; runs = refl; is = refl }
ends (states.SystemDot n) = record { call = record { catalog = n; procedure = codes "a"; args = [] }; last = _; runs = refl; is = refl }
ends (states.Procedure n p) = record { call = record { catalog = n; procedure = p; args = [] }; last = _; runs = refl; is = refl }
ends (states.First c) = record { call = c; last = _; runs = refl; is = refl }
ends (states.FirstWord c w) = record { call = with_arg c (Some w) (values.Str []); last = _; runs = refl; is = refl }
ends (states.NextName c) = record { call = with_arg c (Some (codes "a")) (values.Str []); last = _; runs = refl; is = refl }
ends (states.Named c n) = record { call = with_arg c (Some n) (values.Str []); last = _; runs = refl; is = refl }
ends (states.Value c name p) = value_ends c name p
ends (states.Closed c) = record { call = c; last = _; runs = refl; is = refl }
ends (states.Ended c) = record { call = c; last = _; runs = refl; is = refl }

-- tokens begin a statement exactly where the steps go through them
pub begins : (ts : List Token) (s : State) → run states.Start ts ≡ Some s → Begins ts
begins ts s e =
    let f = ends s in
    (ending s, f.call, sound (ts ++ ending s) f.last f.call (run-append ts (ending s) states.Start ∙ ap (option_and_then (λ n. run n (ending s))) e ∙ f.runs) f.is)

pub begun : (ts : List Token) → Begins ts → (s : State) × (run states.Start ts ≡ Some s)
begun ts h =
    let f = complete (ts ++ h.0) h.1 h.2 in
    option_and_then_some (λ n. run n h.0) (run states.Start ts) f.last (sym (run-append ts h.0 states.Start) ∙ f.runs) (λ x is e. (x, is))
