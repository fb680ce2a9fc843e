-- What stands where a statement was read so far. So what the steps read is in the grammar.
use Rattle.std.proofs.Common.{◌≡◌, ℕ, Bool, true, false, List, [], ◌∷◌, ◌++◌, drop, Option, Some, None, refl, sym, ◌∙◌, ap, subst, append_assoc, inl, inr}
use Rattle.std.proofs.lemmas.List.{append-nil}
use Rattle.std.specs.Option.{option_map}
use Rattle.std.proofs.lemmas.Option.{same_Some, option_and_then_some, cond_some}
use Rattle.call_text.specs.declared.token.Token.{Token}
use Rattle.call_text.specs.declared.token.Token.TheVariants as tokens
use Rattle.call_text.specs.declared.token.Token.TheVariants.{Dot, Comma, Open, Close, Arrow, Semicolon}
use Rattle.call_text.specs.declared.call.Call.{Call}
use Rattle.call_text.specs.declared.call.Arg.{Arg}
use Rattle.call_text.specs.declared.call.ArgValue.{ArgValue}
use Rattle.call_text.specs.declared.value_state.ValueState.{ValueState}
use Rattle.call_text.specs.declared.value_state.ValueState.TheVariants.{Nothing, Whole}
use Rattle.call_text.specs.declared.keyword.Keyword.{Keyword}
use Rattle.call_text.specs.declared.keyword.Keyword.TheVariants as words
use Rattle.call_text.specs.declared.state.State.{State}
use Rattle.call_text.specs.declared.state.State.TheVariants as states
use Rattle.call_text.specs.Keywords.{IsKeyword, IsName, lower, keyword, is_keyword}
use Rattle.call_text.specs.Grammar.{IsLead, is_named, IsArg, AreArgs, IsHead, IsStatement}
use Rattle.call_text.specs.Steps.{begun_by, value_step, with_arg, behind_comma, argument_step, only, begun_by_word, state_step, run, finished}
use Rattle.call_text.proofs.KeywordLaws.{keyword_is, word_is}
use Rattle.call_text.proofs.ValueLaws.{ValueStands, value_stands, word_stands}

-- what stands behind the head, with a comma before it
pub record InArgs (c : Call) (inside : List Token) (ts : List Token) : Type 0 where
  pub head : List Token
  pub tokens : List Token
  pub is_head : IsHead c.catalog c.procedure head
  pub is_inside : Comma ∷ tokens ≡ inside
  pub is : ts ≡ head ++ tokens

pub record IsPartOfHead (names : List Token) (ts : List Token) : Type 0 where
  pub call : Token
  pub is_call : IsKeyword words.Call call
  pub is : ts ≡ call ∷ names

pub record IsNamesOfHead (n : List ℕ) (names : List Token) (ts : List Token) : Type 0 where
  pub call : Token
  pub name : Token
  pub is_call : IsKeyword words.Call call
  pub is_name : IsName n name
  pub is : ts ≡ call ∷ name ∷ names

pub record IsSystemOfHead (n : List ℕ) (names : List Token) (ts : List Token) : Type 0 where
  pub call : Token
  pub name : Token
  pub system : Token
  pub is_call : IsKeyword words.Call call
  pub is_name : IsName n name
  pub is_system : IsKeyword words.System system
  pub is : ts ≡ call ∷ name ∷ Dot ∷ system ∷ names

pub record IsProcedureOfHead (n p : List ℕ) (ts : List Token) : Type 0 where
  pub call : Token
  pub name : Token
  pub system : Token
  pub procedure : Token
  pub is_call : IsKeyword words.Call call
  pub is_name : IsName n name
  pub is_system : IsKeyword words.System system
  pub is_procedure : IsName p procedure
  pub is : ts ≡ call ∷ name ∷ Dot ∷ system ∷ Dot ∷ procedure ∷ []

pub record IsNextName (c : Call) (ts : List Token) : Type 0 where
  pub args : List Token
  pub are_args : AreArgs true c.args args
  pub inside : InArgs c (args ++ Comma ∷ []) ts

pub record IsNamedArg (c : Call) (n : List ℕ) (ts : List Token) : Type 0 where
  pub args : List Token
  pub name : Token
  pub are_args : AreArgs true c.args args
  pub is_name : IsName n name
  pub inside : InArgs c (args ++ Comma ∷ name ∷ []) ts

pub record IsInValue (c : Call) (name : Option (List ℕ)) (p : ValueState) (ts : List Token) : Type 0 where
  pub args : List Token
  pub lead : List Token
  pub value : List Token
  pub are_args : AreArgs (is_named name) c.args args
  pub is_lead : IsLead name lead
  pub stands : ValueStands p value
  pub inside : InArgs c (args ++ (Comma ∷ lead ++ value)) ts

-- a statement without its end
pub record IsClosed (c : Call) (ts : List Token) : Type 0 where
  pub named : Bool
  pub head : List Token
  pub args : List Token
  pub is_head : IsHead c.catalog c.procedure head
  pub are_args : AreArgs named c.args args
  pub is : ts ≡ head ++ (drop 1 args ++ Close ∷ [])

abbrev pub Stands : State → List Token → Type 0
Stands states.Start ts = ts ≡ []
Stands states.Called ts = IsPartOfHead [] ts
Stands (states.Catalog n) ts = IsNamesOfHead n [] ts
Stands (states.CatalogDot n) ts = IsNamesOfHead n (Dot ∷ []) ts
Stands (states.System n) ts = IsSystemOfHead n [] ts
Stands (states.SystemDot n) ts = IsSystemOfHead n (Dot ∷ []) ts
Stands (states.Procedure n p) ts = IsProcedureOfHead n p ts
Stands (states.First c) ts = (c.args ≡ []) × InArgs c (Comma ∷ []) ts
Stands (states.FirstWord c w) ts = (c.args ≡ []) × InArgs c (Comma ∷ tokens.Word w ∷ []) ts
Stands (states.NextName c) ts = IsNextName c ts
Stands (states.Named c n) ts = IsNamedArg c n ts
Stands (states.Value c name p) ts = IsInValue c name p ts
Stands (states.Closed c) ts = IsClosed c ts
Stands (states.Ended c) ts = IsStatement c ts

at_state : (r s : State) (ts : List Token) → Some r ≡ Some s → Stands r ts → Stands s ts
at_state r s ts e h = subst (λ x. Stands x ts) (same_Some r s e) h

push : (t : Token) (a b : List Token) → a ≡ b → a ++ t ∷ [] ≡ b ++ t ∷ []
push t a b e = ap (λ (x : List Token). x ++ t ∷ []) e

more_inside : (c : Call) (inside : List Token) (t : Token) (ts : List Token) → InArgs c inside ts → InArgs c (inside ++ t ∷ []) (ts ++ t ∷ [])
more_inside c inside t ts h = record {
  head = h.head;
  tokens = h.tokens ++ t ∷ [];
  is_head = h.is_head;
  is_inside = push t (Comma ∷ h.tokens) inside h.is_inside;
  is = push t ts (h.head ++ h.tokens) h.is ∙ append_assoc h.head h.tokens (t ∷ []);
}

same_inside : (c : Call) (a b ts : List Token) → a ≡ b → InArgs c a ts → InArgs c b ts
same_inside c a b ts e h = subst (λ x. InArgs c x ts) e h

more_behind : (c : Call) (a b : List Token) (t : Token) (ts : List Token) → InArgs c (a ++ b) ts → InArgs c (a ++ (b ++ t ∷ [])) (ts ++ t ∷ [])
more_behind c a b t ts h = same_inside c ((a ++ b) ++ t ∷ []) (a ++ (b ++ t ∷ [])) (ts ++ t ∷ []) (append_assoc a b (t ∷ [])) (more_inside c (a ++ b) t ts h)

no_args : (named : Bool) (c : Call) → c.args ≡ [] → AreArgs named c.args []
no_args named c e = rw e refl

args_push : (named : Bool) (list : List Arg) (a : Arg) (us vs : List Token) → AreArgs named list us → IsArg named a vs → AreArgs named (list ++ a ∷ []) (us ++ vs)
args_push named [] a us vs h k = (vs, [], k, refl, ap (λ (x : List Token). x ++ vs) h ∙ sym (append-nil vs))
args_push named (b ∷ list) a us vs h k = (h.0, h.1 ++ vs, h.2, args_push named list a h.1 vs h.3 k, ap (λ (x : List Token). x ++ vs) h.4 ∙ append_assoc h.0 h.1 vs)

-- the arguments with the value that was read
arg_is : (c : Call) (name : Option (List ℕ)) (v : ArgValue) (ts : List Token) (h : IsInValue c name (Whole v) ts) → IsArg (is_named name) (record { name = name; value = v }) (Comma ∷ h.lead ++ h.value)
arg_is c name v ts h = record { kind = refl; lead = h.lead; value = h.value; is_lead = h.is_lead; is_value = h.stands; is = refl }

args_are : (c : Call) (name : Option (List ℕ)) (v : ArgValue) (ts : List Token) (h : IsInValue c name (Whole v) ts) → AreArgs (is_named name) (with_arg c name v).args (h.args ++ (Comma ∷ h.lead ++ h.value))
args_are c name v ts h = args_push (is_named name) c.args (record { name = name; value = v }) h.args (Comma ∷ h.lead ++ h.value) h.are_args (arg_is c name v ts h)

with_inside : (c : Call) (name : Option (List ℕ)) (v : ArgValue) (inside ts : List Token) → InArgs c inside ts → InArgs (with_arg c name v) inside ts
with_inside c name v inside ts h = record { head = h.head; tokens = h.tokens; is_head = h.is_head; is_inside = h.is_inside; is = h.is }

comma_stands : (c : Call) (name : Option (List ℕ)) (v : ArgValue) (ts : List Token) → IsInValue c name (Whole v) ts → Stands (behind_comma name (with_arg c name v)) (ts ++ Comma ∷ [])
comma_stands c None v ts h =
    let inside = h.args ++ (Comma ∷ h.lead ++ h.value) in
    record {
      args = inside;
      lead = [];
      value = [];
      are_args = args_are c None v ts h;
      is_lead = refl;
      stands = refl;
      inside = with_inside c None v (inside ++ Comma ∷ []) (ts ++ Comma ∷ []) (more_inside c inside Comma ts h.inside);
    }
comma_stands c (Some n) v ts h =
    let inside = h.args ++ (Comma ∷ h.lead ++ h.value) in
    record {
      args = inside;
      are_args = args_are c (Some n) v ts h;
      inside = with_inside c (Some n) v (inside ++ Comma ∷ []) (ts ++ Comma ∷ []) (more_inside c inside Comma ts h.inside);
    }

close_stands : (c : Call) (named : Bool) (args ts : List Token) → AreArgs named c.args args → InArgs c args ts → IsClosed c (ts ++ Close ∷ [])
close_stands c named args ts are h = record {
  named = named;
  head = h.head;
  args = args;
  is_head = h.is_head;
  are_args = are;
  is = push Close ts (h.head ++ h.tokens) h.is ∙ append_assoc h.head h.tokens (Close ∷ []) ∙ ap (λ (x : List Token). h.head ++ (drop 1 x ++ Close ∷ [])) h.is_inside;
}

value_more : (c : Call) (name : Option (List ℕ)) (p q : ValueState) (t : Token) (ts : List Token) → IsInValue c name p ts → value_step p t ≡ Some q → IsInValue c name q (ts ++ t ∷ [])
value_more c name p q t ts h e = record {
  args = h.args;
  lead = h.lead;
  value = h.value ++ t ∷ [];
  are_args = h.are_args;
  is_lead = h.is_lead;
  stands = value_stands p t q h.value h.stands e;
  inside = same_inside c (h.args ++ ((Comma ∷ h.lead ++ h.value) ++ t ∷ [])) (h.args ++ (Comma ∷ h.lead ++ (h.value ++ t ∷ []))) (ts ++ t ∷ [])
      (ap (λ (x : List Token). h.args ++ (Comma ∷ x)) (append_assoc h.lead h.value (t ∷ [])))
      (more_behind c h.args (Comma ∷ h.lead ++ h.value) t ts h.inside);
}

value_mapped : (c : Call) (name : Option (List ℕ)) (o : Option ValueState) (s : State) (ts : List Token) → option_map (λ q. states.Value c name q) o ≡ Some s → ((q : ValueState) → o ≡ Some q → IsInValue c name q ts) → Stands s ts
value_mapped c name None s ts e h = absurd cc
value_mapped c name (Some q) s ts e h = at_state (states.Value c name q) s ts e (h q refl)

pub argument_stands : (c : Call) (name : Option (List ℕ)) (p : ValueState) (t : Token) (s : State) (ts : List Token) → IsInValue c name p ts → argument_step c name p t ≡ Some s → Stands s (ts ++ t ∷ [])
unfolding argument_step
argument_stands c name (Whole v) Comma s ts h e = at_state (behind_comma name (with_arg c name v)) s (ts ++ Comma ∷ []) e (comma_stands c name v ts h)
argument_stands c name (Whole v) Close s ts h e =
    at_state (states.Closed (with_arg c name v)) s (ts ++ Close ∷ []) e
    (close_stands (with_arg c name v) (is_named name) (h.args ++ (Comma ∷ h.lead ++ h.value)) ts (args_are c name v ts h) (with_inside c name v (h.args ++ (Comma ∷ h.lead ++ h.value)) ts h.inside))
argument_stands c name p t s ts h e = value_mapped c name (value_step p t) s (ts ++ t ∷ []) e (λ q is. value_more c name p q t ts h is)

-- behind the bracket and behind a comma a value without a name may begin
first_value : (c : Call) (ts : List Token) → (c.args ≡ []) × InArgs c (Comma ∷ []) ts → IsInValue c None Nothing ts
first_value c ts h = record { args = []; lead = []; value = []; are_args = no_args false c h.0; is_lead = refl; stands = refl; inside = h.1 }

first_word : (c : Call) (w : List ℕ) (p : ValueState) (ts : List Token) → (c.args ≡ []) × InArgs c (Comma ∷ tokens.Word w ∷ []) ts → begun_by_word w ≡ Some p → IsInValue c None p ts
first_word c w p ts h e = record {
  args = [];
  lead = [];
  value = tokens.Word w ∷ [];
  are_args = no_args false c h.0;
  is_lead = refl;
  stands = option_and_then_some begun_by (keyword w) p e (λ k is e'. word_stands k w p [] (keyword_is (lower w) k is) e' refl);
  inside = h.1;
}

named_value : (c : Call) (n : List ℕ) (ts : List Token) → IsNamedArg c n ts → IsInValue c (Some n) Nothing (ts ++ Arrow ∷ [])
named_value c n ts h = record {
  args = h.args;
  lead = h.name ∷ Arrow ∷ [];
  value = [];
  are_args = h.are_args;
  is_lead = (h.name, h.is_name, refl);
  stands = refl;
  inside = more_behind c h.args (Comma ∷ h.name ∷ []) Arrow ts h.inside;
}

first_named : (c : Call) (w : List ℕ) (ts : List Token) → (c.args ≡ []) × InArgs c (Comma ∷ tokens.Word w ∷ []) ts → IsNamedArg c w ts
first_named c w ts h = record { args = []; name = tokens.Word w; are_args = no_args true c h.0; is_name = inl refl; inside = h.1 }

first_quoted : (c : Call) (w : List ℕ) (ts : List Token) → (c.args ≡ []) × InArgs c (Comma ∷ []) ts → IsNamedArg c w (ts ++ tokens.Quoted w ∷ [])
first_quoted c w ts h = record { args = []; name = tokens.Quoted w; are_args = no_args true c h.0; is_name = inr refl; inside = more_inside c (Comma ∷ []) (tokens.Quoted w) ts h.1 }

next_named : (c : Call) (w : List ℕ) (t : Token) (ts : List Token) → IsName w t → IsNextName c ts → IsNamedArg c w (ts ++ t ∷ [])
next_named c w t ts is h = record { args = h.args; name = t; are_args = h.are_args; is_name = is; inside = more_behind c h.args (Comma ∷ []) t ts h.inside }

catalog_read : (n : List ℕ) (t : Token) (ts : List Token) → IsName n t → IsPartOfHead [] ts → IsNamesOfHead n [] (ts ++ t ∷ [])
catalog_read n t ts is h = record { call = h.call; name = t; is_call = h.is_call; is_name = is; is = push t ts (h.call ∷ []) h.is }

procedure_read : (n p : List ℕ) (t : Token) (ts : List Token) → IsName p t → IsSystemOfHead n (Dot ∷ []) ts → IsProcedureOfHead n p (ts ++ t ∷ [])
procedure_read n p t ts is h = record { call = h.call; name = h.name; system = h.system; procedure = t; is_call = h.is_call; is_name = h.is_name; is_system = h.is_system; is_procedure = is; is = push t ts (h.call ∷ h.name ∷ Dot ∷ h.system ∷ Dot ∷ []) h.is }

opened : (n p : List ℕ) (ts : List Token) → IsProcedureOfHead n p ts → InArgs (record { catalog = n; procedure = p; args = [] }) (Comma ∷ []) (ts ++ Open ∷ [])
opened n p ts h = record {
  head = ts ++ Open ∷ [];
  tokens = [];
  is_head = record {
    call = h.call;
    catalog_name = h.name;
    system = h.system;
    procedure_name = h.procedure;
    is_call = h.is_call;
    is_catalog = h.is_name;
    is_system = h.is_system;
    is_procedure = h.is_procedure;
    is = push Open ts (h.call ∷ h.name ∷ Dot ∷ h.system ∷ Dot ∷ h.procedure ∷ []) h.is;
  };
  is_inside = refl;
  is = sym (append-nil (ts ++ Open ∷ []));
}

only_is : (k : Keyword) (w : List ℕ) (r s : State) (ts : List Token) → only k w r ≡ Some s → (IsKeyword k (tokens.Word w) → Stands r ts) → Stands s ts
only_is k w r s ts e h = let p = cond_some (is_keyword k w) r s e in subst (λ x. Stands x ts) p.1 (h (w, refl, word_is w k p.0))

-- a list of no arguments
first_closed : (c : Call) (ts : List Token) → (c.args ≡ []) × InArgs c (Comma ∷ []) ts → IsClosed c (ts ++ Close ∷ [])
first_closed c ts h =
    let nothing : h.1.tokens ≡ [] = cc (h.1.is_inside) in
    record {
      named = true;
      head = h.1.head;
      args = [];
      is_head = h.1.is_head;
      are_args = no_args true c h.0;
      is = push Close ts (h.1.head ++ h.1.tokens) h.1.is ∙ append_assoc h.1.head h.1.tokens (Close ∷ []) ∙ ap (λ (x : List Token). h.1.head ++ (x ++ Close ∷ [])) nothing;
    }

ended : (c : Call) (ts : List Token) → IsClosed c ts → IsStatement c (ts ++ Semicolon ∷ [])
ended c ts h = record {
  named = h.named;
  head = h.head;
  args = h.args;
  end = Semicolon ∷ [];
  is_head = h.is_head;
  are_args = h.are_args;
  is_end = inr refl;
  is = push Semicolon ts (h.head ++ (drop 1 h.args ++ Close ∷ [])) h.is
      ∙ append_assoc h.head (drop 1 h.args ++ Close ∷ []) (Semicolon ∷ [])
      ∙ ap (λ (x : List Token). h.head ++ x) (append_assoc (drop 1 h.args) (Close ∷ []) (Semicolon ∷ []));
}

closed_is : (c : Call) (ts : List Token) → IsClosed c ts → IsStatement c ts
closed_is c ts h = record { named = h.named; head = h.head; args = h.args; end = []; is_head = h.is_head; are_args = h.are_args; is_end = inl refl; is = h.is }

pub state_stands : (s : State) (t : Token) (n : State) (ts : List Token) → Stands s ts → state_step s t ≡ Some n → Stands n (ts ++ t ∷ [])
unfolding state_step
state_stands states.Start (tokens.Word w) n ts h e = only_is words.Call w states.Called n (ts ++ tokens.Word w ∷ []) e (λ is. record { call = tokens.Word w; is_call = is; is = push (tokens.Word w) ts [] h })
state_stands states.Called (tokens.Word c) n ts h e = at_state (states.Catalog c) n (ts ++ tokens.Word c ∷ []) e (catalog_read c (tokens.Word c) ts (inl refl) h)
state_stands states.Called (tokens.Quoted c) n ts h e = at_state (states.Catalog c) n (ts ++ tokens.Quoted c ∷ []) e (catalog_read c (tokens.Quoted c) ts (inr refl) h)
state_stands (states.Catalog c) Dot n ts h e = at_state (states.CatalogDot c) n (ts ++ Dot ∷ []) e (record { call = h.call; name = h.name; is_call = h.is_call; is_name = h.is_name; is = push Dot ts (h.call ∷ h.name ∷ []) h.is })
state_stands (states.CatalogDot c) (tokens.Word w) n ts h e = only_is words.System w (states.System c) n (ts ++ tokens.Word w ∷ []) e (λ is. record { call = h.call; name = h.name; system = tokens.Word w; is_call = h.is_call; is_name = h.is_name; is_system = is; is = push (tokens.Word w) ts (h.call ∷ h.name ∷ Dot ∷ []) h.is })
state_stands (states.System c) Dot n ts h e = at_state (states.SystemDot c) n (ts ++ Dot ∷ []) e (record { call = h.call; name = h.name; system = h.system; is_call = h.is_call; is_name = h.is_name; is_system = h.is_system; is = push Dot ts (h.call ∷ h.name ∷ Dot ∷ h.system ∷ []) h.is })
state_stands (states.SystemDot c) (tokens.Word p) n ts h e = at_state (states.Procedure c p) n (ts ++ tokens.Word p ∷ []) e (procedure_read c p (tokens.Word p) ts (inl refl) h)
state_stands (states.SystemDot c) (tokens.Quoted p) n ts h e = at_state (states.Procedure c p) n (ts ++ tokens.Quoted p ∷ []) e (procedure_read c p (tokens.Quoted p) ts (inr refl) h)
state_stands (states.Procedure c p) Open n ts h e = at_state (states.First (record { catalog = c; procedure = p; args = [] })) n (ts ++ Open ∷ []) e (refl, opened c p ts h)
state_stands (states.First c) Close n ts h e = at_state (states.Closed c) n (ts ++ Close ∷ []) e (first_closed c ts h)
state_stands (states.First c) (tokens.Word w) n ts h e = at_state (states.FirstWord c w) n (ts ++ tokens.Word w ∷ []) e (h.0, more_inside c (Comma ∷ []) (tokens.Word w) ts h.1)
state_stands (states.First c) (tokens.Quoted w) n ts h e = at_state (states.Named c w) n (ts ++ tokens.Quoted w ∷ []) e (first_quoted c w ts h)
state_stands (states.First c) t n ts h e = argument_stands c None Nothing t n ts (first_value c ts h) e
state_stands (states.FirstWord c w) Arrow n ts h e = at_state (states.Value c (Some w) Nothing) n (ts ++ Arrow ∷ []) e (named_value c w ts (first_named c w ts h))
state_stands (states.FirstWord c w) t n ts h e = option_and_then_some (λ p. argument_step c None p t) (begun_by_word w) n e (λ p is e'. argument_stands c None p t n ts (first_word c w p ts h is) e')
state_stands (states.NextName c) (tokens.Word w) n ts h e = at_state (states.Named c w) n (ts ++ tokens.Word w ∷ []) e (next_named c w (tokens.Word w) ts (inl refl) h)
state_stands (states.NextName c) (tokens.Quoted w) n ts h e = at_state (states.Named c w) n (ts ++ tokens.Quoted w ∷ []) e (next_named c w (tokens.Quoted w) ts (inr refl) h)
state_stands (states.Named c w) Arrow n ts h e = at_state (states.Value c (Some w) Nothing) n (ts ++ Arrow ∷ []) e (named_value c w ts h)
state_stands (states.Value c name p) t n ts h e = argument_stands c name p t n ts h e
state_stands (states.Closed c) Semicolon n ts h e = at_state (states.Ended c) n (ts ++ Semicolon ∷ []) e (ended c ts h)
state_stands s t n ts h e = absurd cc

pub run_stands : (ts : List Token) (s n : State) (before : List Token) → Stands s before → run s ts ≡ Some n → Stands n (before ++ ts)
unfolding run
run_stands [] s n before h e = subst (λ x. Stands x (before ++ [])) (same_Some s n e) (subst (λ x. Stands s x) (sym (append-nil before)) h)
run_stands (t ∷ ts) s n before h e =
    option_and_then_some (λ x. run x ts) (state_step s t) n e
    (λ x is e'. subst (λ y. Stands n y) (append_assoc before (t ∷ []) ts) (run_stands ts x n (before ++ t ∷ []) (state_stands s t x before h is) e'))

pub finished_is : (s : State) (c : Call) (ts : List Token) → Stands s ts → finished s ≡ Some c → IsStatement c ts
finished_is (states.Closed d) c ts h e = subst (λ x. IsStatement x ts) (same_Some d c e) (closed_is d ts h)
finished_is (states.Ended d) c ts h e = subst (λ x. IsStatement x ts) (same_Some d c e) h
finished_is s c ts h e = absurd cc

-- what the steps read is in the grammar
pub sound : (ts : List Token) (s : State) (c : Call) → run states.Start ts ≡ Some s → finished s ≡ Some c → IsStatement c ts
sound ts s c e f = finished_is s c ts (run_stands ts states.Start s [] refl e) f
