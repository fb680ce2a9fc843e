-- What a text spells can be written.
use Rattle.std.proofs.Common.{IfOk, Result, Ok, Err, ◌≡◌, ℕ, Bool, false, List, [], ◌∷◌, ◌++◌, drop, Option, Some, None, sym, ◌∙◌, ap, subst, arith, inl, inr}
use Rattle.std.specs.List.{flat_map, AllByRecursion}
use Rattle.std.proofs.lemmas.Bool.Decides.{nat_tests}
use Rattle.call_text.specs.declared.token.Token.{Token}
use Rattle.call_text.specs.declared.token.Token.TheVariants as tokens
use Rattle.call_text.specs.Characters.{ends_word, is_backquote}
use Rattle.call_text.specs.Spelling.{IsWord, IsNumber, IsSpelled}
use Rattle.call_text.specs.Statement.{past_blanks, CutsFrom}
use Rattle.call_text.specs.declared.call.Call.{Call}
use Rattle.call_text.specs.declared.error.SyntaxErr.{SyntaxErr}
use Rattle.call_text.specs.declared.call.Arg.{Arg}
use Rattle.call_text.specs.declared.call.ArgValue.{ArgValue}
use Rattle.call_text.specs.declared.call.ArgValue.TheVariants as values
use Rattle.call_text.specs.Keywords.{IsName}
use Rattle.call_text.specs.Grammar.{IsValue, IsLead, AreArgs, number_behind_comma, number_tokens}
use Rattle.call_text.specs.Statement.{Spells}
use Rattle.call_text.specs.Writing.{CanBeName, CanBeValue, CanBeLead, CanBeArg, CanBeWritten}
use Rattle.call_text.proofs.Written.{CanBeToken}

can_be : (t : Token) (text : List ℕ) → IsSpelled t text → CanBeToken t
can_be (tokens.Word w) text h = h.1
can_be (tokens.Quoted w) text h = h.1
can_be (tokens.Number n) text h = h.1
can_be t text h = tt

abbrev AllTokens : List Token → Type 0
AllTokens ts = AllByRecursion CanBeToken ts

cuts_tokens : (ts : List Token) (bytes rest : List ℕ) → CutsFrom bytes ts rest → AllTokens ts
cuts_tokens [] bytes rest h = tt
cuts_tokens (t ∷ ts) bytes rest h = (can_be t h.1.front h.1.spelled, cuts_tokens ts (past_blanks h.0) rest h.2)

split_all : (ts us : List Token) → AllTokens (ts ++ us) → AllTokens ts × AllTokens us
split_all [] us h = (tt, h)
split_all (t ∷ ts) us h = let k = split_all ts us h.1 in ((h.0, k.0), k.1)

no_backquote : (w : List ℕ) → AllByRecursion (λ b. ends_word b ≡ false) w → AllByRecursion (λ b. is_backquote b ≡ false) w
no_backquote [] h = tt
no_backquote (b ∷ w) h = (grind (arith, nat_tests, h.0), no_backquote w h.1)

word_name : (w : List ℕ) → IsWord w → CanBeName w
word_name [] h = absurd (cc (h.first))
word_name (b ∷ w) h = record { some = omega arith; each = no_backquote (b ∷ w) h.each }

name_can : (n : List ℕ) (t : Token) → IsName n t → CanBeToken t → CanBeName n
name_can n t is h = elim is [
  | inl e ↦ word_name n (subst CanBeToken e h)
  | inr e ↦ subst CanBeToken e h
]

numbers_can : (ns : List (List ℕ)) → AllTokens (flat_map number_behind_comma ns) → AllByRecursion IsNumber ns
numbers_can [] h = tt
numbers_can (n ∷ ns) h = (h.1.0, numbers_can ns h.1.1)

listed_can : (ns : List (List ℕ)) → AllTokens (number_tokens ns) → AllByRecursion IsNumber ns
listed_can [] h = tt
listed_can (n ∷ ns) h = (h.0, numbers_can ns h.1)

value_can : (v : ArgValue) (ts : List Token) → IsValue v ts → AllTokens ts → CanBeValue v
value_can (values.Number n) ts is h = (subst AllTokens is h).0
value_can (values.Array ns) ts is h = let k : AllTokens (is.0 ∷ tokens.Open ∷ (number_tokens ns ++ tokens.Close ∷ [])) = subst AllTokens is.2 h in listed_can ns (split_all (number_tokens ns) (tokens.Close ∷ []) k.1.1).0
value_can (values.Str s) ts is h = tt
value_can (values.Bool b) ts is h = tt
value_can values.Null ts is h = tt
value_can (values.Moment s) ts is h = tt
value_can (values.Map ps) ts is h = tt

lead_can : (n : Option (List ℕ)) (ts : List Token) → IsLead n ts → AllTokens ts → CanBeLead n
lead_can None ts is h = tt
lead_can (Some n) ts is h = name_can n is.0 is.1 (subst AllTokens is.2 h).0

args_can : (named : Bool) (list : List Arg) (ts : List Token) → AreArgs named list ts → AllTokens ts → AllByRecursion (CanBeArg named) list
args_can named [] ts is h = tt
args_can named (a ∷ list) ts is h =
    let parts = split_all is.0 is.1 (subst AllTokens is.4 h) in
    let arg : AllTokens (tokens.Comma ∷ (is.2.lead ++ is.2.value)) = subst AllTokens is.2.is parts.0 in
    let inner = split_all is.2.lead is.2.value arg.1 in
    (record { kind = is.2.kind; name = lead_can a.name is.2.lead is.2.is_lead inner.0; value = value_can a.value is.2.value is.2.is_value inner.1 }, args_can named list is.1 is.3 parts.1)

-- the first comma is a token too
args_drop : (named : Bool) (list : List Arg) (ts : List Token) → AreArgs named list ts → AllTokens (drop 1 ts) → AllTokens ts
args_drop named [] ts is h = subst AllTokens (sym is) tt
args_drop named (a ∷ list) ts is h =
    let e : ts ≡ tokens.Comma ∷ ((is.2.lead ++ is.2.value) ++ is.1) = is.4 ∙ ap (λ (x : List Token). x ++ is.1) is.2.is in
    subst AllTokens (sym e) (tt, subst (λ x. AllTokens (drop 1 x)) e h)

pub can_be_written : (text : List ℕ) (c : Call) → Spells text c → CanBeWritten c
can_be_written text c h =
    let s = h.is_statement in
    let all = subst AllTokens s.is (cuts_tokens h.tokens (past_blanks text) [] h.cut) in
    let parts = split_all s.head (drop 1 s.args ++ tokens.Close ∷ s.end) all in
    let head = subst AllTokens s.is_head.is parts.0 in
    let args = split_all (drop 1 s.args) (tokens.Close ∷ s.end) parts.1 in
    record {
      named = s.named;
      catalog = name_can c.catalog s.is_head.catalog_name s.is_head.is_catalog head.1.0;
      procedure = name_can c.procedure s.is_head.procedure_name s.is_head.is_procedure head.1.1.1.1.1.0;
      args = args_can s.named c.args s.args s.are_args (args_drop s.named c.args s.args s.are_args args.0);
    }

pub read_can_be_written : (r : Result Call SyntaxErr) (text : List ℕ) → IfOk r (Spells text) → IfOk r CanBeWritten
read_can_be_written (Ok c) text h = can_be_written text c h
read_can_be_written (Err e) text h = tt
