-- What is written for a call spells it.
use Rattle.std.proofs.Common.{◌≡◌, ℕ, Bool, true, false, cond, List, [], ◌∷◌, ◌++◌, drop, map, Option, Some, None, refl, sym, ◌∙◌, ap, subst, inl, inr}
use Rattle.std.specs.Prelude.{not, codes}
use Rattle.std.specs.List.{flat_map, list_all, AllByRecursion}
use Rattle.std.proofs.lemmas.List.{map-append}
use Rattle.std.proofs.lemmas.Bool.{and_parts, not-true}
use Rattle.call_text.specs.declared.token.Token.{Token}
use Rattle.call_text.specs.declared.token.Token.TheVariants as tokens
use Rattle.call_text.specs.Characters.{begins_word, ends_word, first_is}
use Rattle.call_text.specs.Spelling.{is_plain, IsNumber}
use Rattle.call_text.specs.Statement.{CutsFrom}
use Rattle.call_text.specs.Writing.{Piece, plain}
use Rattle.call_text.specs.declared.call.Call.{Call}
use Rattle.call_text.specs.declared.call.Arg.{Arg}
use Rattle.call_text.specs.declared.call.ArgValue.{ArgValue}
use Rattle.call_text.specs.declared.call.ArgValue.TheVariants as values
use Rattle.call_text.specs.Keywords.{IsName, spelling}
use Rattle.call_text.specs.Grammar.{IsValue, IsLead, AreArgs, pair_behind_comma, number_behind_comma}
use Rattle.call_text.specs.Statement.{Spells}
use Rattle.call_text.specs.Writing.{name_token, pair_pieces, number_pieces, value_pieces, lead_pieces, arg_pieces, head_pieces, call_pieces, written, CanBeName, CanBeValue, CanBeLead, CanBeArg, CanBeWritten}
use Rattle.call_text.proofs.Written.{CanBeToken, StartsApart, Apart, apart_append, token_of_piece, pieces_past, pieces_cut}

-- ---- names

each_is : (n : List ℕ) → list_all (λ b. not (ends_word b)) n ≡ true → AllByRecursion (λ b. ends_word b ≡ false) n
each_is [] h = tt
each_is (b ∷ n) h = let p = and_parts (not (ends_word b)) (list_all (λ c. not (ends_word c)) n) h in (not-true (ends_word b) p.0, each_is n p.1)

name_at : (t : Bool) (n : List ℕ) → is_plain n ≡ t → CanBeName n → CanBeToken (cond t (tokens.Word n) (tokens.Quoted n)) × IsName n (cond t (tokens.Word n) (tokens.Quoted n))
name_at true n e h = let p = and_parts (first_is begins_word n) (list_all (λ b. not (ends_word b)) n) e in (record { first = p.0; each = each_is n p.1 }, inl refl)
name_at false n e h = (h, inr refl)

name_ok : (n : List ℕ) → CanBeName n → CanBeToken (name_token n) × IsName n (name_token n)
unfolding name_token
name_ok n h = name_at (is_plain n) n refl h

-- ---- lists of pieces

abbrev AreTokens : List Piece → Type 0
AreTokens ps = AllByRecursion (λ p. CanBeToken p.token) ps

all_append : (ps qs : List Piece) → AreTokens ps → AreTokens qs → AreTokens (ps ++ qs)
all_append [] qs h k = k
all_append (p ∷ ps) qs h k = (h.0, all_append ps qs h.1 k)

all_drop : (ps : List Piece) → AreTokens ps → AreTokens (drop 1 ps)
all_drop [] h = tt
all_drop (p ∷ ps) h = h.1

apart_drop : (ps : List Piece) → Apart ps → Apart (drop 1 ps)
apart_drop [] h = tt
apart_drop (p ∷ ps) h = h.1

map_drop : (ps : List Piece) → map token_of_piece (drop 1 ps) ≡ drop 1 (map token_of_piece ps)
map_drop [] = refl
map_drop (p ∷ ps) = refl

-- a list without its first comma, and the closing bracket
abbrev closed : List Piece → List Piece
closed ps = drop 1 ps ++ plain tokens.Close ∷ []

closed_tokens : (ps : List Piece) → AreTokens ps → AreTokens (closed ps)
closed_tokens ps h = all_append (drop 1 ps) (plain tokens.Close ∷ []) (all_drop ps h) (tt, tt)

closed_apart : (ps : List Piece) → Apart ps → Apart (closed ps)
closed_apart ps h = apart_append (drop 1 ps) (plain tokens.Close ∷ []) (apart_drop ps h) (inr (inl refl), tt) refl

closed_map : (ps : List Piece) → map token_of_piece (closed ps) ≡ drop 1 (map token_of_piece ps) ++ tokens.Close ∷ []
closed_map ps = map-append token_of_piece (drop 1 ps) (plain tokens.Close ∷ []) ∙ ap (λ (x : List Token). x ++ tokens.Close ∷ []) (map_drop ps)

pairs_map : (ps : List (List ℕ × List ℕ)) → map token_of_piece (flat_map pair_pieces ps) ≡ flat_map pair_behind_comma ps
pairs_map [] = refl
pairs_map (p ∷ ps) = ap (λ (x : List Token). tokens.Comma ∷ tokens.Str p.0 ∷ tokens.Comma ∷ tokens.Str p.1 ∷ x) (pairs_map ps)

pairs_tokens : (ps : List (List ℕ × List ℕ)) → AreTokens (flat_map pair_pieces ps) × Apart (flat_map pair_pieces ps)
pairs_tokens [] = (tt, tt)
pairs_tokens (p ∷ ps) = let r = pairs_tokens ps in ((tt, (tt, (tt, (tt, r.0)))), (inl refl, (inr (inl refl), (inl refl, (inr (inl refl), r.1)))))

numbers_map : (ns : List (List ℕ)) → map token_of_piece (flat_map number_pieces ns) ≡ flat_map number_behind_comma ns
numbers_map [] = refl
numbers_map (n ∷ ns) = ap (λ (x : List Token). tokens.Comma ∷ tokens.Number n ∷ x) (numbers_map ns)

numbers_start : (ns : List (List ℕ)) → StartsApart (flat_map number_pieces ns)
numbers_start [] = tt
numbers_start (n ∷ ns) = refl

numbers_tokens : (ns : List (List ℕ)) → AllByRecursion IsNumber ns → AreTokens (flat_map number_pieces ns) × Apart (flat_map number_pieces ns)
numbers_tokens [] h = (tt, tt)
numbers_tokens (n ∷ ns) h = let r = numbers_tokens ns h.1 in ((tt, (h.0, r.0)), (inl refl, (inr (inr (numbers_start ns)), r.1)))

word_ok : (w : List ℕ) → first_is begins_word w ≡ true → list_all (λ b. not (ends_word b)) w ≡ true → CanBeToken (tokens.Word w)
word_ok w one each = record { first = one; each = each_is w each }

-- ---- a value

record Written (v : ArgValue) : Type 0 where
  tokens_ok : AreTokens (value_pieces v)
  apart : Apart (value_pieces v)
  is_value : IsValue v (map token_of_piece (value_pieces v))

value_written : (v : ArgValue) → CanBeValue v → Written v
unfolding value_pieces spelling
value_written (values.Str s) h = record { tokens_ok = (tt, tt); apart = (inr (inl refl), tt); is_value = refl }
value_written (values.Number n) h = record { tokens_ok = (h, tt); apart = (inr (inr tt), tt); is_value = refl }
value_written (values.Bool true) h = record { tokens_ok = (word_ok (codes "TRUE") refl refl, tt); apart = (inr (inr tt), tt); is_value = (tokens.Word (codes "TRUE"), (codes "TRUE", refl, refl), refl) }
value_written (values.Bool false) h = record { tokens_ok = (word_ok (codes "FALSE") refl refl, tt); apart = (inr (inr tt), tt); is_value = (tokens.Word (codes "FALSE"), (codes "FALSE", refl, refl), refl) }
value_written values.Null h = record { tokens_ok = (word_ok (codes "NULL") refl refl, tt); apart = (inr (inr tt), tt); is_value = (tokens.Word (codes "NULL"), (codes "NULL", refl, refl), refl) }
value_written (values.Moment s) h = record { tokens_ok = (word_ok (codes "TIMESTAMP") refl refl, (tt, tt)); apart = (inl refl, (inr (inl refl), tt)); is_value = (tokens.Word (codes "TIMESTAMP"), (codes "TIMESTAMP", refl, refl), refl) }
value_written (values.Map ps) h =
    let r = pairs_tokens ps in
    record {
      tokens_ok = (word_ok (codes "map") refl refl, (tt, closed_tokens (flat_map pair_pieces ps) r.0));
      apart = (inr (inr refl), (inr (inl refl), closed_apart (flat_map pair_pieces ps) r.1));
      is_value = (tokens.Word (codes "map"), (codes "map", refl, refl), ap (λ (x : List Token). tokens.Word (codes "map") ∷ tokens.Open ∷ x) (closed_map (flat_map pair_pieces ps) ∙ ap (λ (x : List Token). drop 1 x ++ tokens.Close ∷ []) (pairs_map ps)));
    }
value_written (values.Array ns) h =
    let r = numbers_tokens ns h in
    record {
      tokens_ok = (word_ok (codes "array") refl refl, (tt, closed_tokens (flat_map number_pieces ns) r.0));
      apart = (inr (inr refl), (inr (inl refl), closed_apart (flat_map number_pieces ns) r.1));
      is_value = (tokens.Word (codes "array"), (codes "array", refl, refl), ap (λ (x : List Token). tokens.Word (codes "array") ∷ tokens.Open ∷ x) (closed_map (flat_map number_pieces ns) ∙ ap (λ (x : List Token). drop 1 x ++ tokens.Close ∷ []) (numbers_map ns)));
    }

-- ---- arguments

record LeadWritten (n : Option (List ℕ)) : Type 0 where
  tokens_ok : AreTokens (lead_pieces n)
  is_lead : IsLead n (map token_of_piece (lead_pieces n))

lead_written : (n : Option (List ℕ)) → CanBeLead n → LeadWritten n
lead_written None h = record { tokens_ok = tt; is_lead = refl }
lead_written (Some n) h = let k = name_ok n h in record { tokens_ok = (k.0, (tt, tt)); is_lead = (name_token n, k.1, refl) }

lead_apart : (n : Option (List ℕ)) (ps : List Piece) → Apart ps → Apart (lead_pieces n ++ ps)
lead_apart None ps h = h
lead_apart (Some n) ps h = (inl refl, (inl refl, h))

args_start : (list : List Arg) → StartsApart (flat_map arg_pieces list)
unfolding arg_pieces
args_start [] = tt
args_start (a ∷ list) = refl

record ArgsWritten (named : Bool) (list : List Arg) : Type 0 where
  tokens_ok : AreTokens (flat_map arg_pieces list)
  apart : Apart (flat_map arg_pieces list)
  are_args : AreArgs named list (map token_of_piece (flat_map arg_pieces list))

args_written : (named : Bool) (list : List Arg) → AllByRecursion (CanBeArg named) list → ArgsWritten named list
unfolding arg_pieces
args_written named [] h = record { tokens_ok = tt; apart = tt; are_args = refl }
args_written named (a ∷ list) h =
    let r = args_written named list h.1 in
    let v = value_written a.value h.0.value in
    let l = lead_written a.name h.0.name in
    let both : List Piece = lead_pieces a.name ++ value_pieces a.value in
    let rest : List Piece = flat_map arg_pieces list in
    record {
      tokens_ok = (tt, all_append both rest (all_append (lead_pieces a.name) (value_pieces a.value) l.tokens_ok v.tokens_ok) r.tokens_ok);
      apart = (inl refl, apart_append both rest (lead_apart a.name (value_pieces a.value) v.apart) r.apart (args_start list));
      are_args = (
        tokens.Comma ∷ map token_of_piece both,
        map token_of_piece rest,
        record {
          kind = h.0.kind;
          lead = map token_of_piece (lead_pieces a.name);
          value = map token_of_piece (value_pieces a.value);
          is_lead = l.is_lead;
          is_value = v.is_value;
          is = ap (λ (x : List Token). tokens.Comma ∷ x) (map-append token_of_piece (lead_pieces a.name) (value_pieces a.value));
        },
        r.are_args,
        ap (λ (x : List Token). tokens.Comma ∷ x) (map-append token_of_piece both rest),
      );
    }

-- ---- the call

pub written_spells : (c : Call) → CanBeWritten c → Spells (written c) c
unfolding spelling
written_spells c h =
    let r = args_written h.named c.args h.args in
    let one = name_ok c.catalog h.catalog in
    let two = name_ok c.procedure h.procedure in
    let args : List Piece = flat_map arg_pieces c.args in
    let all : AreTokens (call_pieces c) = (word_ok (codes "CALL") refl refl, (one.0, (tt, (word_ok (codes "system") refl refl, (tt, (two.0, (tt, closed_tokens args r.tokens_ok))))))) in
    let apart : Apart (call_pieces c) = (inl refl, (inr (inr refl), (inr (inl refl), (inr (inr refl), (inr (inl refl), (inr (inr refl), (inr (inl refl), closed_apart args r.apart))))))) in
    record {
      tokens = map token_of_piece (call_pieces c);
      cut = subst (λ x. CutsFrom x (map token_of_piece (call_pieces c)) []) (sym (pieces_past (call_pieces c) all)) (pieces_cut (call_pieces c) all apart);
      is_statement = record {
        named = h.named;
        head = map token_of_piece (head_pieces c);
        args = map token_of_piece args;
        end = [];
        is_head = record {
          call = tokens.Word (codes "CALL");
          catalog_name = name_token c.catalog;
          system = tokens.Word (codes "system");
          procedure_name = name_token c.procedure;
          is_call = (codes "CALL", refl, refl);
          is_catalog = one.1;
          is_system = (codes "system", refl, refl);
          is_procedure = two.1;
          is = refl;
        };
        are_args = r.are_args;
        is_end = inl refl;
        is = ap (λ (x : List Token). map token_of_piece (head_pieces c) ++ x) (closed_map args);
      };
    }
