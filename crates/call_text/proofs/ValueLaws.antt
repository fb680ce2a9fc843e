-- What stands where a value was read so far.
use Rattle.std.proofs.Common.{◌≡◌, ℕ, true, false, List, [], ◌∷◌, ◌++◌, drop, Some, refl, sym, ◌∙◌, ap, subst, append_assoc}
use Rattle.std.specs.List.{flat_map}
use Rattle.std.proofs.lemmas.Option.{same_Some, option_and_then_some}
use Rattle.std.proofs.lemmas.Grind.{flat_map-append}
use Rattle.call_text.proofs.KeywordLaws.{keyword_is}
use Rattle.call_text.specs.declared.token.Token.{Token}
use Rattle.call_text.specs.declared.token.Token.TheVariants as tokens
use Rattle.call_text.specs.declared.token.Token.TheVariants.{Dot, Comma, Open, Close, Arrow, Semicolon}
use Rattle.call_text.specs.declared.call.ArgValue.TheVariants as values
use Rattle.call_text.specs.declared.value_state.ValueState.{ValueState}
use Rattle.call_text.specs.declared.value_state.ValueState.TheVariants.{Nothing, TimestampWord, MapWord, MapOpen, MapKey, MapKeyComma, MapPairs, MapPairsComma, ArrayWord, ArrayOpen, ArrayNumbers, ArrayNumbersComma, Whole}
use Rattle.call_text.specs.declared.keyword.Keyword.{Keyword}
use Rattle.call_text.specs.declared.keyword.Keyword.TheVariants as words
use Rattle.call_text.specs.Keywords.{IsKeyword, lower, keyword, spelling}
use Rattle.call_text.specs.Grammar.{IsValue, pair_behind_comma, number_behind_comma}
use Rattle.call_text.specs.Steps.{begun_by, value_step}

-- the inside of a map or an array so far, with a comma before it
pub record IsInside (k : Keyword) (inside : List Token) (ts : List Token) : Type 0 where
  pub word : Token
  pub tokens : List Token
  pub is_keyword : IsKeyword k word
  pub is_inside : Comma ∷ tokens ≡ inside
  pub is : ts ≡ word ∷ Open ∷ tokens

-- what stands where a value was read so far
abbrev pub ValueStands : ValueState → List Token → Type 0
ValueStands Nothing ts = ts ≡ []
ValueStands TimestampWord ts = (w : Token) × IsKeyword words.Timestamp w × (ts ≡ w ∷ [])
ValueStands MapWord ts = (w : Token) × IsKeyword words.Map w × (ts ≡ w ∷ [])
ValueStands MapOpen ts = (w : Token) × IsKeyword words.Map w × (ts ≡ w ∷ Open ∷ [])
ValueStands (MapKey ps k) ts = IsInside words.Map (flat_map pair_behind_comma ps ++ Comma ∷ tokens.Str k ∷ []) ts
ValueStands (MapKeyComma ps k) ts = IsInside words.Map (flat_map pair_behind_comma ps ++ Comma ∷ tokens.Str k ∷ Comma ∷ []) ts
ValueStands (MapPairs ps) ts = IsInside words.Map (flat_map pair_behind_comma ps) ts
ValueStands (MapPairsComma ps) ts = IsInside words.Map (flat_map pair_behind_comma ps ++ Comma ∷ []) ts
ValueStands ArrayWord ts = (w : Token) × IsKeyword words.Array w × (ts ≡ w ∷ [])
ValueStands ArrayOpen ts = (w : Token) × IsKeyword words.Array w × (ts ≡ w ∷ Open ∷ [])
ValueStands (ArrayNumbers ns) ts = IsInside words.Array (flat_map number_behind_comma ns) ts
ValueStands (ArrayNumbersComma ns) ts = IsInside words.Array (flat_map number_behind_comma ns ++ Comma ∷ []) ts
ValueStands (Whole v) ts = IsValue v ts

at_step : (r q : ValueState) (ts : List Token) → Some r ≡ Some q → ValueStands r ts → ValueStands q ts
at_step r q ts e h = subst (λ p. ValueStands p ts) (same_Some r q e) h

pub word_stands : (k : Keyword) (w : List ℕ) (q : ValueState) (ts : List Token) → lower w ≡ spelling k → begun_by k ≡ Some q → ts ≡ [] → ValueStands q (ts ++ tokens.Word w ∷ [])
unfolding begun_by
word_stands words.True w q ts is e h = at_step (Whole (values.Bool true)) q _ e (tokens.Word w, (w, refl, is), ap (λ (x : List Token). x ++ tokens.Word w ∷ []) h)
word_stands words.False w q ts is e h = at_step (Whole (values.Bool false)) q _ e (tokens.Word w, (w, refl, is), ap (λ (x : List Token). x ++ tokens.Word w ∷ []) h)
word_stands words.Null w q ts is e h = at_step (Whole values.Null) q _ e (tokens.Word w, (w, refl, is), ap (λ (x : List Token). x ++ tokens.Word w ∷ []) h)
word_stands words.Timestamp w q ts is e h = at_step TimestampWord q _ e (tokens.Word w, (w, refl, is), ap (λ (x : List Token). x ++ tokens.Word w ∷ []) h)
word_stands words.Map w q ts is e h = at_step MapWord q _ e (tokens.Word w, (w, refl, is), ap (λ (x : List Token). x ++ tokens.Word w ∷ []) h)
word_stands words.Array w q ts is e h = at_step ArrayWord q _ e (tokens.Word w, (w, refl, is), ap (λ (x : List Token). x ++ tokens.Word w ∷ []) h)
word_stands k w q ts is e h = absurd cc

-- one token more
more : (k : Keyword) (inside : List Token) (t : Token) (ts : List Token) → IsInside k inside ts → IsInside k (inside ++ t ∷ []) (ts ++ t ∷ [])
more k inside t ts h = record {
  word = h.word;
  tokens = h.tokens ++ t ∷ [];
  is_keyword = h.is_keyword;
  is_inside = ap (λ (x : List Token). x ++ t ∷ []) h.is_inside;
  is = ap (λ (x : List Token). x ++ t ∷ []) h.is;
}

-- the first item
first_item : (k : Keyword) (t : Token) (ts : List Token) → (w : Token) × IsKeyword k w × (ts ≡ w ∷ Open ∷ []) → IsInside k (Comma ∷ t ∷ []) (ts ++ t ∷ [])
first_item k t ts h = record {
  word = h.0;
  tokens = t ∷ [];
  is_keyword = h.1;
  is_inside = refl;
  is = ap (λ (x : List Token). x ++ t ∷ []) h.2;
}

one_more : (k : Keyword) (t : Token) (ts front : List Token) → (w : Token) × IsKeyword k w × (ts ≡ w ∷ front) → (w : Token) × IsKeyword k w × (ts ++ t ∷ [] ≡ w ∷ (front ++ t ∷ []))
one_more k t ts front h = (h.0, h.1, ap (λ (x : List Token). x ++ t ∷ []) h.2)

whole : (k : Keyword) (inside ts : List Token) → IsInside k inside ts → (w : Token) × IsKeyword k w × (ts ++ Close ∷ [] ≡ w ∷ Open ∷ drop 1 inside ++ Close ∷ [])
whole k inside ts h = (h.word, h.is_keyword, rw (h.is, ← h.is_inside) refl)

same_inside : (k : Keyword) (a b ts : List Token) → a ≡ b → IsInside k a ts → IsInside k b ts
same_inside k a b ts e h = subst (λ x. IsInside k x ts) e h

more_inside : (k : Keyword) (a b : List Token) (t : Token) (ts : List Token) → IsInside k (a ++ b) ts → IsInside k (a ++ (b ++ t ∷ [])) (ts ++ t ∷ [])
more_inside k a b t ts h = same_inside k ((a ++ b) ++ t ∷ []) (a ++ (b ++ t ∷ [])) (ts ++ t ∷ []) (append_assoc a b (t ∷ [])) (more k (a ++ b) t ts h)

pairs_push : (ps : List (List ℕ × List ℕ)) (k v : List ℕ) → (flat_map pair_behind_comma ps ++ Comma ∷ tokens.Str k ∷ Comma ∷ []) ++ tokens.Str v ∷ [] ≡ flat_map pair_behind_comma (ps ++ (k, v) ∷ [])
pairs_push ps k v = append_assoc (flat_map pair_behind_comma ps) (Comma ∷ tokens.Str k ∷ Comma ∷ []) (tokens.Str v ∷ []) ∙ sym (flat_map-append pair_behind_comma ps ((k, v) ∷ []))

numbers_push : (ns : List (List ℕ)) (n : List ℕ) → (flat_map number_behind_comma ns ++ Comma ∷ []) ++ tokens.Number n ∷ [] ≡ flat_map number_behind_comma (ns ++ n ∷ [])
numbers_push ns n = append_assoc (flat_map number_behind_comma ns) (Comma ∷ []) (tokens.Number n ∷ []) ∙ sym (flat_map-append number_behind_comma ns (n ∷ []))

pub value_stands : (p : ValueState) (t : Token) (q : ValueState) (ts : List Token) → ValueStands p ts → value_step p t ≡ Some q → ValueStands q (ts ++ t ∷ [])
unfolding value_step
value_stands Nothing (tokens.Word w) q ts h e = option_and_then_some begun_by (keyword w) q e (λ k is e'. word_stands k w q ts (keyword_is (lower w) k is) e' h)
value_stands Nothing (tokens.Str s) q ts h e = at_step (Whole (values.Str s)) q _ e (ap (λ (x : List Token). x ++ tokens.Str s ∷ []) h)
value_stands Nothing (tokens.Number n) q ts h e = at_step (Whole (values.Number n)) q _ e (ap (λ (x : List Token). x ++ tokens.Number n ∷ []) h)
value_stands TimestampWord (tokens.Str s) q ts h e = at_step (Whole (values.Moment s)) q _ e (one_more words.Timestamp (tokens.Str s) ts [] h)
value_stands MapWord Open q ts h e = at_step MapOpen q _ e (one_more words.Map Open ts [] h)
value_stands MapOpen (tokens.Str k) q ts h e = at_step (MapKey [] k) q _ e (first_item words.Map (tokens.Str k) ts h)
value_stands MapOpen Close q ts h e = at_step (Whole (values.Map [])) q _ e (one_more words.Map Close ts (Open ∷ []) h)
value_stands (MapKey ps k) Comma q ts h e = at_step (MapKeyComma ps k) q _ e (more_inside words.Map (flat_map pair_behind_comma ps) (Comma ∷ tokens.Str k ∷ []) Comma ts h)
value_stands (MapKeyComma ps k) (tokens.Str v) q ts h e = at_step (MapPairs (ps ++ (k, v) ∷ [])) q _ e (same_inside words.Map _ _ _ (pairs_push ps k v) (more words.Map (flat_map pair_behind_comma ps ++ Comma ∷ tokens.Str k ∷ Comma ∷ []) (tokens.Str v) ts h))
value_stands (MapPairs ps) Comma q ts h e = at_step (MapPairsComma ps) q _ e (more words.Map (flat_map pair_behind_comma ps) Comma ts h)
value_stands (MapPairs ps) Close q ts h e = at_step (Whole (values.Map ps)) q _ e (whole words.Map (flat_map pair_behind_comma ps) ts h)
value_stands (MapPairsComma ps) (tokens.Str k) q ts h e = at_step (MapKey ps k) q _ e (more_inside words.Map (flat_map pair_behind_comma ps) (Comma ∷ []) (tokens.Str k) ts h)
value_stands ArrayWord Open q ts h e = at_step ArrayOpen q _ e (one_more words.Array Open ts [] h)
value_stands ArrayOpen (tokens.Number n) q ts h e = at_step (ArrayNumbers (n ∷ [])) q _ e (first_item words.Array (tokens.Number n) ts h)
value_stands ArrayOpen Close q ts h e = at_step (Whole (values.Array [])) q _ e (one_more words.Array Close ts (Open ∷ []) h)
value_stands (ArrayNumbers ns) Comma q ts h e = at_step (ArrayNumbersComma ns) q _ e (more words.Array (flat_map number_behind_comma ns) Comma ts h)
value_stands (ArrayNumbers ns) Close q ts h e = at_step (Whole (values.Array ns)) q _ e (whole words.Array (flat_map number_behind_comma ns) ts h)
value_stands (ArrayNumbersComma ns) (tokens.Number n) q ts h e = at_step (ArrayNumbers (ns ++ n ∷ [])) q _ e (same_inside words.Array _ _ _ (numbers_push ns n) (more words.Array (flat_map number_behind_comma ns ++ Comma ∷ []) (tokens.Number n) ts h))
value_stands p t q ts h e = absurd cc
