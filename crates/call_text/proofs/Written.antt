-- What is written is cut into its tokens again.
use Rattle.std.proofs.Common.{◌≡◌, ℕ, suc, ◌+◌, ◌-◌, ◌<◌, ◌≤◌, Bool, true, false, cond, eqb, List, [], ◌∷◌, ◌++◌, length, get_or, take, drop, map, Some, refl, sym, ◌∙◌, ap, subst, arith, inl, inr, append_assoc}
use Rattle.std.specs.Prelude.{◌≢◌, ◌⊎◌}
use Rattle.std.specs.List.{flat_map, position_or_len, AllByRecursion}
use Rattle.std.proofs.lemmas.Grind.{flat_map-append}
use Rattle.std.proofs.lemmas.Bool.{eqb-true, eqb-false}
use Rattle.std.proofs.lemmas.Bool.Decides.{nat_tests}
use Rattle.call_text.specs.declared.token.Token.{Token}
use Rattle.call_text.specs.declared.token.Token.TheVariants as tokens
use Rattle.call_text.specs.Characters.{ends_word, is_no_digit, first_is, unescaped}
use Rattle.call_text.specs.Cutting.{token_of}
use Rattle.call_text.proofs.Spelled.{first_token}
use Rattle.call_text.specs.Spelling.{IsBetweenBackquotes, IsWord, IsContent, IsNumber, IsSpelled}
use Rattle.call_text.proofs.Longest.{is_wordy, Ends, again}
use Rattle.call_text.specs.Statement.{is_no_blank, past_blanks, CutsFrom}
use Rattle.call_text.specs.declared.call.Arg.{Arg}
use Rattle.call_text.specs.declared.call.Call.{Call}
use Rattle.call_text.specs.Writing.{head_pieces, pair_pieces, number_pieces, arg_pieces, lead_pieces, value_pieces, pair_text, number_text, arg_text, Piece, plain, escape, token_text, blank_text, piece_text}

-- ---- a string's content

Escapes : ℕ → List ℕ → List ℕ → Type 0
Escapes b front rest = ((front ++ rest ≡ b ∷ rest) × (b ≢ 39) × (b ≢ 92)) ⊎ ((e : ℕ) × (unescaped e ≡ Some b) × (front ++ rest ≡ 92 ∷ e ∷ rest))

escaped : (b k e : ℕ) (rest : List ℕ) → unescaped e ≡ Some k → eqb b k ≡ true → Escapes b (92 ∷ e ∷ []) rest
unfolding Escapes
escaped b k e rest is t = inr (e, is ∙ ap (λ (x : ℕ). Some x) (sym (eqb-true b k t)), refl)

at_9 : (t : Bool) (b : ℕ) (rest : List ℕ) → eqb b 9 ≡ t → b ≢ 39 → b ≢ 92 → Escapes b (cond t (92 ∷ 116 ∷ []) (b ∷ [])) rest
unfolding Escapes
at_9 true b rest e one two = escaped b 9 116 rest refl e
at_9 false b rest e one two = inl (refl, one, two)

at_10 : (t : Bool) (b : ℕ) (rest : List ℕ) → eqb b 10 ≡ t → b ≢ 39 → b ≢ 92 → Escapes b (cond t (92 ∷ 110 ∷ []) (cond (eqb b 9) (92 ∷ 116 ∷ []) (b ∷ []))) rest
at_10 true b rest e one two = escaped b 10 110 rest refl e
at_10 false b rest e one two = at_9 (eqb b 9) b rest refl one two

at_92 : (t : Bool) (b : ℕ) (rest : List ℕ) → eqb b 92 ≡ t → b ≢ 39 → Escapes b (cond t (92 ∷ 92 ∷ []) (cond (eqb b 10) (92 ∷ 110 ∷ []) (cond (eqb b 9) (92 ∷ 116 ∷ []) (b ∷ [])))) rest
at_92 true b rest e one = escaped b 92 92 rest refl e
at_92 false b rest e one = at_10 (eqb b 10) b rest refl one (eqb-false b 92 e)

at_39 : (t : Bool) (b : ℕ) (rest : List ℕ) → eqb b 39 ≡ t → Escapes b (cond t (92 ∷ 39 ∷ []) (cond (eqb b 92) (92 ∷ 92 ∷ []) (cond (eqb b 10) (92 ∷ 110 ∷ []) (cond (eqb b 9) (92 ∷ 116 ∷ []) (b ∷ []))))) rest
at_39 true b rest e = escaped b 39 39 rest refl e
at_39 false b rest e = at_92 (eqb b 92) b rest refl (eqb-false b 39 e)

escape_is : (b : ℕ) → (rest : List ℕ) → ((escape b ++ rest ≡ b ∷ rest) × (b ≢ 39) × (b ≢ 92)) ⊎ ((e : ℕ) × (unescaped e ≡ Some b) × (escape b ++ rest ≡ 92 ∷ e ∷ rest))
unfolding Escapes
escape_is b rest = at_39 (eqb b 39) b rest refl

content_is : (s : List ℕ) → IsContent 39 (flat_map escape s) s
content_is [] = refl
content_is (b ∷ s) = (flat_map escape s, content_is s, escape_is b (flat_map escape s))

-- a token that can be written
abbrev pub CanBeToken : Token → Type 0
CanBeToken (tokens.Word w) = IsWord w
CanBeToken (tokens.Quoted w) = IsBetweenBackquotes w
CanBeToken (tokens.Number n) = IsNumber n
CanBeToken _ = Unit {0}

spelled : (t : Token) → CanBeToken t → IsSpelled t (token_text t)
unfolding token_text
spelled (tokens.Word w) h = (refl, h)
spelled (tokens.Quoted w) h = (refl, h)
spelled (tokens.Str s) h = record { quote = 39; body = flat_map escape s; is_quote_mark = refl; is_content = content_is s; is = refl }
spelled (tokens.Number n) h = (refl, h)
spelled tokens.Dot h = refl
spelled tokens.Comma h = refl
spelled tokens.Open h = refl
spelled tokens.Close h = refl
spelled tokens.Arrow h = refl
spelled tokens.Semicolon h = refl

-- ---- tokens of pieces

-- nothing that goes on with a word stands at the front of the pieces
abbrev pub StartsApart : List Piece → Type 0
StartsApart [] = Unit {0}
StartsApart (p ∷ ps) = is_wordy p.token ≡ false

abbrev pub Apart : List Piece → Type 0
Apart [] = Unit {0}
Apart (p ∷ ps) = ((p.blank ≡ true) ⊎ ((is_wordy p.token ≡ false) ⊎ StartsApart ps)) × Apart ps

pub apart_append : (ps qs : List Piece) → Apart ps → Apart qs → StartsApart qs → Apart (ps ++ qs)
apart_append [] qs h k s = k
apart_append (p ∷ []) qs h k s = (inr (inr s), k)
apart_append (p ∷ q ∷ ps) qs h k s = (h.0, apart_append (q ∷ ps) qs h.1 k s)

abbrev pub pieces_text : List Piece → List ℕ
pieces_text ps = flat_map piece_text ps

abbrev pub token_of_piece : Piece → Token
token_of_piece p = p.token

-- how a token's text begins
record Starts (text : List ℕ) (wordy : Bool) : Type 0 where
  first : ℕ
  more : List ℕ
  is : text ≡ first ∷ more
  no_blank : is_no_blank first ≡ true
  apart : wordy ≡ false → ends_word first ≡ true

word_starts : (w : List ℕ) → IsWord w → Starts w true
word_starts [] h = absurd (cc (h.first))
word_starts (b ∷ w) h = record { first = b; more = w; is = refl; no_blank = grind (arith, nat_tests, h.first); apart = λ e. absurd (cc (e)) }

number_starts : (n sign digits mark : List ℕ) → (sign ≡ []) ⊎ (sign ≡ 45 ∷ []) → AllByRecursion (λ b. is_no_digit b ≡ false) digits → 0 < length digits → n ≡ sign ++ (digits ++ mark) → Starts n true
number_starts n sign [] mark is_sign each some is = absurd (omega arith)
number_starts n sign (d ∷ digits) mark is_sign each some is = elim is_sign [
  | inl e ↦ record { first = d; more = digits ++ mark; is = is ∙ ap (λ (x : List ℕ). x ++ (d ∷ digits ++ mark)) e; no_blank = grind (arith, nat_tests, each.0); apart = λ z. absurd (cc (z)) }
  | inr e ↦ record { first = 45; more = d ∷ digits ++ mark; is = is ∙ ap (λ (x : List ℕ). x ++ (d ∷ digits ++ mark)) e; no_blank = refl; apart = λ z. absurd (cc (z)) }
]

token_starts : (t : Token) → CanBeToken t → Starts (token_text t) (is_wordy t)
unfolding token_text
token_starts (tokens.Word w) h = word_starts w h
token_starts (tokens.Quoted w) h = record { first = 96; more = w ++ 96 ∷ []; is = refl; no_blank = refl; apart = λ e. refl }
token_starts (tokens.Str s) h = record { first = 39; more = flat_map escape s ++ 39 ∷ []; is = refl; no_blank = refl; apart = λ e. refl }
token_starts (tokens.Number n) h = number_starts n h.sign h.digits h.mark h.is_sign h.are_digits h.some h.is
token_starts tokens.Dot h = record { first = 46; more = []; is = refl; no_blank = refl; apart = λ e. refl }
token_starts tokens.Comma h = record { first = 44; more = []; is = refl; no_blank = refl; apart = λ e. refl }
token_starts tokens.Open h = record { first = 40; more = []; is = refl; no_blank = refl; apart = λ e. refl }
token_starts tokens.Close h = record { first = 41; more = []; is = refl; no_blank = refl; apart = λ e. refl }
token_starts tokens.Arrow h = record { first = 61; more = 62 ∷ []; is = refl; no_blank = refl; apart = λ e. refl }
token_starts tokens.Semicolon h = record { first = 59; more = []; is = refl; no_blank = refl; apart = λ e. refl }

past_none : (b : ℕ) (bs : List ℕ) → is_no_blank b ≡ true → past_blanks (b ∷ bs) ≡ b ∷ bs
unfolding past_blanks
past_none b bs h = rw h refl

one_more : (n : ℕ) → cond true (1 + n) 0 ≡ suc n
one_more n = omega arith

past_one : (bs : List ℕ) → past_blanks (32 ∷ bs) ≡ past_blanks bs
unfolding past_blanks
past_one bs = ap (λ n. drop n (32 ∷ bs)) (one_more (position_or_len is_no_blank bs))

-- pieces begin with no blank
pub pieces_past : (ps : List Piece) → AllByRecursion (λ p. CanBeToken p.token) ps → past_blanks (pieces_text ps) ≡ pieces_text ps
unfolding piece_text past_blanks
pieces_past [] h = refl
pieces_past (p ∷ ps) h =
    let s = token_starts p.token h.0 in
    let is : (token_text p.token ++ blank_text p.blank) ++ flat_map piece_text ps ≡ s.first ∷ ((s.more ++ blank_text p.blank) ++ flat_map piece_text ps) = ap (λ (x : List ℕ). (x ++ blank_text p.blank) ++ flat_map piece_text ps) s.is in
    ap past_blanks is ∙ past_none s.first ((s.more ++ blank_text p.blank) ++ flat_map piece_text ps) s.no_blank ∙ sym is

blank_past : (b : Bool) (ps : List Piece) → AllByRecursion (λ p. CanBeToken p.token) ps → past_blanks (blank_text b ++ pieces_text ps) ≡ pieces_text ps
blank_past true ps h = past_one (pieces_text ps) ∙ pieces_past ps h
blank_past false ps h = pieces_past ps h

starts_ends : (ps : List Piece) → AllByRecursion (λ p. CanBeToken p.token) ps → StartsApart ps → Ends (pieces_text ps)
unfolding piece_text
starts_ends [] h k = inl refl
starts_ends (p ∷ ps) h k = let s = token_starts p.token h.0 in inr (ap (λ (x : List ℕ). first_is ends_word ((x ++ blank_text p.blank) ++ flat_map piece_text ps)) s.is ∙ s.apart k)

behind_ends : (b w : Bool) (ps : List Piece) → AllByRecursion (λ p. CanBeToken p.token) ps → (b ≡ true) ⊎ ((w ≡ false) ⊎ StartsApart ps) → w ≡ true → Ends (blank_text b ++ pieces_text ps)
behind_ends true w ps h k e = inr refl
behind_ends false w ps h k e = elim k [
  | inl z ↦ absurd (cc (z))
  | inr z ↦ elim z [ inl y ↦ absurd (cc (y, e)) | inr y ↦ starts_ends ps h y ]
]

pub pieces_cut : (ps : List Piece) → AllByRecursion (λ p. CanBeToken p.token) ps → Apart ps → CutsFrom (pieces_text ps) (map token_of_piece ps) []
unfolding piece_text
pieces_cut [] h k = refl
pieces_cut (p ∷ ps) h k =
    let after : List ℕ = blank_text p.blank ++ pieces_text ps in (
      after,
      first_token (pieces_text (p ∷ ps)) p.token after (ap token_of (append_assoc (token_text p.token) (blank_text p.blank) (pieces_text ps)) ∙ again p.token (token_text p.token) after (spelled p.token h.0) (behind_ends p.blank (is_wordy p.token) ps h.1 k.0)),
      subst (λ x. CutsFrom x (map token_of_piece ps) []) (sym (blank_past p.blank ps h.1)) (pieces_cut ps h.1 k.1),
    )

pub flat_twice : {X : Type 0} (f : X → List Piece) (xs : List X) → flat_map piece_text (flat_map f xs) ≡ flat_map (λ x. flat_map piece_text (f x)) xs
flat_twice f [] = refl
flat_twice f (x ∷ xs) = flat_map-append piece_text (f x) (flat_map f xs) ∙ ap (λ (y : List ℕ). flat_map piece_text (f x) ++ y) (flat_twice f xs)

pub pairs_split : (p : List ℕ × List ℕ) (ps : List (List ℕ × List ℕ)) → flat_map piece_text (drop 1 (flat_map pair_pieces (p ∷ ps))) ≡ flat_map piece_text (drop 1 (pair_pieces p)) ++ flat_map pair_text ps
pairs_split p ps = flat_map-append piece_text (drop 1 (pair_pieces p)) (flat_map pair_pieces ps) ∙ ap (λ (y : List ℕ). flat_map piece_text (drop 1 (pair_pieces p)) ++ y) (flat_twice pair_pieces ps)

pub numbers_split : (n : List ℕ) (ns : List (List ℕ)) → flat_map piece_text (drop 1 (flat_map number_pieces (n ∷ ns))) ≡ flat_map piece_text (drop 1 (number_pieces n)) ++ flat_map number_text ns
numbers_split n ns = flat_map-append piece_text (drop 1 (number_pieces n)) (flat_map number_pieces ns) ∙ ap (λ (y : List ℕ). flat_map piece_text (drop 1 (number_pieces n)) ++ y) (flat_twice number_pieces ns)

pub args_split : (a : Arg) (rest : List Arg) → flat_map piece_text (drop 1 (flat_map arg_pieces (a ∷ rest))) ≡ flat_map piece_text (lead_pieces a.name ++ value_pieces a.value) ++ flat_map arg_text rest
unfolding arg_pieces
args_split a rest = flat_map-append piece_text (lead_pieces a.name ++ value_pieces a.value) (flat_map arg_pieces rest) ∙ ap (λ (y : List ℕ). flat_map piece_text (lead_pieces a.name ++ value_pieces a.value) ++ y) (flat_twice arg_pieces rest)

-- a text that grew twice
pub grown : (old a b c whole : List ℕ) → b ≡ old ++ a → c ≡ b ++ whole → (all : List ℕ) → all ≡ a ++ whole → c ≡ old ++ all
grown old a b c whole e k all is = k ∙ ap (λ (x : List ℕ). x ++ whole) e ∙ append_assoc old a whole ∙ ap (λ (x : List ℕ). old ++ x) (sym is)

pub pairs_whole : (xs : List (List ℕ × List ℕ)) (x : List ℕ × List ℕ) → 1 ≤ length xs → x ≡ get_or xs 0 x → flat_map piece_text (drop 1 (flat_map pair_pieces xs)) ≡ flat_map piece_text (drop 1 (pair_pieces x)) ++ flat_map pair_text (drop 1 xs)
pairs_whole [] x h e = absurd (omega arith)
pairs_whole (y ∷ ys) x h e = pairs_split y ys ∙ ap (λ (z : List ℕ × List ℕ). flat_map piece_text (drop 1 (pair_pieces z)) ++ flat_map pair_text ys) (sym e)

pub numbers_whole : (xs : List (List ℕ)) (x : List ℕ) → 1 ≤ length xs → x ≡ get_or xs 0 x → flat_map piece_text (drop 1 (flat_map number_pieces xs)) ≡ flat_map piece_text (drop 1 (number_pieces x)) ++ flat_map number_text (drop 1 xs)
numbers_whole [] x h e = absurd (omega arith)
numbers_whole (y ∷ ys) x h e = numbers_split y ys ∙ ap (λ (z : List ℕ). flat_map piece_text (drop 1 (number_pieces z)) ++ flat_map number_text ys) (sym e)

pub args_whole : (xs : List Arg) (x : Arg) → 1 ≤ length xs → x ≡ get_or xs 0 x → flat_map piece_text (drop 1 (flat_map arg_pieces xs)) ≡ flat_map piece_text (lead_pieces x.name ++ value_pieces x.value) ++ flat_map arg_text (drop 1 xs)
args_whole [] x h e = absurd (omega arith)
args_whole (y ∷ ys) x h e = args_split y ys ∙ ap (λ (z : Arg). flat_map piece_text (lead_pieces z.name ++ value_pieces z.value) ++ flat_map arg_text ys) (sym e)

pub call_whole : (c : Call) → flat_map piece_text (head_pieces c) ++ (flat_map piece_text (drop 1 (flat_map arg_pieces c.args)) ++ 41 ∷ []) ≡ flat_map piece_text (head_pieces c ++ (drop 1 (flat_map arg_pieces c.args) ++ plain tokens.Close ∷ []))
unfolding piece_text token_text
call_whole c =
    ap (λ (y : List ℕ). flat_map piece_text (head_pieces c) ++ y) (sym (flat_map-append piece_text (drop 1 (flat_map arg_pieces c.args)) (plain tokens.Close ∷ [])))
    ∙ sym (flat_map-append piece_text (head_pieces c) (drop 1 (flat_map arg_pieces c.args) ++ plain tokens.Close ∷ []))

pub call_text : (c : Call) (start head args whole : List ℕ) (list : List Arg) → start ≡ [] → head ≡ start ++ flat_map piece_text (head_pieces c) → list ≡ c.args → args ≡ head ++ flat_map piece_text (drop 1 (flat_map arg_pieces list)) → whole ≡ args ++ 41 ∷ [] → whole ≡ flat_map piece_text (head_pieces c ++ (drop 1 (flat_map arg_pieces c.args) ++ plain tokens.Close ∷ []))
call_text c start head args whole list none h same a w =
    w
    ∙ ap (λ (x : List ℕ). x ++ 41 ∷ []) (a ∙ ap (λ (x : List Arg). head ++ flat_map piece_text (drop 1 (flat_map arg_pieces x))) same)
    ∙ append_assoc head (flat_map piece_text (drop 1 (flat_map arg_pieces c.args))) (41 ∷ [])
    ∙ ap (λ (x : List ℕ). x ++ (flat_map piece_text (drop 1 (flat_map arg_pieces c.args)) ++ 41 ∷ [])) (h ∙ ap (λ (x : List ℕ). x ++ flat_map piece_text (head_pieces c)) none)
    ∙ call_whole c

one_less : (n : ℕ) → suc n - 1 ≡ n
one_less n = omega arith

take_whole : {X : Type 0} (xs : List X) → take (length xs) xs ≡ xs
take_whole [] = refl
take_whole {X} (x ∷ xs) = ap (λ (y : List X). x ∷ y) (take_whole xs)

pub behind_first : {X : Type 0} (xs : List X) → take (length xs - 1) (drop 1 xs) ≡ drop 1 xs
behind_first [] = refl
behind_first (x ∷ xs) = ap (λ n. take n xs) (one_less (length xs)) ∙ take_whole xs
