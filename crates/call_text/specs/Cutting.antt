-- The token at the front of some bytes and what stands behind it, as a function. That it is the first token by the
-- longest match is the law `longest_match`.
use Rattle.std.specs.Prelude.{◌++◌, ℕ, ◌+◌, Bool, true, false, ◌||◌, ◌&&◌, List, [], ◌∷◌, length, take, drop, min, Option, Some, None, option_and_then, nat_lt, ◌==◌, if◌then◌else◌}
use Rattle.std.specs.List.{before_first, position_or_len}
use Rattle.std.specs.Option.{option_map}
use Rattle.std.specs.Char.{is_ascii_digit}
use Rattle.call_text.specs.declared.token.Token.{Token}
use Rattle.call_text.specs.declared.token.Token.TheVariants.{Word, Quoted, Str, Number, Dot, Comma, Open, Close, Arrow, Semicolon}
use Rattle.call_text.specs.Characters.{begins_word, ends_word, is_no_digit, is_quote, is_backquote, backslash, is_long_mark, most_digits, first_is, unescaped}

-- what stands from the first byte that passes the test
abbrev pub from_first : (ℕ → Bool) → List ℕ → List ℕ
from_first p bytes = drop (position_or_len p bytes) bytes

-- with more bytes before what was found
abbrev pub with_front : List ℕ → Option (List ℕ × List ℕ) → Option (List ℕ × List ℕ)
with_front front found = option_map (λ x. (front ++ x.0, x.1)) found

-- the content of a string up to its quote, and what stands behind; after a backslash the letter of an escape comes
abbrev pub string_of : ℕ → Bool → List ℕ → Option (List ℕ × List ℕ)
string_of quote escape [] = None
string_of quote true (b ∷ bs) = option_and_then (λ c. with_front (c ∷ []) (string_of quote false bs)) (unescaped b)
string_of quote false (b ∷ bs) =
    if b == quote then Some ([], bs)
    else (if b == backslash then string_of quote true bs
    else with_front (b ∷ []) (string_of quote false bs))

-- what stands up to the next backquote, and what stands behind it
abbrev pub quoted_of : List ℕ → Option (List ℕ × List ℕ)
quoted_of bytes =
    let len = position_or_len is_backquote bytes in
    if nat_lt 0 len && nat_lt len (length bytes) then Some (take len bytes, drop (len + 1) bytes) else None

-- how long a minus sign in front is
abbrev pub sign_len : List ℕ → ℕ
sign_len bytes = if first_is (λ b. b == 45) bytes then 1 else 0

-- how long an L or l in front is
abbrev pub long_mark_len : List ℕ → ℕ
long_mark_len bytes = if first_is is_long_mark bytes then 1 else 0

-- how long the number in front is, and 0 where there is none
unfoldable pub number_len : List ℕ → ℕ
number_len bytes =
    let digits = min (position_or_len is_no_digit (drop (sign_len bytes) bytes)) most_digits in
    if digits == 0 then 0 else sign_len bytes + digits + long_mark_len (drop (sign_len bytes + digits) bytes)

-- the number in front, and what stands behind it
abbrev pub number_of : List ℕ → Option (Token × List ℕ)
number_of bytes = if number_len bytes == 0 then None else Some (Number (take (number_len bytes) bytes), drop (number_len bytes) bytes)

-- . , ( ) ; and =>
abbrev pub mark_of : ℕ → List ℕ → Option (Token × List ℕ)
mark_of b bs =
    if b == 46 then Some (Dot, bs)
    else (if b == 44 then Some (Comma, bs)
    else (if b == 40 then Some (Open, bs)
    else (if b == 41 then Some (Close, bs)
    else (if b == 59 then Some (Semicolon, bs)
    else (if b == 61 && first_is (λ c. c == 62) bs then Some (Arrow, drop 1 bs)
    else None)))))

-- by the first byte
unfoldable pub token_of : List ℕ → Option (Token × List ℕ)
token_of [] = None
token_of (b ∷ bs) =
    if begins_word b then Some (Word (before_first ends_word (b ∷ bs)), from_first ends_word (b ∷ bs))
    else (if is_backquote b then option_map (λ x. (Quoted x.0, x.1)) (quoted_of bs)
    else (if is_quote b then option_map (λ x. (Str x.0, x.1)) (string_of b false bs)
    else (if b == 45 || is_ascii_digit b then number_of (b ∷ bs)
    else mark_of b bs)))
