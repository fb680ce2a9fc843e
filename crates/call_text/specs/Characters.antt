-- The characters of tokens, by their ASCII codes.
use Rattle.std.specs.Prelude.{ℕ, Bool, false, not, ◌||◌, List, [], ◌∷◌, Option, Some, None, ◌==◌, if◌then◌else◌}
use Rattle.std.specs.Char.{is_ascii_digit, is_ascii_alphabetic, is_ascii_alphanumeric}

-- a letter or _
abbrev pub begins_word : ℕ → Bool
begins_word b = is_ascii_alphabetic b || b == 95

-- neither a letter nor a digit nor _
abbrev pub ends_word : ℕ → Bool
ends_word b = not (is_ascii_alphanumeric b || b == 95)

-- a letter, a digit or _
abbrev pub continues_word : ℕ → Bool
continues_word b = not (ends_word b)

-- no decimal digit
abbrev pub is_no_digit : ℕ → Bool
is_no_digit b = not (is_ascii_digit b)

-- ' or "
abbrev pub is_quote : ℕ → Bool
is_quote b = b == 39 || b == 34

-- `
abbrev pub is_backquote : ℕ → Bool
is_backquote b = b == 96

-- \
abbrev pub backslash : ℕ
backslash = 92

-- L or l
abbrev pub is_long_mark : ℕ → Bool
is_long_mark b = b == 76 || b == 108

-- how many digits a number has at most
abbrev pub most_digits : ℕ
most_digits = 39

-- the bytes begin with one that passes the test
abbrev pub first_is : (ℕ → Bool) → List ℕ → Bool
first_is p [] = false
first_is p (b ∷ bs) = p b

-- the character that a backslash and this letter stand for: \' \" \\ stand for ' " \, \n for a line feed, \t for a tab
abbrev pub unescaped : ℕ → Option ℕ
unescaped letter = if letter == 39 || letter == 34 || letter == backslash then Some letter else (if letter == 110 then Some 10 else (if letter == 116 then Some 9 else None))
