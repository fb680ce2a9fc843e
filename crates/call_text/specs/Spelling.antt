-- The forms of the tokens, and the first token of some bytes by the longest match.
use Rattle.std.specs.Prelude.{◌≡◌, ◌≢◌, ◌⊎◌, ℕ, ◌<◌, ◌≤◌, Bool, true, false, ◌&&◌, List, [], ◌∷◌, ◌++◌, length, Some, codes}
use Rattle.std.specs.List.{AllByRecursion, list_all}
use Rattle.call_text.specs.declared.token.Token.{Token}
use Rattle.call_text.specs.declared.token.Token.TheVariants as tokens
use Rattle.call_text.specs.Characters.{begins_word, continues_word, ends_word, is_quote, is_no_digit, is_backquote, backslash, most_digits, first_is, unescaped}

-- an identifier without backquotes: a letter or _, then letters, digits and _
pub record IsWord (w : List ℕ) : Type 0 where
  pub first : first_is begins_word w ≡ true
  pub each : AllByRecursion (λ b. ends_word b ≡ false) w

-- the same, as a test
abbrev pub is_plain : List ℕ → Bool
is_plain name = first_is begins_word name && list_all continues_word name

-- what may stand between two backquotes: at least one character, and no backquote
pub record IsBetweenBackquotes (w : List ℕ) : Type 0 where
  pub some : 0 < length w
  pub each : AllByRecursion (λ b. is_backquote b ≡ false) w

-- the body of a string stands for its content: a character that is neither the quote nor a backslash for itself, and an
-- escape for the character that it is undone to
abbrev pub IsContent : ℕ → List ℕ → List ℕ → Type 0
IsContent quote body [] = body ≡ []
IsContent quote body (c ∷ content) =
    (rest : List ℕ) × IsContent quote rest content
    × (((body ≡ c ∷ rest) × (c ≢ quote) × (c ≢ backslash))
    ⊎ ((letter : ℕ) × (unescaped letter ≡ Some c) × (body ≡ backslash ∷ letter ∷ rest)))

-- a string: a body between two equal quotes
pub record IsString (text content : List ℕ) : Type 0 where
  pub quote : ℕ
  pub body : List ℕ
  pub is_quote_mark : is_quote quote ≡ true
  pub is_content : IsContent quote body content
  pub is : text ≡ quote ∷ body ++ quote ∷ []

-- a number: an optional -, one digit or more up to a limit, an optional L or l
pub record IsNumber (number : List ℕ) : Type 0 where
  pub sign : List ℕ
  pub digits : List ℕ
  pub mark : List ℕ
  pub is_sign : (sign ≡ []) ⊎ (sign ≡ codes "-")
  pub are_digits : AllByRecursion (λ b. is_no_digit b ≡ false) digits
  pub some : 0 < length digits
  pub few : length digits ≤ most_digits
  pub is_mark : (mark ≡ []) ⊎ ((mark ≡ codes "L") ⊎ (mark ≡ codes "l"))
  pub is : number ≡ sign ++ (digits ++ mark)

-- the text is this token
abbrev pub IsSpelled : Token → List ℕ → Type 0
IsSpelled (tokens.Word w) text = (text ≡ w) × IsWord w
IsSpelled (tokens.Quoted w) text = (text ≡ codes "`" ++ (w ++ codes "`")) × IsBetweenBackquotes w
IsSpelled (tokens.Str content) text = IsString text content
IsSpelled (tokens.Number n) text = (text ≡ n) × IsNumber n
IsSpelled tokens.Dot text = text ≡ codes "."
IsSpelled tokens.Comma text = text ≡ codes ","
IsSpelled tokens.Open text = text ≡ codes "("
IsSpelled tokens.Close text = text ≡ codes ")"
IsSpelled tokens.Arrow text = text ≡ codes "=>"
IsSpelled tokens.Semicolon text = text ≡ codes ";"

-- the bytes begin with this token, no front of them that is a token is longer, and this stands behind it
pub record IsFirstToken (bytes : List ℕ) (t : Token) (after : List ℕ) : Type 0 where
  pub front : List ℕ
  pub spelled : IsSpelled t front
  pub is : bytes ≡ front ++ after
  pub longest : (u : Token) (other rest : List ℕ) → IsSpelled u other → bytes ≡ other ++ rest → length other ≤ length front

-- no front of the bytes is a token
abbrev pub HasNoToken : List ℕ → Type 0
HasNoToken bytes = (u : Token) (other rest : List ℕ) → IsSpelled u other → bytes ≡ other ++ rest → ⊥
