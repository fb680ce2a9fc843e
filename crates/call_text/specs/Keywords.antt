-- The words of the language: identifiers without backquotes, compared without regard to the case of ASCII letters.
use Rattle.std.specs.Prelude.{◌≡◌, ◌⊎◌, ℕ, List, map, codes, Bool, Option, Some, None, if◌then◌else◌}
use Rattle.std.specs.Char.{to_ascii_lowercase}
use Rattle.std.specs.Str.{bytes_eq}
use Rattle.call_text.specs.declared.token.Token.{Token}
use Rattle.call_text.specs.declared.token.Token.TheVariants as tokens
use Rattle.call_text.specs.declared.keyword.Keyword.{Keyword}
use Rattle.call_text.specs.declared.keyword.Keyword.TheVariants as words

-- with letters in lower case
abbrev pub lower : List ℕ → List ℕ
lower w = map to_ascii_lowercase w

-- how a word of the language is spelled, in lower case
unfoldable pub spelling : Keyword → List ℕ
spelling words.Call = codes "call"
spelling words.System = codes "system"
spelling words.True = codes "true"
spelling words.False = codes "false"
spelling words.Null = codes "null"
spelling words.Timestamp = codes "timestamp"
spelling words.Map = codes "map"
spelling words.Array = codes "array"

-- the token is this word, without backquotes
abbrev pub IsKeyword : Keyword → Token → Type 0
IsKeyword k t = (w : List ℕ) × (t ≡ tokens.Word w) × (lower w ≡ spelling k)

-- the token is an identifier of this name, with backquotes or without
abbrev pub IsName : List ℕ → Token → Type 0
IsName n t = (t ≡ tokens.Word n) ⊎ (t ≡ tokens.Quoted n)

-- the word that these letters in lower case are, as a function
unfoldable pub keyword_of : List ℕ → Option Keyword
keyword_of w =
    if bytes_eq w (codes "call") then Some words.Call
    else (if bytes_eq w (codes "system") then Some words.System
    else (if bytes_eq w (codes "true") then Some words.True
    else (if bytes_eq w (codes "false") then Some words.False
    else (if bytes_eq w (codes "null") then Some words.Null
    else (if bytes_eq w (codes "timestamp") then Some words.Timestamp
    else (if bytes_eq w (codes "map") then Some words.Map
    else (if bytes_eq w (codes "array") then Some words.Array
    else None)))))))

-- the word that an identifier is, as a function
abbrev pub keyword : List ℕ → Option Keyword
keyword w = keyword_of (lower w)

-- the letters are this word
abbrev pub is_keyword : Keyword → List ℕ → Bool
is_keyword k w = bytes_eq (lower w) (spelling k)
