-- What a text spells, and where a text that spells nothing is at fault.
use Rattle.std.specs.Prelude.{◌≡◌, ℕ, ◌+◌, List, [], ◌∷◌, ◌++◌, length, Bool, not, ◌||◌, ◌==◌, Result, Ok, Err}
use Rattle.call_text.specs.declared.token.Token.{Token}
use Rattle.call_text.specs.Spelling.{IsFirstToken}
use Rattle.call_text.specs.Cutting.{from_first}
use Rattle.call_text.specs.declared.call.Call.{Call}
use Rattle.call_text.specs.declared.error.SyntaxErr.{SyntaxErr}
use Rattle.call_text.specs.declared.error.SyntaxErr.TheVariants as errors
use Rattle.call_text.specs.Grammar.{IsStatement, Begins}

-- neither a space nor a tab nor a line feed nor a carriage return
abbrev pub is_no_blank : ℕ → Bool
is_no_blank b = not (b == 32 || b == 9 || b == 10 || b == 13)

-- what stands behind the blanks in front
unfoldable pub past_blanks : List ℕ → List ℕ
past_blanks bytes = from_first is_no_blank bytes

-- the bytes are cut into these tokens by the longest match, with the blanks behind each, and this rest is left
abbrev pub CutsFrom : List ℕ → List Token → List ℕ → Type 0
CutsFrom bytes [] rest = bytes ≡ rest
CutsFrom bytes (t ∷ ts) rest = (after : List ℕ) × IsFirstToken bytes t after × CutsFrom (past_blanks after) ts rest

-- the same for a text, which may begin with blanks
abbrev pub Cuts : List ℕ → List Token → List ℕ → Type 0
Cuts text ts rest = CutsFrom (past_blanks text) ts rest

-- the text's tokens are a statement with this call, and nothing is left
pub record Spells (text : List ℕ) (c : Call) : Type 0 where
  pub tokens : List Token
  pub cut : Cuts text tokens []
  pub is_statement : IsStatement c tokens

-- no statement goes on behind these tokens as the text does: where nothing is left they are no statement, and else the
-- rest begins with no token, or with one that, with the tokens before it, begins no statement
abbrev pub Fails : List Token → List ℕ → Type 0
Fails ts [] = (c : Call) → IsStatement c ts → ⊥
Fails ts (b ∷ bs) = (t : Token) (after : List ℕ) → IsFirstToken (b ∷ bs) t after → Begins (ts ++ t ∷ []) → ⊥

-- the text is at fault at this offset: the tokens before it begin a statement, and none goes on as the text does from there
pub record IsFault (text : List ℕ) (at : ℕ) : Type 0 where
  pub tokens : List Token
  pub rest : List ℕ
  pub cut : Cuts text tokens rest
  pub begins : Begins tokens
  pub fails : Fails tokens rest
  pub place : at + length rest ≡ length text

-- what is answered, unless memory runs out
abbrev pub Answers : Result Call SyntaxErr → Result Call ℕ → Type 0
Answers (Ok c) answer = answer ≡ Ok c
Answers (Err errors.Memory) answer = Unit {0}
Answers (Err (errors.Bad at)) answer = answer ≡ Err at
