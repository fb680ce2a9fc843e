-- What is cut off, in the words of the definition.
use Rattle.std.proofs.Common.{◌≡◌, Bor, IfOk, IfSome, IfNone, ℕ, List, Option, Some, None, Result, Ok, Err, sym}
use Rattle.std.specs.Option.{option_map}
use Rattle.call_text.specs.declared.token.Token.{Token}
use Rattle.call_text.specs.Cutting.{token_of}
use Rattle.call_text.specs.Spelling.{IsFirstToken, HasNoToken}
use Rattle.call_text.proofs.Spelled.{first_token, none_none}

-- a token, and the bytes behind it as they are seen now
abbrev pub seen : Token × Bor (List ℕ) → Token × List ℕ
seen x = (x.0, x.1.now)

some_is : (bytes : List ℕ) (found : Option (Token × Bor (List ℕ))) → option_map seen found ≡ token_of bytes → IfSome found (λ x. IsFirstToken bytes x.0 x.1.now)
some_is bytes None e = tt
some_is bytes (Some x) e = first_token bytes x.0 x.1.now (sym e)

none_is : (bytes : List ℕ) (found : Option (Token × Bor (List ℕ))) → option_map seen found ≡ token_of bytes → IfNone found (HasNoToken bytes)
none_is bytes None e = none_none bytes (sym e)
none_is bytes (Some x) e = tt

pub found_token : {E : Type 0} (bytes : List ℕ) (result : Result (Option (Token × Bor (List ℕ))) E) → IfOk result (λ found. option_map seen found ≡ token_of bytes) → IfOk result (λ found. IfSome found (λ x. IsFirstToken bytes x.0 x.1.now))
found_token bytes (Ok found) e = some_is bytes found e
found_token bytes (Err e) h = tt

pub found_none : {E : Type 0} (bytes : List ℕ) (result : Result (Option (Token × Bor (List ℕ))) E) → IfOk result (λ found. option_map seen found ≡ token_of bytes) → IfOk result (λ found. IfNone found (HasNoToken bytes))
found_none bytes (Ok found) e = none_is bytes found e
found_none bytes (Err e) h = tt
