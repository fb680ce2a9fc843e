-- What each piece of a message writes.
use Rattle.std.specs.Prelude.{ℕ, List, []}
use Rattle.std.specs.Fmt.{decimal, signed_decimal}
use Rattle.run_answers.specs.Escapes.{escaped}
use Rattle.run_answers.specs.declared.message.Piece.{Piece}
use Rattle.run_answers.specs.declared.message.Piece.TheVariants.{Nothing, Words, Natural, Integer, Content}

-- the text of a piece
abbrev pub piece_text : Piece → List ℕ
piece_text Nothing = []
piece_text (Words words) = words.now
piece_text (Natural n) = decimal n
piece_text (Integer n) = signed_decimal n
piece_text (Content text) = escaped text.now
