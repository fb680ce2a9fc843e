use Rattle.std.proofs.lemmas.Str.{IsUtf8-from_ascii, is_utf8-from_IsUtf8}
use Rattle.avro_pieces.proofs.pieces.text_of.Goals as goal

pub from_utf8_unchecked-requires : goal.from_utf8_unchecked-requires
from_utf8_unchecked-requires c = IsUtf8-from_ascii _ (rw c.if-is_ascii.true at c.is_ascii.ensures.cases)

pub returns-then-is_ascii : goal.returns-then-is_ascii
returns-then-is_ascii c = (is_utf8-from_IsUtf8 _ (IsUtf8-from_ascii _ (rw c.if-is_ascii.true at c.is_ascii.ensures.cases)), c.from_utf8_unchecked.ensures)
