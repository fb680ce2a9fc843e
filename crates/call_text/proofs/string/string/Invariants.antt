use Rattle.std.proofs.Common.{◌≡◌, length, false}
use Rattle.call_text.specs.Cutting.{with_front, string_of}
use Rattle.call_text.proofs.string.string.Given as goal

abbrev pub invariant-loop-rest : goal.invariant-loop-rest
invariant-loop-rest l = with_front l.content.items (string_of l.quote l.escape l.rest) ≡ string_of l.quote false l.bytes

abbrev pub decreases-loop-rest : goal.decreases-loop-rest
decreases-loop-rest l = length l.rest
