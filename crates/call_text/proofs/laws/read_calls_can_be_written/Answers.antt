use Rattle.call_text.proofs.Readable.{can_be_written}
use Rattle.call_text.proofs.laws.read_calls_can_be_written.Goals as goal

pub returns : goal.returns
returns c = record { written = can_be_written }
