use Rattle.manifest_parts.proofs.Found.{in_order}
use Rattle.manifest_parts.proofs.written.written_parts_are_in_order.Goals as goal

pub returns : goal.returns
returns c = in_order
