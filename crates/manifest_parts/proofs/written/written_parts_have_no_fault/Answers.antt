use Rattle.manifest_parts.proofs.Found.{no_fault}
use Rattle.manifest_parts.proofs.written.written_parts_have_no_fault.Goals as goal

pub returns : goal.returns
returns c = no_fault
