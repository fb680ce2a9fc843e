use Rattle.manifest_writing.proofs.ReadRows.{read_writable}
use Rattle.manifest_writing.proofs.lists.read_rows_are_writable.Goals as goal

pub returns : goal.returns
returns c = read_writable
