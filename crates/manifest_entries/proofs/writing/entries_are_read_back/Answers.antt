use Rattle.manifest_entries.proofs.Back.{read_back}
use Rattle.manifest_entries.proofs.writing.entries_are_read_back.Goals as goal

pub returns : goal.returns
returns c = read_back
