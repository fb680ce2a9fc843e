use Rattle.manifest_files.proofs.Back.{read_back}
use Rattle.manifest_files.proofs.writing.files_are_read_back.Goals as goal

pub returns : goal.returns
returns c = read_back
