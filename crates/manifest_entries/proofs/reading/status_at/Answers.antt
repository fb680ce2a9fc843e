use Rattle.manifest_entries.proofs.reading.status_at.Goals as goal

pub returns : goal.returns
returns c = rw c.held-found.ensures at c.status_of.ensures
