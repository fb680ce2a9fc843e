use Rattle.manifest_entries.proofs.reading.number_at.Goals as goal

pub returns : goal.returns
returns c = rw c.held-found.ensures at c.optional_long_of.ensures
