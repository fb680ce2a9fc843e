use Rattle.manifest_files.proofs.reading.set_int_longs_at.Goals as goal

pub returns : goal.returns
returns c = rw c.held-found.ensures at (rw c.as_slice-within.ensures at c.set_int_longs.ensures)
