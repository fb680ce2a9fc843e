use Rattle.manifest_entries.proofs.reading.file_at.Goals as goal

pub returns : goal.returns
returns c = record { exact = rw c.held-found.ensures at (rw c.found_fields-fields.ensures at (rw c.as_slice-parts.ensures at (rw c.as_slice-file.ensures at c.file_of.ensures.exact))); counts = c.file_of.ensures.counts }
