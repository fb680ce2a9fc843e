use Rattle.std.proofs.lemmas.Result.{err_from_is_err_and}
use Rattle.manifest_entries.proofs.Order.{no_snapshot, no_file_number, file_refused}
use Rattle.manifest_entries.proofs.reading.entry_in.Goals as goal

pub returns-in_default-number_at : goal.returns-in_default-number_at
returns-in_default-number_at c = record { exact = no_snapshot c.args.slots.now c.args.items.now c.in-Some.status c.in-Some.ensures c.in_default-number_at.ensures; counts = tt }

pub returns-in_default-number_at-3 : goal.returns-in_default-number_at-3
returns-in_default-number_at-3 c = record { exact = no_file_number c.args.slots.now c.args.items.now c.in-Some.status c.in-Some-number_at.snapshot_id c.in-Some-number_at-2.sequence_number c.in-Some.ensures c.in-Some-number_at.ensures c.in-Some-number_at-2.ensures c.in_default-number_at-3.ensures; counts = tt }

pub returns-in_err-data_file : goal.returns-in_err-data_file
returns-in_err-data_file c =
    let p = err_from_is_err_and c.from_residual.result c.from_residual.ensures.1 in
    rw (p.1, p.2) (record { exact = file_refused c.args.slots.now c.args.items.now c.in-Some.status c.in-Some-number_at.snapshot_id c.in-Some-number_at-2.sequence_number c.in-Some-number_at-3.file_sequence_number _ c.in-Some.ensures c.in-Some-number_at.ensures c.in-Some-number_at-2.ensures c.in-Some-number_at-3.ensures c.in_err-data_file.ensures.exact; counts = tt })
