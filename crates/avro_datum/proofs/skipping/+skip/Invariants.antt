use Rattle.std.proofs.Common.{◌≡◌, ◌≤◌, ◌-◌, suc, length, drop}
use Rattle.avro_schema.specs.Form.{form_of}
use Rattle.avro_container.specs.Reading.{end_of, items_at, blocks_at}
use Rattle.avro_datum.specs.Spelling.{most_items}
use Rattle.avro_datum.specs.Reading.{entry_at, read, read_all}
use Rattle.avro_pieces.specs.Pieces.{causes}
use Rattle.avro_datum.proofs.Schemas.{forms}
use Rattle.avro_datum.proofs.skipping.+skip.Given as goal

abbrev pub invariant-past_all-loop-field : goal.invariant-past_all-loop-field
invariant-past_all-loop-field l = record {
  within : l.end ≤ length l.bytes;
  so_far : end_of (read_all (forms (drop l.field-index l.fields)) (drop l.end l.bytes)) ≡ end_of (read_all (forms l.fields) (drop l.at l.bytes));
}

abbrev pub invariant-past_blocks-loop : goal.invariant-past_blocks-loop
invariant-past_blocks-loop l = record {
  within : l.end ≤ length l.bytes;
  so_far : end_of (blocks_at causes (read (form_of l.item)) (l.turns - l.counter) l.room (drop l.end l.bytes)) ≡ end_of (blocks_at causes (read (form_of l.item)) (suc (length (drop l.at l.bytes))) most_items (drop l.at l.bytes));
}

abbrev pub invariant-past_some-loop : goal.invariant-past_some-loop
invariant-past_some-loop l = record {
  within : l.end ≤ length l.bytes;
  so_far : end_of (items_at (read (form_of l.item)) (l.count - l.counter) (drop l.end l.bytes)) ≡ end_of (items_at (read (form_of l.item)) l.count (drop l.at l.bytes));
}

abbrev pub invariant-past_pair_blocks-loop : goal.invariant-past_pair_blocks-loop
invariant-past_pair_blocks-loop l = record {
  within : l.end ≤ length l.bytes;
  so_far : end_of (blocks_at causes (entry_at (read (form_of l.inner))) (l.turns - l.counter) l.room (drop l.end l.bytes)) ≡ end_of (blocks_at causes (entry_at (read (form_of l.inner))) (suc (length (drop l.at l.bytes))) most_items (drop l.at l.bytes));
}

abbrev pub invariant-past_pairs-loop : goal.invariant-past_pairs-loop
invariant-past_pairs-loop l = record {
  within : l.end ≤ length l.bytes;
  so_far : end_of (items_at (entry_at (read (form_of l.inner))) (l.count - l.counter) (drop l.end l.bytes)) ≡ end_of (items_at (entry_at (read (form_of l.inner))) l.count (drop l.at l.bytes));
}
