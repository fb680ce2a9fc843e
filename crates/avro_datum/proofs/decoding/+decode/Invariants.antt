use Rattle.std.proofs.Common.{◌≡◌, ◌≤◌, ◌-◌, suc, length, drop}
use Rattle.std.specs.Prelude.{vec_len, vec_capacity}
use Rattle.avro_schema.specs.Form.{form_of}
use Rattle.avro_container.specs.Reading.{with_front, items_at, blocks_at}
use Rattle.avro_datum.specs.Spelling.{most_items}
use Rattle.avro_datum.specs.Reading.{entry_at, read, read_all}
use Rattle.avro_pieces.specs.Pieces.{causes}
use Rattle.avro_datum.proofs.Schemas.{forms}
use Rattle.avro_datum.proofs.decoding.+decode.Given as goal

abbrev pub invariant-all-loop-field : goal.invariant-all-loop-field
invariant-all-loop-field l = record {
  within : l.end ≤ length l.bytes;
  count : vec_len l.items ≡ l.field-index;
  capacity : vec_capacity l.items ≡ length l.fields;
  so_far : with_front l.items.items (read_all (forms (drop l.field-index l.fields)) (drop l.end l.bytes)) ≡ read_all (forms l.fields) (drop l.at l.bytes);
}

abbrev pub invariant-blocks-loop : goal.invariant-blocks-loop
invariant-blocks-loop l = record {
  within : l.end ≤ length l.bytes;
  so_far : with_front l.items (blocks_at causes (read (form_of l.item)) (l.turns - l.counter) l.room (drop l.end l.bytes)) ≡ blocks_at causes (read (form_of l.item)) (suc (length (drop l.at l.bytes))) most_items (drop l.at l.bytes);
}

abbrev pub invariant-some-loop : goal.invariant-some-loop
invariant-some-loop l = record {
  within : l.end ≤ length l.bytes;
  so_far : with_front l.to (items_at (read (form_of l.item)) (l.count - l.counter) (drop l.end l.bytes)) ≡ with_front l.initial.to (items_at (read (form_of l.item)) l.count (drop l.at l.bytes));
}

abbrev pub invariant-pair_blocks-loop : goal.invariant-pair_blocks-loop
invariant-pair_blocks-loop l = record {
  within : l.end ≤ length l.bytes;
  so_far : with_front l.items (blocks_at causes (entry_at (read (form_of l.inner))) (l.turns - l.counter) l.room (drop l.end l.bytes)) ≡ blocks_at causes (entry_at (read (form_of l.inner))) (suc (length (drop l.at l.bytes))) most_items (drop l.at l.bytes);
}

abbrev pub invariant-pairs-loop : goal.invariant-pairs-loop
invariant-pairs-loop l = record {
  within : l.end ≤ length l.bytes;
  so_far : with_front l.to (items_at (entry_at (read (form_of l.inner))) (l.count - l.counter) (drop l.end l.bytes)) ≡ with_front l.initial.to (items_at (entry_at (read (form_of l.inner))) l.count (drop l.at l.bytes));
}
