use Rattle.std.proofs.Common.{◌≡◌, ◌++◌, drop}
use Rattle.std.specs.List.{AllByRecursion}
use Rattle.avro_schema.specs.Form.{form_of}
use Rattle.avro_container.specs.Growth.{Grows}
use Rattle.avro_container.specs.Writing.{written_each}
use Rattle.avro_datum.specs.Writing.{IsOf, AreOf, IsEntry, written, written_all, written_entry}
use Rattle.avro_datum.proofs.Schemas.{forms}
use Rattle.avro_datum.proofs.encoding.+encode.Given as goal

abbrev pub invariant-put_all-loop-field : goal.invariant-put_all-loop-field
invariant-put_all-loop-field l = record {
  of_them : AreOf (forms (drop l.field-index l.fields)) l.rest;
  grows : Grows l.initial.to.items l.to.items;
  so_far : l.to.items ++ written_all (forms (drop l.field-index l.fields)) l.rest ≡ l.initial.to.items ++ written_all (forms l.fields) l.items;
}

abbrev pub invariant-put_each-loop-found : goal.invariant-put_each-loop-found
invariant-put_each-loop-found l = record {
  of_it : AllByRecursion (IsOf (form_of l.item)) (drop l.found-index l.items);
  grows : Grows l.initial.to.items l.to.items;
  so_far : l.to.items ++ written_each (written (form_of l.item)) (drop l.found-index l.items) ≡ l.initial.to.items ++ written_each (written (form_of l.item)) l.items;
}

abbrev pub invariant-put_pairs-loop-found : goal.invariant-put_pairs-loop-found
invariant-put_pairs-loop-found l = record {
  of_it : AllByRecursion (IsEntry (IsOf (form_of l.inner))) (drop l.found-index l.items);
  grows : Grows l.initial.to.items l.to.items;
  so_far : l.to.items ++ written_each (written_entry (written (form_of l.inner))) (drop l.found-index l.items) ≡ l.initial.to.items ++ written_each (written_entry (written (form_of l.inner))) l.items;
}
