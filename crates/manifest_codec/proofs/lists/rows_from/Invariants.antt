use Rattle.manifest_codec.specs.Lists.{IsRowAt, IsBadRow}
use Rattle.manifest_codec.specs.Objects.{IsWithin, count_of, objects_from}
use Rattle.manifest_codec.proofs.Records.{GoesOn}
use Rattle.manifest_codec.proofs.lists.rows_from.Given as goal

abbrev pub invariant-loop-rows : goal.invariant-loop-rows
invariant-loop-rows l = record {
  within : IsWithin l.bytes l.place;
  goes_on : GoesOn (IsRowAt l.slots) (IsBadRow l.slots) (objects_from l.file l.bytes l.initial.place) l.rows (objects_from l.file l.bytes l.place);
}

abbrev pub decreases-loop-rows : goal.decreases-loop-rows
decreases-loop-rows l = count_of (objects_from l.file l.bytes l.place)
