use Rattle.manifest_codec.specs.Manifests.{IsEntryAt, IsBadEntry}
use Rattle.manifest_codec.specs.Objects.{IsWithin, count_of, objects_from}
use Rattle.manifest_codec.proofs.Records.{GoesOn}
use Rattle.manifest_codec.proofs.manifests.entries_from.Given as goal

abbrev pub invariant-loop-entries : goal.invariant-loop-entries
invariant-loop-entries l = record {
  within : IsWithin l.bytes l.place;
  goes_on : GoesOn (IsEntryAt l.slots) (IsBadEntry l.slots) (objects_from l.file l.bytes l.initial.place) l.entries (objects_from l.file l.bytes l.place);
}

abbrev pub decreases-loop-entries : goal.decreases-loop-entries
decreases-loop-entries l = count_of (objects_from l.file l.bytes l.place)
