use Rattle.std.proofs.Common.{◌≡◌}
use Rattle.manifest_codec.specs.Objects.{IsWithin, objects_from}
use Rattle.manifest_codec.proofs.objects.reach.Given as goal

abbrev pub invariant-loop-place : goal.invariant-loop-place
invariant-loop-place l = record {
  within : IsWithin l.bytes l.place;
  same : objects_from l.file l.bytes l.initial.place ≡ objects_from l.file l.bytes l.place;
}

abbrev pub decreases-loop-place : goal.decreases-loop-place
decreases-loop-place l = l.place.blocks
