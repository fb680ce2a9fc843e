use Rattle.std.proofs.Common.{take}
use Rattle.ice_schema.specs.Partitions.{ArePartFields}
use Rattle.ice_schema.proofs.partitions.part_fields.Given as goal

abbrev pub invariant-loop-field : goal.invariant-loop-field
invariant-loop-field l = ArePartFields l.schemas (take l.field-index l.fields) l.typed
