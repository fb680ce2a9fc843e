use Rattle.std.proofs.Common.{◌≡◌, map, take}
use Rattle.ice_schema.specs.Mapping.{avro_field}
use Rattle.ice_schema.proofs.mapping.+mapping.Given as goal

abbrev pub invariant-avro_fields-loop-column : goal.invariant-avro_fields-loop-column
invariant-avro_fields-loop-column l = l.fields ≡ map avro_field (take l.column-index l.columns)
