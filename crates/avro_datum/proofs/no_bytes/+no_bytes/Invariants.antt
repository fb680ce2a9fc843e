use Rattle.std.proofs.Common.{◌≡◌, drop}
use Rattle.avro_datum.specs.NoBytes.{all_take_none}
use Rattle.avro_datum.proofs.Schemas.{forms}
use Rattle.avro_datum.proofs.no_bytes.+no_bytes.Given as goal

abbrev pub invariant-all_take_none-loop-field : goal.invariant-all_take_none-loop-field
invariant-all_take_none-loop-field l = all_take_none (forms (drop l.field-index l.fields)) ≡ all_take_none (forms l.fields)
