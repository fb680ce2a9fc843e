use Rattle.std.proofs.Common.{◌≡◌, drop, filter, None}
use Rattle.std.specs.Option.{option_copied}
use Rattle.ice_schema.specs.Sources.{has_column, greatest_from}
use Rattle.ice_schema.proofs.sources.source_type.Given as goal

abbrev pub invariant-loop-schema : goal.invariant-loop-schema
invariant-loop-schema l = greatest_from (option_copied l.best) (filter (has_column l.id) (drop l.schema-index l.schemas)) ≡ greatest_from None (filter (has_column l.id) l.schemas)
