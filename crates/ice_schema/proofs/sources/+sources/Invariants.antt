use Rattle.std.proofs.Common.{◌≡◌, drop}
use Rattle.ice_schema.specs.Sources.{type_in}
use Rattle.ice_schema.proofs.sources.+sources.Given as goal

abbrev pub invariant-find_in_columns-loop-column : goal.invariant-find_in_columns-loop-column
invariant-find_in_columns-loop-column l = type_in l.id (drop l.column-index l.columns) ≡ type_in l.id l.columns
