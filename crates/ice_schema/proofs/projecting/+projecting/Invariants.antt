use Rattle.std.proofs.Common.{◌≡◌, map, drop}
use Rattle.ice_schema.specs.Projections.{each_source, column_source}
use Rattle.ice_schema.proofs.SourceLists.{behind}
use Rattle.ice_schema.proofs.projecting.+projecting.Given as goal

abbrev pub invariant-project_columns-loop-column : goal.invariant-project_columns-loop-column
invariant-project_columns-loop-column l = behind l.sources (each_source l.fields (map column_source (drop l.column-index l.columns))) ≡ each_source l.fields (map column_source l.columns)
