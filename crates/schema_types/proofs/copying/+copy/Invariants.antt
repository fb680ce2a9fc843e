use Rattle.std.proofs.Common.{◌≡◌, take}
use Rattle.schema_types.proofs.copying.+copy.Given as goal

abbrev pub invariant-copy_columns-loop-column : goal.invariant-copy_columns-loop-column
invariant-copy_columns-loop-column l = l.copied ≡ take l.column-index l.columns
