use Rattle.std.proofs.Common.{◌<◌, ℕ, List, map, drop, take}
use Rattle.std.specs.List.{AllByRecursion}
use Rattle.manifest_blocks.specs.Steps.{IsSoFar, open_in}
use Rattle.manifest_writing.specs.Laws.{IsSpelled}
use Rattle.manifest_writing.specs.Lists.{row_bytes}
use Rattle.manifest_writing.proofs.lists.put_rows.Given as goal

abbrev pub invariant-loop-row : goal.invariant-loop-row
invariant-loop-row l = record {
  so_far : (head : List ℕ) (objects : List (List ℕ)) → IsSoFar head l.sync objects l.initial.blocks.file.items (open_in l.initial.blocks) (map row_bytes l.rows)
      → IsSoFar head l.sync objects l.blocks.file.items (open_in l.blocks) (map row_bytes (drop l.row-index l.rows));
  room : l.blocks.count < 64000;
  spelled : AllByRecursion IsSpelled (take l.row-index l.rows);
}
