use Rattle.std.proofs.Common.{◌+◌, drop, ap, ◌∙◌, arith}
use Rattle.std.proofs.lemmas.Result.{err_from_is_err_and}
use Rattle.serde_json.specs.View.{view, items_view}
use Rattle.schema_trees.specs.Reading.{each}
use Rattle.schema_trees.specs.TypeReading.{column_at, read}
use Rattle.schema_trees.proofs.Lists.{with_front, each-goes_on, each-fails, each-done}
use Rattle.schema_trees.proofs.TypeLevels.{fault-fails, read-zero, read-level}
use Rattle.schema_trees.proofs.schema_reading.+read.Goals as goal

pub read_type-returns-then-most-eq0 : goal.read_type-returns-then-most-eq0
read_type-returns-then-most-eq0 t c = fault-fails c.args.path.now c.fault.result _ (read-zero c.args.most c.args.path.now (view c.args.tree.now) c.args.seen.now c.if-most-eq0.true) c.fault.ensures

pub read_type-returns : goal.read_type-returns
read_type-returns t c = rw (read-level c.args.most c.args.path.now (view c.args.tree.now) c.args.seen.now (omega arith)) c.read_level.ensures

pub read_columns-returns-in_err-read_column : goal.read_columns-returns-in_err-read_column
read_columns-returns-in_err-read_column t c =
    let p = err_from_is_err_and c.from_residual-in_err-read_column.result c.from_residual-in_err-read_column.ensures.1 in
    rw (p.1, p.2) (each-fails (column_at (read c.args.left)) c.args.path.now c.args.trees.now c.loop-index.index c.index-trees-index.result c.as_str.result.now c.loop-index.columns c.loop-index.seen c.in_err-read_column.field-0.0 _ (omega arith) c.index-trees-index.is (c.as_str.ensures.value ∙ c.in_ok-place.ensures) c.loop-index.invariant c.in_err-read_column.ensures)

pub read_columns-loop-index-preserved : goal.read_columns-loop-index-preserved
read_columns-loop-index-preserved t c =
    ap (λ cs. with_front cs (each (column_at (read c.args.left)) c.args.path.now (c.loop-index.index + 1) (items_view (drop (c.loop-index.index + 1) c.args.trees.now)) c.read_column.new.seen)) c.in_ok-push.ensures.ok
    ∙ each-goes_on (column_at (read c.args.left)) c.args.path.now c.args.trees.now c.loop-index.index c.index-trees-index.result c.as_str.result.now c.loop-index.columns c.loop-index.seen c.read_column.new.seen c.in_ok-read_column.field-0 _ (omega arith) c.index-trees-index.is (c.as_str.ensures.value ∙ c.in_ok-place.ensures) c.loop-index.invariant c.in_ok-read_column.ensures

pub read_columns-returns : goal.read_columns-returns
read_columns-returns t c = each-done (column_at (read c.args.left)) c.args.path.now c.args.trees.now c.loop-index.index c.loop-index.columns c.loop-index.seen _ (omega arith) c.loop-index.invariant
