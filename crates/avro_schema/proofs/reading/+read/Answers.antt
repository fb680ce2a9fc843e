use Rattle.std.proofs.Common.{◌+◌, drop, ap, ◌∙◌, arith}
use Rattle.std.proofs.lemmas.Result.{err_from_is_err_and}
use Rattle.serde_json.specs.View.{view, items_view}
use Rattle.avro_schema.specs.declared.fault.SchemaCause.TheVariants.{TooDeep}
use Rattle.avro_schema.specs.Reading.{each, field_at, read}
use Rattle.avro_schema.proofs.Lists.{with_front, each-goes_on, each-fails, each-done, fault-fails, read-zero, read-level}
use Rattle.avro_schema.proofs.reading.+read.Goals as goal

pub read_type-returns-then-most-eq0 : goal.read_type-returns-then-most-eq0
read_type-returns-then-most-eq0 t c = fault-fails c.args.path.now TooDeep c.fault.result _ (read-zero c.args.most c.args.path.now (view c.args.tree.now) c.args.scope.now c.if-most-eq0.true) c.fault.ensures

pub read_type-returns : goal.read_type-returns
read_type-returns t c = rw (read-level c.args.most c.args.path.now (view c.args.tree.now) c.args.scope.now (omega arith)) c.read_level.ensures

pub read_fields-returns-in_err-read_field : goal.read_fields-returns-in_err-read_field
read_fields-returns-in_err-read_field t c =
    let p = err_from_is_err_and c.from_residual-in_err-read_field.result c.from_residual-in_err-read_field.ensures.1 in
    rw (p.1, p.2) (each-fails (field_at (read c.args.left)) c.args.path.now c.args.trees.now c.loop-index.index c.index-trees-index.result c.as_str.result.now c.loop-index.fields c.loop-index.scope c.in_err-read_field.field-0.0 _ (omega arith) c.index-trees-index.is (c.as_str.ensures.value ∙ c.in_ok-place.ensures) c.loop-index.invariant c.in_err-read_field.ensures)

pub read_fields-loop-index-preserved : goal.read_fields-loop-index-preserved
read_fields-loop-index-preserved t c =
    ap (λ fs. with_front fs (each (field_at (read c.args.left)) c.args.path.now (c.loop-index.index + 1) (items_view (drop (c.loop-index.index + 1) c.args.trees.now)) c.read_field.new.scope)) c.in_ok-push.ensures.ok
    ∙ each-goes_on (field_at (read c.args.left)) c.args.path.now c.args.trees.now c.loop-index.index c.index-trees-index.result c.as_str.result.now c.loop-index.fields c.loop-index.scope c.read_field.new.scope c.in_ok-read_field.field-0 _ (omega arith) c.index-trees-index.is (c.as_str.ensures.value ∙ c.in_ok-place.ensures) c.loop-index.invariant c.in_ok-read_field.ensures

pub read_fields-returns : goal.read_fields-returns
read_fields-returns t c = each-done (field_at (read c.args.left)) c.args.path.now c.args.trees.now c.loop-index.index c.loop-index.fields c.loop-index.scope _ (omega arith) c.loop-index.invariant

pub read_branches-returns-in_err-read_type : goal.read_branches-returns-in_err-read_type
read_branches-returns-in_err-read_type t c =
    let p = err_from_is_err_and c.from_residual-in_err-read_type.result c.from_residual-in_err-read_type.ensures.1 in
    rw (p.1, p.2) (each-fails (read c.args.left) c.args.path.now c.args.trees.now c.loop-index.index c.index-trees-index.result c.as_str.result.now c.loop-index.branches c.loop-index.scope c.in_err-read_type.field-0.0 _ (omega arith) c.index-trees-index.is (c.as_str.ensures.value ∙ c.in_ok-place.ensures) c.loop-index.invariant c.in_err-read_type.ensures)

pub read_branches-loop-index-preserved : goal.read_branches-loop-index-preserved
read_branches-loop-index-preserved t c =
    ap (λ bs. with_front bs (each (read c.args.left) c.args.path.now (c.loop-index.index + 1) (items_view (drop (c.loop-index.index + 1) c.args.trees.now)) c.read_type.new.scope)) c.in_ok-push.ensures.ok
    ∙ each-goes_on (read c.args.left) c.args.path.now c.args.trees.now c.loop-index.index c.index-trees-index.result c.as_str.result.now c.loop-index.branches c.loop-index.scope c.read_type.new.scope c.in_ok-read_type.field-0 _ (omega arith) c.index-trees-index.is (c.as_str.ensures.value ∙ c.in_ok-place.ensures) c.loop-index.invariant c.in_ok-read_type.ensures

pub read_branches-returns : goal.read_branches-returns
read_branches-returns t c = each-done (read c.args.left) c.args.path.now c.args.trees.now c.loop-index.index c.loop-index.branches c.loop-index.scope _ (omega arith) c.loop-index.invariant
