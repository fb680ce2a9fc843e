use Rattle.std.proofs.Common.{◌+◌, drop, ap, ◌∙◌, arith}
use Rattle.std.proofs.lemmas.Result.{err_from_is_err_and}
use Rattle.serde_json.specs.View.{items_view}
use Rattle.schema_trees.specs.Reading.{each, field_at}
use Rattle.schema_trees.proofs.Lists.{with_front, each-goes_on, each-fails, each-done}
use Rattle.schema_trees.proofs.spec_reading.read_fields.Goals as goal

pub returns-in_err-read_field : goal.returns-in_err-read_field
returns-in_err-read_field c =
    let p = err_from_is_err_and c.from_residual-in_err-read_field.result c.from_residual-in_err-read_field.ensures.1 in
    rw (p.1, p.2) (each-fails field_at c.args.path.now c.args.trees.now c.loop-index.index c.index-trees-index.result c.as_str.result.now c.loop-index.fields c.loop-index.seen c.in_err-read_field.field-0.0 _ (omega arith) c.index-trees-index.is (c.as_str.ensures.value ∙ c.in_ok-place.ensures) c.loop-index.invariant c.in_err-read_field.ensures)

pub loop-index-preserved : goal.loop-index-preserved
loop-index-preserved c =
    ap (λ fs. with_front fs (each field_at c.args.path.now (c.loop-index.index + 1) (items_view (drop (c.loop-index.index + 1) c.args.trees.now)) c.read_field.new.seen)) c.in_ok-push.ensures.ok
    ∙ each-goes_on field_at c.args.path.now c.args.trees.now c.loop-index.index c.index-trees-index.result c.as_str.result.now c.loop-index.fields c.loop-index.seen c.read_field.new.seen c.in_ok-read_field.field-0 _ (omega arith) c.index-trees-index.is (c.as_str.ensures.value ∙ c.in_ok-place.ensures) c.loop-index.invariant c.in_ok-read_field.ensures

pub returns : goal.returns
returns c = each-done field_at c.args.path.now c.args.trees.now c.loop-index.index c.loop-index.fields c.loop-index.seen _ (omega arith) c.loop-index.invariant
