use Rattle.std.proofs.Common.{rules, ◌≡◌, ◌≤◌, ◌∙◌, arith, take_all}
use Rattle.std.proofs.Math.Numerals.{add-one}
use Rattle.manifest_rows.specs.Written.{row_fields}
use Rattle.manifest_cells.proofs.InOrder.{one_more}
use Rattle.manifest_rows.proofs.Order.{field_count}
use Rattle.manifest_rows.proofs.writing.row_fields.Goals as goal

pub loop-place-preserved : goal.loop-place-preserved
loop-place-preserved c = one_more (row_fields c.args.row.now) c.loop-place.place _ c.loop-place.items c.push.new.self _ (add-one _) c.loop-place.invariant c.in_ok-field_of.ensures c.in_ok-push.ensures.ok

pub returns : goal.returns
returns c = c.loop-place.invariant ∙ take_all c.loop-place.place (row_fields c.args.row.now) (omega (arith, field_count c.args.row.now, c.loop-place-test.false))
