use Rattle.std.proofs.Common.{sym, ◌∙◌}
use Rattle.avro_datum.proofs.NoBytes.{fields_take_none, fields_take_some, no_fields, item_at}
use Rattle.avro_datum.proofs.no_bytes.+no_bytes.Goals as goal

pub all_take_none-returns-then-not-takes_none : goal.all_take_none-returns-then-not-takes_none
all_take_none-returns-then-not-takes_none t c =
    sym (fields_take_some c.args.fields.now c.loop-field.field-index c.field-item.result (item_at _ _ _ c.loop-field-test.true c.field-item.is) (sym c.takes_none.ensures ∙ c.if-not-takes_none.true)) ∙ c.loop-field.invariant

pub all_take_none-loop-field-preserved : goal.all_take_none-loop-field-preserved
all_take_none-loop-field-preserved t c =
    sym (fields_take_none c.args.fields.now c.loop-field.field-index c.field-item.result (item_at _ _ _ c.loop-field-test.true c.field-item.is) (sym c.takes_none.ensures ∙ c.if-not-takes_none.false)) ∙ c.loop-field.invariant

pub all_take_none-returns : goal.all_take_none-returns
all_take_none-returns t c = sym (no_fields c.args.fields.now c.loop-field.field-index c.loop-field-test.false) ∙ c.loop-field.invariant
