use Rattle.std.proofs.Common.{◌≡◌, ◌++◌, List, sym, ap, subst, ◌∙◌}
use Rattle.avro_schema.specs.declared.schema.Schema.{Schema}
use Rattle.avro_schema.specs.Form.{form_of}
use Rattle.avro_datum.specs.declared.datum.Datum.{Datum}
use Rattle.avro_datum.specs.declared.datum.Datum.TheVariants.{Fields}
use Rattle.avro_datum.specs.Spelling.{Spells}
use Rattle.avro_datum.specs.Writing.{IsOf, written}
use Rattle.manifest_writing.specs.Lists.{list_schema, row_bytes}
use Rattle.manifest_writing.proofs.Loops.{on_ok}
use Rattle.manifest_writing.proofs.RowValues.{of_schema}
use Rattle.manifest_writing.proofs.lists.put_row.Goals as goal

pub encode-requires : goal.encode-requires
encode-requires c =
    subst (λ (s : Schema). IsOf (form_of s) (Fields c.in_ok-row_fields.field-0)) (sym c.requires.schema)
    (subst (λ (ds : List Datum). IsOf (form_of list_schema) (Fields ds)) (sym c.in_ok-row_fields.ensures) (of_schema c.args.row.now c.requires.row c.ints_fit.ensures c.longs_fit.ensures))

pub returns-clause-puts : goal.returns-clause-puts
unfolding row_bytes
returns-clause-puts c = λ head objects rest h.
    c.count_object.ensures.counts head objects rest c.args.blocks.now.body.items (row_bytes c.args.row.now)
    (c.in_ok-encode.ensures.written
    ∙ ap (λ (s : Schema). c.args.blocks.now.body.items ++ written (form_of s) (Fields c.in_ok-row_fields.field-0)) c.requires.schema
    ∙ ap (λ (ds : List Datum). c.args.blocks.now.body.items ++ written (form_of list_schema) (Fields ds)) c.in_ok-row_fields.ensures) h

pub returns-clause-spelled : goal.returns-clause-spelled
unfolding row_bytes
returns-clause-spelled c =
    let fields = c.in_ok-row_fields.field-0 in
    let P : Schema → Type 0 = λ s. Spells (form_of s) (Fields fields) (written (form_of s) (Fields fields)) in
    let Q : List Datum → Type 0 = λ ds. Spells (form_of list_schema) (Fields ds) (written (form_of list_schema) (Fields ds)) in
    on_ok c.count_object.result (subst Q c.in_ok-row_fields.ensures (subst P c.requires.schema c.in_ok-encode.ensures.spells))
