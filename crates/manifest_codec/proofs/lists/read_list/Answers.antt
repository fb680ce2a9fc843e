use Rattle.std.proofs.Common.{◌∙◌}
use Rattle.std.proofs.lemmas.Result.{err_from_is_err_and}
use Rattle.manifest_columns.specs.Tables.{row_columns}
use Rattle.manifest_codec.specs.Schemas.{checked, file_at}
use Rattle.manifest_codec.proofs.Records.{not_opened}
use Rattle.manifest_codec.proofs.OfRows.{memory, refused, not_of_rows, given, no_list}
use Rattle.manifest_codec.proofs.lists.read_list.Goals as goal

pub returns-in_err-file-clause-exact : goal.returns-in_err-file-clause-exact
returns-in_err-file-clause-exact c =
    let r = err_from_is_err_and c.from_residual.result c.from_residual.ensures.1 in
    rw (r.1, r.2) (refused (file_at (checked row_columns) c.args.bytes.now) _ (not_opened (checked row_columns) c.args.bytes.now _ c.in_err-file.ensures))

pub returns-in_err-file-clause-none : goal.returns-in_err-file-clause-none
returns-in_err-file-clause-none c =
    let r = err_from_is_err_and c.from_residual.result c.from_residual.ensures.1 in
    rw (r.1, r.2) (no_list (file_at (checked row_columns) c.args.bytes.now) _ (refused (file_at (checked row_columns) c.args.bytes.now) _ (not_opened (checked row_columns) c.args.bytes.now _ c.in_err-file.ensures)))

pub returns-in_err-fields-clause-exact : goal.returns-in_err-fields-clause-exact
returns-in_err-fields-clause-exact c =
    let r = err_from_is_err_and c.from_residual-in_err-fields.result c.from_residual-in_err-fields.ensures.1 in
    rw (r.1, r.2) (not_of_rows _ c.args.bytes.now c.in_ok-file.file _ c.row_columns.ensures c.in_ok-file.ensures c.in_err-fields.ensures)

pub returns-in_err-fields-clause-none : goal.returns-in_err-fields-clause-none
returns-in_err-fields-clause-none c =
    let r = err_from_is_err_and c.from_residual-in_err-fields.result c.from_residual-in_err-fields.ensures.1 in
    rw (r.1, r.2) (no_list (file_at (checked row_columns) c.args.bytes.now) _ (not_of_rows _ c.args.bytes.now c.in_ok-file.file _ c.row_columns.ensures c.in_ok-file.ensures c.in_err-fields.ensures))

pub returns-in_err-slots-clause-exact : goal.returns-in_err-slots-clause-exact
returns-in_err-slots-clause-exact c =
    let r = err_from_is_err_and c.from_residual-in_err-slots.result c.from_residual-in_err-slots.ensures.1 in
    rw (r.1, r.2) (memory (file_at (checked row_columns) c.args.bytes.now))

pub returns-clause-exact : goal.returns-clause-exact
returns-clause-exact c =
    given _ c.args.bytes.now c.in_ok-file.file c.in_ok-fields.fields _ _ _ c.row_columns.ensures c.in_ok-file.ensures c.in_ok-fields.ensures (c.as_slice.ensures ∙ c.in_ok-slots.ensures.slots) c.first_place-place.ensures.is c.rows_from.ensures

pub returns-clause-none : goal.returns-clause-none
returns-clause-none c =
    no_list (file_at (checked row_columns) c.args.bytes.now) _
    (given _ c.args.bytes.now c.in_ok-file.file c.in_ok-fields.fields _ _ _ c.row_columns.ensures c.in_ok-file.ensures c.in_ok-fields.ensures (c.as_slice.ensures ∙ c.in_ok-slots.ensures.slots) c.first_place-place.ensures.is c.rows_from.ensures)
