use Rattle.std.proofs.lemmas.Result.{err_from_is_err_and}
use Rattle.manifest_codec.specs.Manifests.{checked_entry}
use Rattle.manifest_codec.specs.Schemas.{file_at}
use Rattle.manifest_codec.proofs.Records.{not_opened, not_checked, opened}
use Rattle.manifest_codec.proofs.OfEntries.{memory, refused, not_read, read, no_manifest}
use Rattle.manifest_codec.proofs.manifests.read_manifest.Goals as goal

pub returns-in_err-file-clause-exact : goal.returns-in_err-file-clause-exact
returns-in_err-file-clause-exact c =
    let ps = c.args.part.now.fields in
    let r = err_from_is_err_and c.from_residual.result c.from_residual.ensures.1 in
    rw (r.1, r.2) (refused ps (file_at (checked_entry ps) c.args.bytes.now) _ (not_opened (checked_entry ps) c.args.bytes.now _ c.in_err-file.ensures))

pub returns-in_err-file-clause-none : goal.returns-in_err-file-clause-none
returns-in_err-file-clause-none c =
    let ps = c.args.part.now.fields in
    let r = err_from_is_err_and c.from_residual.result c.from_residual.ensures.1 in
    rw (r.1, r.2) (no_manifest ps (file_at (checked_entry ps) c.args.bytes.now) _ (refused ps (file_at (checked_entry ps) c.args.bytes.now) _ (not_opened (checked_entry ps) c.args.bytes.now _ c.in_err-file.ensures)))

pub returns-in_err-fields-clause-exact : goal.returns-in_err-fields-clause-exact
returns-in_err-fields-clause-exact c =
    let ps = c.args.part.now.fields in
    let r = err_from_is_err_and c.from_residual-in_err-fields.result c.from_residual-in_err-fields.ensures.1 in
    rw (r.1, r.2) (refused ps (file_at (checked_entry ps) c.args.bytes.now) _ (not_checked (checked_entry ps) c.args.bytes.now c.in_ok-file.file _ c.in_ok-file.ensures c.in_err-fields.ensures))

pub returns-in_err-fields-clause-none : goal.returns-in_err-fields-clause-none
returns-in_err-fields-clause-none c =
    let ps = c.args.part.now.fields in
    let r = err_from_is_err_and c.from_residual-in_err-fields.result c.from_residual-in_err-fields.ensures.1 in
    rw (r.1, r.2) (no_manifest ps (file_at (checked_entry ps) c.args.bytes.now) _
    (refused ps (file_at (checked_entry ps) c.args.bytes.now) _ (not_checked (checked_entry ps) c.args.bytes.now c.in_ok-file.file _ c.in_ok-file.ensures c.in_err-fields.ensures)))

pub returns-in_err-slots-clause-exact : goal.returns-in_err-slots-clause-exact
returns-in_err-slots-clause-exact c =
    let ps = c.args.part.now.fields in
    let r = err_from_is_err_and c.from_residual-in_err-slots.result c.from_residual-in_err-slots.ensures.1 in
    rw (r.1, r.2) (memory ps (file_at (checked_entry ps) c.args.bytes.now))

pub returns-in_err-entries-clause-exact : goal.returns-in_err-entries-clause-exact
returns-in_err-entries-clause-exact c =
    let ps = c.args.part.now.fields in
    let bytes = c.args.bytes.now in
    let r = err_from_is_err_and c.from_residual-in_err-entries.result c.from_residual-in_err-entries.ensures.1 in
    rw (r.1, r.2) (
    not_read ps (file_at (checked_entry ps) bytes) c.in_ok-fields.fields.now c.in_ok-file.file.header.meta _ _ _
    (opened (checked_entry ps) bytes c.in_ok-file.file c.in_ok-fields.fields.now _ c.in_ok-file.ensures c.in_ok-fields.ensures c.first_place-place.ensures.is)
    c.in_ok-slots.ensures.slots c.in_err-entries.ensures
    )

pub returns-in_err-entries-clause-none : goal.returns-in_err-entries-clause-none
returns-in_err-entries-clause-none c =
    let ps = c.args.part.now.fields in
    let bytes = c.args.bytes.now in
    let r = err_from_is_err_and c.from_residual-in_err-entries.result c.from_residual-in_err-entries.ensures.1 in
    rw (r.1, r.2) (no_manifest ps (file_at (checked_entry ps) bytes) _ (
    not_read ps (file_at (checked_entry ps) bytes) c.in_ok-fields.fields.now c.in_ok-file.file.header.meta _ _ _
    (opened (checked_entry ps) bytes c.in_ok-file.file c.in_ok-fields.fields.now _ c.in_ok-file.ensures c.in_ok-fields.ensures c.first_place-place.ensures.is)
    c.in_ok-slots.ensures.slots c.in_err-entries.ensures
    ))

pub returns-in_err-manifest-clause-exact : goal.returns-in_err-manifest-clause-exact
returns-in_err-manifest-clause-exact c =
    let ps = c.args.part.now.fields in
    let r = err_from_is_err_and c.from_residual-in_err-manifest.result c.from_residual-in_err-manifest.ensures.1 in
    rw (r.1, r.2) (memory ps (file_at (checked_entry ps) c.args.bytes.now))

pub returns-clause-exact : goal.returns-clause-exact
returns-clause-exact c =
    let ps = c.args.part.now.fields in
    let bytes = c.args.bytes.now in
    read ps (file_at (checked_entry ps) bytes) c.in_ok-fields.fields.now c.in_ok-file.file.header.meta _ _ _ _
    (opened (checked_entry ps) bytes c.in_ok-file.file c.in_ok-fields.fields.now _ c.in_ok-file.ensures c.in_ok-fields.ensures c.first_place-place.ensures.is)
    c.in_ok-slots.ensures.slots c.in_ok-entries.ensures c.in_ok-manifest.ensures.entries c.in_ok-manifest.ensures.keys
