use Rattle.std.proofs.Common.{◌≡◌, None}
use Rattle.serde_json.specs.View.{view}
use Rattle.metadata_view.specs.View.{current_of}
use Rattle.run_refs.proofs.ListingLaws.{lists_nothing}
use Rattle.run_refs.proofs.ancestors.list_ancestors.Goals as goal

pub returns-in-None-current : goal.returns-in-None-current
returns-in-None-current c =
    let given : c.args.id ≡ None = cc in
    let current : current_of (view c.args.meta.now) ≡ None = cc in
    lists_nothing c.args.id (view c.args.meta.now) c.empty.result given current c.empty.ensures
