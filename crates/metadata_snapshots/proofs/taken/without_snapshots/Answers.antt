use Rattle.std.proofs.Common.{◌≡◌, codes, ap, ◌∙◌}
use Rattle.std.proofs.Math.Path.{fun_ext}
use Rattle.std.proofs.lemmas.Result.{IfOk-weaker}
use Rattle.serde_json.specs.View.{view}
use Rattle.metadata_json.specs.Fields.{signed_at}
use Rattle.metadata_snapshots.specs.Edits.{is_of, has_name, without_these, without_snapshots}
use Rattle.metadata_snapshots.specs.Sets.{is_in, has_key}
use Rattle.metadata_snapshots.proofs.taken.without_snapshots.Goals as goal

pub returns : goal.returns
unfolding without_snapshots
returns c =
    let d = view c.args.tree in
    let names = c.in_ok-names.names in
    let ids : is_in c.in_ok-ids.ids ≡ is_of c.args.ids.now = fun_ext (λ x. c.in_ok-ids.ensures (signed_at (codes "snapshot-id") x)) in
    let named : has_key names ≡ has_name c.args.names.now = fun_ext c.in_ok-names.ensures in
    IfOk-weaker c.without_these.result _ _ (λ v e. e ∙ ap (λ p. without_these p (has_key names) d) ids ∙ ap (λ g. without_these (is_of c.args.ids.now) g d) named) c.without_these.ensures
