use Rattle.std.proofs.Common.{ap, map, not, rules, ◌∙◌}
use Rattle.std.proofs.lemmas.Fn.{filter_same}
use Rattle.serde_json.specs.View.{view}
use Rattle.metadata_snapshots.specs.Edits.{others}
use Rattle.metadata_snapshots.specs.Sets.{is_in}
use Rattle.metadata_snapshots.proofs.SetLaws.{view-filter}
use Rattle.metadata_snapshots.proofs.taken.others.Goals as goal

pub returns : goal.returns
unfolding others
returns c = ap (map view) (filter_same _ (λ v. not (is_in c.args.ids.now (view v))) _ (λ x b f' k. search rules) _ _ c.retain.ensures.filtered) ∙ view-filter (λ d. not (is_in c.args.ids.now d)) c.args.items.items
