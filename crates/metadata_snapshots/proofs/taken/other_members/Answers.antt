use Rattle.std.proofs.Common.{ap, not, string_bytes, rules, ◌∙◌}
use Rattle.std.proofs.lemmas.Map.Made.{filter_same_pairs}
use Rattle.serde_json.specs.View.{members_view}
use Rattle.metadata_snapshots.specs.Sets.{has_key}
use Rattle.metadata_snapshots.proofs.SetLaws.{members-filter}
use Rattle.metadata_snapshots.proofs.taken.other_members.Goals as goal

pub returns : goal.returns
returns c = ap members_view (filter_same_pairs _ (λ e. not (has_key c.args.names.now (string_bytes e.0))) _ (λ k v b w f' t. search rules) _ _ c.retain.ensures.filtered) ∙ members-filter (has_key c.args.names.now) c.args.members.entries
