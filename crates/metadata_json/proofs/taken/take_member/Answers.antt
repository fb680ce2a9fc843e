use Rattle.std.proofs.Common.{◌≡◌, string_bytes, option_map, unwrap_or, ap, ◌∙◌, rules}
use Rattle.serde_json.specs.Data.{null, put}
use Rattle.serde_json.specs.Find.{get_member}
use Rattle.serde_json.specs.View.{view, members_view}
use Rattle.serde_json.specs.declared.value.Value.{Null}
use Rattle.serde_json.proofs.Views.{members_view-insert_entry, view-lookup}
use Rattle.metadata_json.proofs.Puts.{view-Null, view-or_null}
use Rattle.metadata_json.proofs.taken.take_member.Goals as goal

pub returns-clause-taken : goal.returns-clause-taken
returns-clause-taken c =
    let old = c.args.members.now.entries in
    let copied : string_bytes c.in_ok-name.name ≡ c.args.key.now = search rules in
    ap view c.unwrap_or.ensures ∙ view-or_null c.in_ok-old.old ∙ ap (λ o. unwrap_or o null) (ap (option_map view) c.in_ok-old.ensures.old ∙ view-lookup (string_bytes c.in_ok-name.name) old)
    ∙ ap (λ k. unwrap_or (get_member k (members_view old)) null) copied

pub returns-clause-left : goal.returns-clause-left
returns-clause-left c =
    let old = c.args.members.now.entries in
    let copied : string_bytes c.in_ok-name.name ≡ c.args.key.now = search rules in
    ap members_view c.in_ok-old.ensures.entries ∙ members_view-insert_entry old c.in_ok-name.name Null ∙ ap (λ k. put k (view Null) (members_view old)) copied ∙ ap (λ d. put c.args.key.now d (members_view old)) view-Null
