use Rattle.std.proofs.Common.{[], option_map, unwrap_or, map, sym, ap, ◌∙◌}
use Rattle.serde_json.specs.View.{view}
use Rattle.metadata_json.specs.Fields.{list_of}
use Rattle.metadata_json.proofs.Trees.{list_of-items_of}
use Rattle.metadata_json.proofs.fields.items.Goals as goal

pub returns-in-Some : goal.returns-in-Some
returns-in-Some c = ap (λ vs. map view vs) c.as_slice.ensures.value ∙ sym (list_of-items_of _) ∙ ap (λ o. unwrap_or (option_map list_of o) []) c.in-Some.ensures
