use Rattle.std.proofs.Common.{Some, option_map, map, sym, ap, ◌∙◌}
use Rattle.serde_json.specs.View.{view}
use Rattle.metadata_json.specs.Fields.{list_of}
use Rattle.metadata_json.proofs.Laws.{list_of-items_of}
use Rattle.metadata_form.proofs.form.items_of.Goals as goal

pub returns-in-Some : goal.returns-in-Some
returns-in-Some c = ap (λ vs. Some (map view vs)) c.as_slice.ensures.value ∙ ap Some (sym (list_of-items_of (map view c.in-Some.items.now.items))) ∙ ap (option_map list_of) c.in-Some.ensures
