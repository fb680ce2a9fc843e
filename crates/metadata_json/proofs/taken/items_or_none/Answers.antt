use Rattle.std.proofs.Common.{Some, map, ap, sym, ◌∙◌}
use Rattle.serde_json.specs.Data.{Data}
use Rattle.serde_json.specs.View.{view}
use Rattle.serde_json.proofs.Views.{view-Array}
use Rattle.metadata_json.specs.Fields.{items_in}
use Rattle.metadata_json.proofs.Trees.{list_of-items_of}
use Rattle.metadata_json.proofs.taken.items_or_none.Goals as goal

pub returns-in-Array : goal.returns-in-Array
returns-in-Array c =
    sym (list_of-items_of (map view c.in-Array.items.items)) ∙ ap (λ (d : Data). items_in (Some d)) (sym (view-Array c.in-Array.items)) ∙ ap (λ v. items_in (Some (view v))) (sym c.in-Array.is)
