use Rattle.std.proofs.Common.{map, arith, ap, ◌∙◌}
use Rattle.std.proofs.lemmas.List.{take_all}
use Rattle.serde_json.specs.View.{view}
use Rattle.metadata_view.specs.View.{snapshot_of}
use Rattle.metadata_view.proofs.Lists.{map-view}
use Rattle.metadata_view.proofs.typed.snapshots.Goals as goal

pub returns : goal.returns
returns c =
    let all = take_all c.loop-item.item-index c.items-list.result.now (omega arith) in
    c.new.ensures ∙ c.loop-item.invariant ∙ ap (map (λ v. snapshot_of (view v))) all ∙ map-view snapshot_of c.items-list.result.now ∙ ap (map snapshot_of) c.items-list.ensures
