use Rattle.std.proofs.Common.{◌++◌, map, arith, ap, ◌∙◌}
use Rattle.std.proofs.lemmas.List.{take_all}
use Rattle.serde_json.specs.View.{view}
use Rattle.metadata_view.specs.View.{statistics_file_of}
use Rattle.metadata_view.proofs.Lists.{map-view}
use Rattle.metadata_view.proofs.typed.add_statistics.Goals as goal

pub returns : goal.returns
returns c =
    let all = take_all c.loop-item.item-index c.args.list.now (omega arith) in
    c.loop-item.invariant ∙ ap (λ vs. c.args.found.items ++ map (λ v. statistics_file_of (view v)) vs) all ∙ ap (λ xs. c.args.found.items ++ xs) (map-view statistics_file_of c.args.list.now)
