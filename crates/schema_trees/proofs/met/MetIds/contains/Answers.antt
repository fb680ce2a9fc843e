use Rattle.std.proofs.Common.{◌≡◌, ap, ◌∙◌, subst, w32}
use Rattle.std.proofs.lemmas.Int.{to_z-of_z}
use Rattle.schema_trees.specs.Ids.{is_seen}
use Rattle.schema_trees.proofs.met.MetIds.contains.Goals as goal

pub returns : goal.returns
unfolding is_seen
returns c =
    let asked = subst (λ id. c.contains.result ≡ is_seen id c.self.inside.ids.keys) (to_z-of_z w32 c.args.id c.ranges.id) c.contains.ensures in
    asked ∙ ap (is_seen c.args.id) c.self.view_is
