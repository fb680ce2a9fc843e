use Rattle.std.proofs.Common.{◌≡◌, ◌++◌}
use Rattle.serde_json.specs.View.{members_view}
use Rattle.metadata_view.specs.View.{refs_in}
use Rattle.metadata_view.proofs.typed.refs_in.Given as goal

abbrev pub invariant-loop-name : goal.invariant-loop-name
invariant-loop-name l = l.found.items ++ refs_in (members_view l.name-iterator) ≡ refs_in (members_view l.members.entries)
