use Rattle.std.proofs.Common.{◌≡◌}
use Rattle.serde_json.specs.View.{members_view}
use Rattle.metadata_view.specs.Links.{first_broken}
use Rattle.metadata_view.proofs.links.first_broken.Given as goal

abbrev pub invariant-loop-name : goal.invariant-loop-name
invariant-loop-name l = first_broken l.snapshots l.agrees (members_view l.refs.entries) ≡ first_broken l.snapshots l.agrees (members_view l.name-iterator)
