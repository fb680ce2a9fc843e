use Rattle.std.proofs.Common.{◌≡◌}
use Rattle.serde_json.specs.Find.{get_member}
use Rattle.serde_json.specs.View.{members_view}
use Rattle.run_refs.proofs.look.has_member.Given as goal

abbrev pub invariant-loop-key : goal.invariant-loop-key
invariant-loop-key l = get_member l.name (members_view l.key-iterator) ≡ get_member l.name (members_view l.members.entries)
