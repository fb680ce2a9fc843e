use Rattle.std.proofs.Common.{◌≡◌, drop}
use Rattle.serde_json.specs.View.{items_view, members_view}
use Rattle.metadata_form.specs.Float.{first_float_of_items, first_float_of_members}
use Rattle.metadata_form.proofs.float.+floats.Given as goal

abbrev pub invariant-first_float_of_items-loop-i : goal.invariant-first_float_of_items-loop-i
invariant-first_float_of_items-loop-i l = first_float_of_items 0 (items_view l.items) ≡ first_float_of_items l.i (items_view (drop l.i l.items))

abbrev pub invariant-first_float_of_members-loop-key : goal.invariant-first_float_of_members-loop-key
invariant-first_float_of_members-loop-key l = first_float_of_members (members_view l.members.entries) ≡ first_float_of_members (members_view l.key-iterator)
