use Rattle.std.proofs.Common.{◌≡◌, ◌+◌, ◌≤◌, drop, nat_eq, slice_range, false}
use Rattle.std.specs.List.{list_any}
use Rattle.ice_store.specs.Places.{parts_from, below}
use Rattle.ice_store.proofs.place.add_parts.Given as goal

abbrev pub invariant-loop-i : goal.invariant-loop-i
invariant-loop-i l = record {
  behind : l.start ≤ l.i;
  clear : list_any (λ b. nat_eq b 47) (slice_range l.text l.start l.i) ≡ false;
  whole : below l.parts.items (parts_from (l.from + l.start) (drop l.start l.text)) ≡ below l.initial.parts.items (parts_from l.from l.text);
}
