use Rattle.std.proofs.Common.{◌≡◌, ◌≤◌, length, take}
use Rattle.commit_versions.specs.Names.{unslashed}
use Rattle.commit_versions.proofs.names.without_slashes.Given as goal

abbrev pub invariant-loop-end : goal.invariant-loop-end
invariant-loop-end l = record {
  within : l.end ≤ length l.text;
  same : unslashed (take l.end l.text) ≡ unslashed l.text;
}

abbrev pub decreases-loop-end : goal.decreases-loop-end
decreases-loop-end l = l.end
