use Rattle.std.proofs.Common.{◌≡◌, ◌<◌, take, length, slice_get}
use Rattle.std.specs.Option.{IsSomeAnd}
use Rattle.commit_history.specs.Versions.{number_in}
use Rattle.commit_history.specs.Listings.{greatest}
use Rattle.commit_versions.specs.Opening.{version_limit}
use Rattle.commit_versions.proofs.open.latest_of.Given as goal

abbrev pub invariant-loop-i : goal.invariant-loop-i
invariant-loop-i l = record {
  greatest_is : l.best.version ≡ greatest (number_in l.table) (take l.i l.listed);
  below : l.best.version < version_limit;
  placed : 0 < l.best.version → (l.best.index < length l.listed) × IsSomeAnd (slice_get l.listed l.best.index) (λ e. number_in l.table e.place ≡ l.best.version);
}
