use Rattle.std.proofs.Common.{sym, ap}
use Rattle.metadata_view.specs.Links.{first_broken}
use Rattle.metadata_view.proofs.links.broken_in.Goals as goal

pub returns-in-None : goal.returns-in-None
unfolding first_broken
returns-in-None c = sym (ap (first_broken c.args.snapshots.now c.args.agrees) c.in-None.ensures.none)
