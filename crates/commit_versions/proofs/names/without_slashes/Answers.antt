use Rattle.std.proofs.Common.{arith}
use Rattle.commit_versions.proofs.SlashLaws.{slash_taken, no_slash, nothing_left}
use Rattle.commit_versions.proofs.names.without_slashes.Goals as goal
use Rattle.commit_versions.proofs.names.without_slashes.Goals.{then-loop-end-test+else-text-end-eq47, else-loop-end-test}

pub loop-end-preserved : goal.loop-end-preserved
loop-end-preserved c = record {
  within = omega arith;
  same = slash_taken c.args.text.now c.loop-end.end (omega arith) c.loop-end.invariant.within _ (omega arith) c.loop-end.invariant.same;
}

pub returns : goal.returns
returns c = elim c.loop-end-test.branch [
  | then-loop-end-test+else-text-end-eq47 w ↦ no_slash c.args.text.now c.loop-end.end (omega arith) c.loop-end.invariant.within _ w.if-text-end-eq47.false c.loop-end.invariant.same
  | else-loop-end-test w ↦ nothing_left c.args.text.now c.loop-end.end _ w.loop-end-test.false c.loop-end.invariant.same
]
