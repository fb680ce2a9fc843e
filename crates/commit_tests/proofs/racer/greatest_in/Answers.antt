use Rattle.std.proofs.Common.{arith}
use Rattle.commit_history.specs.Versions.{number_in}
use Rattle.commit_versions.proofs.LatestLaws.{one_more}
use Rattle.commit_tests.proofs.racer.greatest_in.Goals as goal

pub loop-i-preserved : goal.loop-i-preserved
loop-i-preserved c =
    let more = one_more (number_in c.args.table.now) c.args.listed.now c.loop-i.i c.index-listed-i.result c.loop-i-test.true in
    omega (arith, more, c.loop-i.invariant, c.greater-last.ensures, c.in_ok-version_number.ensures)
