use Rattle.std.proofs.Common.{◌≡◌, [], take, drop}
use Rattle.call_arguments.specs.Options.{first_bad_option}
use Rattle.call_arguments.proofs.options.first_bad_option.Given as goal

abbrev pub invariant-loop-i : goal.invariant-loop-i
invariant-loop-i l = first_bad_option l.lines (take l.i l.pairs) (drop l.i l.pairs) ≡ first_bad_option l.lines [] l.pairs
