use Rattle.std.proofs.Common.{◌≡◌, ◌++◌, take}
use Rattle.std.specs.List.{flat_map}
use Rattle.call_text.specs.Writing.{arg_text}
use Rattle.call_text.proofs.write.push_args_behind.Given as goal

abbrev pub invariant-loop-arg : goal.invariant-loop-arg
invariant-loop-arg l = l.out.items ≡ l.fn.out.items ++ flat_map arg_text (take l.arg-index l.args)
