-- The exit status where nothing was run.
use Rattle.std.specs.Prelude.{ℕ}
use Rattle.upkeep.specs.declared.Unstarted.{Unstarted}
use Rattle.upkeep.specs.declared.Unstarted.TheVariants.{Output, Memory, NotText, Random}

-- the exit status where nothing was run
abbrev pub unstarted_number : Unstarted → ℕ
unstarted_number Output = 7
unstarted_number Memory = 8
unstarted_number NotText = 10
unstarted_number Random = 11
