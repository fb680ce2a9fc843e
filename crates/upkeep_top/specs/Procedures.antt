-- The procedures that are built: the one place where a work's meaning is listed.
use Rattle.std.specs.Prelude.{ℕ}
use Rattle.commit_protocol.specs.Meanings.{Procedure}
use Rattle.run_refs.specs.Procedures.{move_procedure, list_procedure}
use Rattle.upkeep_top.specs.declared.task.Work.{Work}
use Rattle.upkeep_top.specs.declared.task.Work.TheVariants.{Move, List as Listing}

-- what a work means, at a moment
abbrev pub meaning_of : Work → ℕ → Procedure
meaning_of (Move goal) now = move_procedure goal now
meaning_of (Listing given) now = list_procedure given
