-- What a statement is for this program: its work, or the name for which it is refused.
use Rattle.std.specs.Prelude.{ℕ, List, Result, Ok, Err}
use Rattle.call_text.specs.declared.call.Call.{Call}
use Rattle.call_arguments.specs.Table.{procedure_name}
use Rattle.call_syntax.specs.Commands.{typed_as, procedure_of}
use Rattle.call_syntax.specs.declared.command.Command.{Command}
use Rattle.call_syntax.specs.declared.command.Command.TheVariants as commands
use Rattle.call_syntax.specs.declared.command.Target.{Target}
use Rattle.call_syntax.specs.declared.command.Target.TheVariants.{Id, Ref}
use Rattle.run_refs.specs.declared.goal.Goal.{Goal}
use Rattle.run_refs.specs.declared.goal.Goal.TheVariants.{Rollback, SetCurrent, SetCurrentTo, FastForward}
use Rattle.upkeep_top.specs.declared.task.Task.{Task}
use Rattle.upkeep_top.specs.declared.task.Work.TheVariants.{Move, List as Listing}

-- a snapshot, or the snapshot of a ref
abbrev pub target_goal : Target → Goal
target_goal (Id id) = SetCurrent id
target_goal (Ref name) = SetCurrentTo name

-- a command that is built, as the word with this number; another one is refused by its procedure's name
abbrev pub task_of : ℕ → Command → Result Task (List ℕ)
task_of word (commands.Rollback table id) = Ok (record { word = word; table = table; work = Move (Rollback id) })
task_of word (commands.SetCurrent table target) = Ok (record { word = word; table = table; work = Move (target_goal target) })
task_of word (commands.FastForward table branch to) = Ok (record { word = word; table = table; work = Move (FastForward branch to) })
task_of word (commands.Ancestors table id) = Ok (record { word = word; table = table; work = Listing id })
task_of word command = Err (procedure_name (procedure_of command))

-- the statement of a command, or the name for which the argument table refuses
abbrev pub task_by : ℕ → Result Command (List ℕ) → Result Task (List ℕ)
task_by word (Ok command) = task_of word command
task_by word (Err name) = Err name

-- the argument table types the statement or refuses a name, and then the program takes it or refuses its procedure
abbrev pub asked_as : ℕ → Call → Result Task (List ℕ)
asked_as word call = task_by word (typed_as call)
