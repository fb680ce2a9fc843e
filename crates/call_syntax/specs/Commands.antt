-- Which command a statement stands for, after the page "Spark Procedures" of Apache Iceberg.
use Rattle.std.specs.Prelude.{◌≡◌, ℕ, false, List, Option, Some, None, Result, Ok, Err}
use Rattle.ice_store.specs.Places.{Parts}
use Rattle.call_text.specs.declared.call.Arg.{Arg}
use Rattle.call_text.specs.declared.call.ArgValue.{ArgValue}
use Rattle.call_text.specs.declared.call.Call.{Call}
use Rattle.call_arguments.specs.declared.procedure.Procedure.{Procedure}
use Rattle.call_arguments.specs.declared.procedure.Procedure.TheVariants as procedures
use Rattle.call_arguments.specs.declared.table.ArgName.{ArgName}
use Rattle.call_arguments.specs.declared.table.ArgName.TheVariants as names
use Rattle.call_arguments.specs.Table.{procedure_named}
use Rattle.call_arguments.specs.Check.{value_of, bad_argument}
use Rattle.call_syntax.specs.declared.command.Command.{Command}
use Rattle.call_syntax.specs.declared.command.Command.TheVariants.{Rollback, SetCurrent, FastForward, Ancestors, Expire, RemoveOrphans, RewriteData, RewriteManifests, RewriteDeletes, Relocate, Generate}
use Rattle.call_syntax.specs.declared.command.Target.{Target}
use Rattle.call_syntax.specs.declared.command.Target.TheVariants.{Id, Ref}
use Rattle.call_syntax.specs.declared.typing.ArgErr.{ArgErr}
use Rattle.call_syntax.specs.declared.typing.ArgErr.TheVariants.{Bad, Memory}
use Rattle.call_syntax.specs.Values.{place_value, needed_place, text_value, needed_text, long_value, needed_long, int_value, count_value, needed_count, flag_value, moment_value, ids_value, pairs_value, option_values}

-- `rollback_to_snapshot`
unfoldable pub rollback : List Arg → Command
rollback args = let at : ArgName → Option ArgValue = value_of procedures.RollbackToSnapshot args in Rollback (needed_place (at names.Table)) (needed_long (at names.SnapshotId))

-- the ref where one is given, and else the snapshot with the id
abbrev pub target_by : Option (List ℕ) → Option ArgValue → Target
target_by (Some name) id = Ref name
target_by None id = Id (needed_long id)

-- the target of a statement that has a snapshot's id or a ref's name
abbrev pub target_of : Option ArgValue → Option ArgValue → Target
target_of id name = target_by (text_value name) id

-- `set_current_snapshot`
unfoldable pub set_current : List Arg → Command
set_current args = let at : ArgName → Option ArgValue = value_of procedures.SetCurrentSnapshot args in SetCurrent (needed_place (at names.Table)) (target_of (at names.SnapshotId) (at names.Ref))

-- `fast_forward`
unfoldable pub fast_forward : List Arg → Command
fast_forward args = let at : ArgName → Option ArgValue = value_of procedures.FastForward args in FastForward (needed_place (at names.Table)) (needed_text (at names.Branch)) (needed_text (at names.To))

-- `ancestors_of`
unfoldable pub ancestors : List Arg → Command
ancestors args = let at : ArgName → Option ArgValue = value_of procedures.AncestorsOf args in Ancestors (needed_place (at names.Table)) (long_value (at names.SnapshotId))

-- `expire_snapshots`
unfoldable pub expire : List Arg → Command
expire args = let at : ArgName → Option ArgValue = value_of procedures.ExpireSnapshots args in Expire (needed_place (at names.Table)) (moment_value (at names.OlderThan)) (count_value (at names.RetainLast)) (ids_value (at names.SnapshotIds))

-- `remove_orphan_files`
unfoldable pub remove_orphans : List Arg → Command
remove_orphans args = let at : ArgName → Option ArgValue = value_of procedures.RemoveOrphanFiles args in RemoveOrphans (needed_place (at names.Table)) (moment_value (at names.OlderThan)) (place_value (at names.Location)) (flag_value (at names.DryRun))

-- `rewrite_data_files`, so far without a sort and a filter
unfoldable pub rewrite_data : List Arg → Command
rewrite_data args = let at : ArgName → Option ArgValue = value_of procedures.RewriteDataFiles args in RewriteData (needed_place (at names.Table)) false None (option_values (pairs_value (at names.Options))) None

-- `rewrite_manifests`; `use_caching` changes nothing
unfoldable pub rewrite_manifests : List Arg → Command
rewrite_manifests args = let at : ArgName → Option ArgValue = value_of procedures.RewriteManifests args in RewriteManifests (needed_place (at names.Table)) (int_value (at names.SpecId))

-- `rewrite_position_delete_files`, so far without a filter
unfoldable pub rewrite_deletes : List Arg → Command
rewrite_deletes args = let at : ArgName → Option ArgValue = value_of procedures.RewritePositionDeleteFiles args in RewriteDeletes (needed_place (at names.Table)) (option_values (pairs_value (at names.Options))) None

-- `rewrite_table_path`, so far without a first and a last version
unfoldable pub relocate : List Arg → Command
relocate args = let at : ArgName → Option ArgValue = value_of procedures.RewriteTablePath args in Relocate (needed_place (at names.Table)) (needed_place (at names.SourcePrefix)) (needed_place (at names.TargetPrefix)) None None (place_value (at names.StagingLocation))

-- `generate`, this project's own
unfoldable pub generate : List Arg → Command
generate args = let at : ArgName → Option ArgValue = value_of procedures.Generate args in Generate (needed_place (at names.Table)) (needed_count (at names.Number)) (needed_count (at names.Rows))

-- the command of a procedure with these arguments
abbrev pub command_of : Procedure → List Arg → Command
command_of procedures.RollbackToSnapshot args = rollback args
command_of procedures.SetCurrentSnapshot args = set_current args
command_of procedures.FastForward args = fast_forward args
command_of procedures.AncestorsOf args = ancestors args
command_of procedures.ExpireSnapshots args = expire args
command_of procedures.RemoveOrphanFiles args = remove_orphans args
command_of procedures.RewriteDataFiles args = rewrite_data args
command_of procedures.RewriteManifests args = rewrite_manifests args
command_of procedures.RewritePositionDeleteFiles args = rewrite_deletes args
command_of procedures.RewriteTablePath args = relocate args
command_of procedures.Generate args = generate args

-- the command, or the name for which its arguments are refused
abbrev pub unless_refused : Option (List ℕ) → Command → Result Command (List ℕ)
unless_refused None command = Ok command
unless_refused (Some name) command = Err name

-- by the procedure that the statement names, if there is one
abbrev pub typed_by : Option Procedure → Call → Result Command (List ℕ)
typed_by None call = Err call.procedure
typed_by (Some p) call = unless_refused (bad_argument p call.args) (command_of p call.args)

-- the command that a statement stands for, or the name for which it is refused: of an unknown procedure, of the first wrong
-- argument, or of the first that lacks
abbrev pub typed_as : Call → Result Command (List ℕ)
typed_as call = typed_by (procedure_named call.procedure) call

-- a statement is refused with the name that is defined
abbrev pub IsRefusal : Result Command (List ℕ) → ArgErr → Type 0
IsRefusal defined (Bad name) = defined ≡ Err name
IsRefusal defined Memory = Unit {0}

-- the procedure of a command
abbrev pub procedure_of : Command → Procedure
procedure_of (Rollback table id) = procedures.RollbackToSnapshot
procedure_of (SetCurrent table target) = procedures.SetCurrentSnapshot
procedure_of (FastForward table branch to) = procedures.FastForward
procedure_of (Ancestors table id) = procedures.AncestorsOf
procedure_of (Expire table older last ids) = procedures.ExpireSnapshots
procedure_of (RemoveOrphans table older location dry) = procedures.RemoveOrphanFiles
procedure_of (RewriteData table sort order options filter) = procedures.RewriteDataFiles
procedure_of (RewriteManifests table spec) = procedures.RewriteManifests
procedure_of (RewriteDeletes table options filter) = procedures.RewritePositionDeleteFiles
procedure_of (Relocate table source target start end staging) = procedures.RewriteTablePath
procedure_of (Generate table number rows) = procedures.Generate

-- the table of a command
abbrev pub table_of : Command → Parts
table_of (Rollback table id) = table
table_of (SetCurrent table target) = table
table_of (FastForward table branch to) = table
table_of (Ancestors table id) = table
table_of (Expire table older last ids) = table
table_of (RemoveOrphans table older location dry) = table
table_of (RewriteData table sort order options filter) = table
table_of (RewriteManifests table spec) = table
table_of (RewriteDeletes table options filter) = table
table_of (Relocate table source target start end staging) = table
table_of (Generate table number rows) = table
