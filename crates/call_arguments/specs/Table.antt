-- The argument table. Which arguments there are, their order and their forms is this project's own, after the page
-- "Spark Procedures" of Apache Iceberg, whose names they have.
use Rattle.std.specs.Prelude.{ℕ, Bool, true, false, List, [], ◌∷◌, map, find, slice_get, codes, Option, Some, None, option_and_then, if◌then◌else◌}
use Rattle.std.specs.Char.{to_ascii_lowercase}
use Rattle.std.specs.Str.{bytes_eq}
use Rattle.call_arguments.specs.declared.procedure.Procedure.{Procedure}
use Rattle.call_arguments.specs.declared.procedure.Procedure.TheVariants.{RollbackToSnapshot, SetCurrentSnapshot, FastForward, AncestorsOf, ExpireSnapshots, RemoveOrphanFiles, RewriteDataFiles, RewriteManifests, RewritePositionDeleteFiles, RewriteTablePath, Generate}
use Rattle.call_arguments.specs.declared.table.ArgName.{ArgName}
use Rattle.call_arguments.specs.declared.table.ArgName.TheVariants as names
use Rattle.call_arguments.specs.declared.table.Form.{Form}
use Rattle.call_arguments.specs.declared.table.Form.TheVariants as forms
use Rattle.call_arguments.specs.declared.table.Presence.{Presence}
use Rattle.call_arguments.specs.declared.table.Presence.TheVariants as presences
use Rattle.call_arguments.specs.declared.table.ArgLine.{ArgLine}
use Rattle.call_arguments.specs.declared.options.Rewrite.TheVariants as rewrites

-- ---- procedures

-- equal but for the case of ASCII letters
abbrev pub same_letters : List ℕ → List ℕ → Bool
same_letters a b = bytes_eq (map to_ascii_lowercase a) (map to_ascii_lowercase b)

-- how a procedure is spelled
unfoldable pub procedure_name : Procedure → List ℕ
procedure_name RollbackToSnapshot = codes "rollback_to_snapshot"
procedure_name SetCurrentSnapshot = codes "set_current_snapshot"
procedure_name FastForward = codes "fast_forward"
procedure_name AncestorsOf = codes "ancestors_of"
procedure_name ExpireSnapshots = codes "expire_snapshots"
procedure_name RemoveOrphanFiles = codes "remove_orphan_files"
procedure_name RewriteDataFiles = codes "rewrite_data_files"
procedure_name RewriteManifests = codes "rewrite_manifests"
procedure_name RewritePositionDeleteFiles = codes "rewrite_position_delete_files"
procedure_name RewriteTablePath = codes "rewrite_table_path"
procedure_name Generate = codes "generate"

-- all procedures
abbrev pub procedures : List Procedure
procedures =
    RollbackToSnapshot
    ∷ SetCurrentSnapshot
    ∷ FastForward
    ∷ AncestorsOf
    ∷ ExpireSnapshots
    ∷ RemoveOrphanFiles
    ∷ RewriteDataFiles
    ∷ RewriteManifests
    ∷ RewritePositionDeleteFiles
    ∷ RewriteTablePath
    ∷ Generate ∷ []

-- the procedure with this name, compared without regard to the case of ASCII letters
abbrev pub procedure_named : List ℕ → Option Procedure
procedure_named name = find (λ (p : Procedure). same_letters name (procedure_name p)) procedures

-- ---- arguments

-- how an argument is spelled
unfoldable pub argument_name : ArgName → List ℕ
argument_name names.Table = codes "table"
argument_name names.SnapshotId = codes "snapshot_id"
argument_name names.Ref = codes "ref"
argument_name names.Branch = codes "branch"
argument_name names.To = codes "to"
argument_name names.OlderThan = codes "older_than"
argument_name names.RetainLast = codes "retain_last"
argument_name names.SnapshotIds = codes "snapshot_ids"
argument_name names.Location = codes "location"
argument_name names.DryRun = codes "dry_run"
argument_name names.Strategy = codes "strategy"
argument_name names.SortOrder = codes "sort_order"
argument_name names.Options = codes "options"
argument_name names.Where = codes "where"
argument_name names.UseCaching = codes "use_caching"
argument_name names.SpecId = codes "spec_id"
argument_name names.SourcePrefix = codes "source_prefix"
argument_name names.TargetPrefix = codes "target_prefix"
argument_name names.StartVersion = codes "start_version"
argument_name names.EndVersion = codes "end_version"
argument_name names.StagingLocation = codes "staging_location"
argument_name names.Number = codes "number"
argument_name names.Rows = codes "rows"

-- a line: the argument's name, what its value must be, and whether it may be left out
abbrev pub line : ArgName → Form → Presence → ArgLine
line n f p = record { name = n; form = f; presence = p }

-- an argument that must stand
abbrev pub needed : ArgName → Form → ArgLine
needed n f = line n f presences.Required

-- one that may be left out
abbrev pub optional : ArgName → Form → ArgLine
optional n f = line n f presences.Optional

-- one that may be left out and is given by its name only
abbrev pub by_name : ArgName → Form → ArgLine
by_name n f = line n f presences.ByName

-- one that must stand where the other is left out
abbrev pub unless : ArgName → ArgName → Form → ArgLine
unless other n f = line n f (presences.Unless other)

-- one that may not stand where the other is given
abbrev pub without : ArgName → ArgName → Form → ArgLine
without other n f = line n f (presences.Without other)

-- the line of the table, which each procedure has first
abbrev pub table : ArgLine
table = needed names.Table forms.Place

-- The table itself: the arguments of each procedure in the order of their places (Iceberg, "Spark Procedures", the section
-- of the procedure's name; `generate` is this project's own).
unfoldable pub arguments_of : Procedure → List ArgLine
arguments_of RollbackToSnapshot = table ∷ needed names.SnapshotId forms.Long ∷ []
arguments_of SetCurrentSnapshot = table ∷ unless names.Ref names.SnapshotId forms.Long ∷ without names.SnapshotId names.Ref forms.Text ∷ []
arguments_of FastForward = table ∷ needed names.Branch forms.Text ∷ needed names.To forms.Text ∷ []
arguments_of AncestorsOf = table ∷ optional names.SnapshotId forms.Long ∷ []
arguments_of ExpireSnapshots = table ∷ optional names.OlderThan forms.Timestamp ∷ optional names.RetainLast forms.IntFrom1 ∷ by_name names.SnapshotIds forms.Longs ∷ []
arguments_of RemoveOrphanFiles = table ∷ optional names.OlderThan forms.Timestamp ∷ optional names.Location forms.PlaceUnderTable ∷ optional names.DryRun forms.Boolean ∷ []
arguments_of RewriteDataFiles = table ∷ optional names.Strategy forms.Strategy ∷ optional names.SortOrder forms.Later ∷ optional names.Options (forms.Options rewrites.Data) ∷ optional names.Where forms.Later ∷ []
arguments_of RewriteManifests = table ∷ optional names.UseCaching forms.Boolean ∷ optional names.SpecId forms.Int ∷ []
arguments_of RewritePositionDeleteFiles = table ∷ optional names.Options (forms.Options rewrites.Deletes) ∷ optional names.Where forms.Later ∷ []
arguments_of RewriteTablePath = table ∷ needed names.SourcePrefix forms.Place ∷ needed names.TargetPrefix forms.Place ∷ optional names.StartVersion forms.Later ∷ optional names.EndVersion forms.Later ∷ optional names.StagingLocation forms.Place ∷ []
arguments_of Generate = table ∷ needed names.Number forms.LongFrom0 ∷ needed names.Rows forms.RowCount ∷ []

-- the same argument
abbrev pub same_argument : ArgName → ArgName → Bool
same_argument a b = bytes_eq (argument_name a) (argument_name b)

-- it is given by its name only
abbrev pub is_by_name : Presence → Bool
is_by_name presences.ByName = true
is_by_name _ = false

-- the line that an argument goes by: the one of its name, compared without regard to the case of ASCII letters, or where
-- it has no name the one of its place, counted from 0
abbrev pub line_for : Procedure → ℕ → Option (List ℕ) → Option ArgLine
line_for p place (Some n) = find (λ (l : ArgLine). same_letters n (argument_name l.name)) (arguments_of p)
line_for p place None = option_and_then (λ (l : ArgLine). if is_by_name l.presence then None else Some l) (slice_get (arguments_of p) place)
