-- The options of the rewrites, in the map `options` (Iceberg, "Spark Procedures", `rewrite_data_files` and
-- `rewrite_position_delete_files`, "Options"). Which of them there are and their forms is this project's own.
use Rattle.std.specs.Prelude.{ℕ, Bool, true, false, not, ◌&&◌, List, [], ◌∷◌, ◌++◌, find, codes, Option, Some, None, is_some, nat_le, option_map, option_and_then, if◌then◌else◌}
use Rattle.std.specs.List.{list_any}
use Rattle.std.specs.Str.{bytes_eq}
use Rattle.ice_store.specs.Numbers.{natural_of}
use Rattle.call_arguments.specs.declared.options.Rewrite.{Rewrite}
use Rattle.call_arguments.specs.declared.options.Rewrite.TheVariants.{Data, Deletes}
use Rattle.call_arguments.specs.declared.options.OptionName.{OptionName}
use Rattle.call_arguments.specs.declared.options.OptionName.TheVariants.{TargetFileSizeBytes, MinFileSizeBytes, MaxFileSizeBytes, MinInputFiles, MaxFileGroupSizeBytes, RewriteAll, PartialProgressEnabled, PartialProgressMaxCommits, MaxConcurrentFileGroupRewrites, DeleteFileThreshold, UseStartingSequenceNumber, RemoveDanglingDeletes}
use Rattle.call_arguments.specs.declared.options.OptionForm.{OptionForm}
use Rattle.call_arguments.specs.declared.options.OptionForm.TheVariants.{From0, From1, Flag}
use Rattle.call_arguments.specs.declared.options.OptionLine.{OptionLine}

-- how an option is spelled
unfoldable pub option_name : OptionName → List ℕ
option_name TargetFileSizeBytes = codes "target-file-size-bytes"
option_name MinFileSizeBytes = codes "min-file-size-bytes"
option_name MaxFileSizeBytes = codes "max-file-size-bytes"
option_name MinInputFiles = codes "min-input-files"
option_name MaxFileGroupSizeBytes = codes "max-file-group-size-bytes"
option_name RewriteAll = codes "rewrite-all"
option_name PartialProgressEnabled = codes "partial-progress.enabled"
option_name PartialProgressMaxCommits = codes "partial-progress.max-commits"
option_name MaxConcurrentFileGroupRewrites = codes "max-concurrent-file-group-rewrites"
option_name DeleteFileThreshold = codes "delete-file-threshold"
option_name UseStartingSequenceNumber = codes "use-starting-sequence-number"
option_name RemoveDanglingDeletes = codes "remove-dangling-deletes"

-- a line: the option's name and the form of its text
abbrev pub option : OptionName → OptionForm → OptionLine
option n f = record { name = n; form = f }

-- the options of both rewrites, before those of one alone
abbrev pub common_and : List OptionLine → List OptionLine
common_and more =
    option TargetFileSizeBytes From1
    ∷ option MinFileSizeBytes From0
    ∷ option MaxFileSizeBytes From1
    ∷ option MinInputFiles From1
    ∷ option MaxFileGroupSizeBytes From1
    ∷ option RewriteAll Flag
    ∷ option PartialProgressEnabled Flag
    ∷ option PartialProgressMaxCommits From1
    ∷ option MaxConcurrentFileGroupRewrites From1 ∷ more

-- the table of options
unfoldable pub options_of : Rewrite → List OptionLine
options_of Data = common_and (option DeleteFileThreshold From1 ∷ option UseStartingSequenceNumber Flag ∷ option RemoveDanglingDeletes Flag ∷ [])
options_of Deletes = common_and []

-- the flag that a text is
abbrev pub flag_of : List ℕ → Option Bool
flag_of t = if bytes_eq t (codes "true") then Some true else (if bytes_eq t (codes "false") then Some false else None)

-- a number from 1 on
abbrev pub is_from_1 : Option ℕ → Bool
is_from_1 None = false
is_from_1 (Some n) = nat_le 1 n

-- the text is of the form
abbrev pub option_fits : OptionForm → List ℕ → Bool
option_fits From0 t = is_some (natural_of t)
option_fits From1 t = is_from_1 (natural_of t)
option_fits Flag t = is_some (flag_of t)

-- the line of an option, its name compared with regard to case
abbrev pub option_line : List OptionLine → List ℕ → Option OptionLine
option_line lines key = find (λ (l : OptionLine). bytes_eq key (option_name l.name)) lines

-- the option is known and the text is of its form
abbrev pub line_fits : Option OptionLine → List ℕ → Bool
line_fits None t = false
line_fits (Some l) t = option_fits l.form t

-- a pair is right where its option is known, no earlier pair has it, and its text is of its form
abbrev pub is_right_option : List OptionLine → List (List ℕ × List ℕ) → List ℕ × List ℕ → Bool
is_right_option lines earlier p = line_fits (option_line lines p.0) p.1 && not (list_any (λ (q : List ℕ × List ℕ). bytes_eq q.0 p.0) earlier)

-- the key of the first pair that isn't right, behind these earlier ones
abbrev pub first_bad_option : List OptionLine → List (List ℕ × List ℕ) → List (List ℕ × List ℕ) → Option (List ℕ)
first_bad_option lines earlier [] = None
first_bad_option lines earlier (p ∷ ps) = if is_right_option lines earlier p then first_bad_option lines (earlier ++ p ∷ []) ps else Some p.0

-- the text that an option is given as
abbrev pub option_value : List (List ℕ × List ℕ) → OptionName → Option (List ℕ)
option_value pairs name = option_map (λ (p : List ℕ × List ℕ). p.1) (find (λ (p : List ℕ × List ℕ). bytes_eq p.0 (option_name name)) pairs)

-- the number that an option is given as
abbrev pub number_option : List (List ℕ × List ℕ) → OptionName → Option ℕ
number_option pairs name = option_and_then natural_of (option_value pairs name)

-- the flag that an option is given as
abbrev pub flag_option : List (List ℕ × List ℕ) → OptionName → Option Bool
flag_option pairs name = option_and_then flag_of (option_value pairs name)
