-- The value of one argument, as a command has it. Each reader is total: it gives none, or a default, where the value isn't
-- of its form; which values are is said by the argument table alone.
use Rattle.std.specs.Prelude.{ℕ, ℤ, pos, Bool, true, false, List, [], map, Option, Some, None, Result, Ok, Err, unwrap_or}
use Rattle.ice_store.specs.Numbers.{largest_long}
use Rattle.ice_store.specs.Places.{Parts, place_in}
use Rattle.call_text.specs.declared.call.ArgValue.{ArgValue}
use Rattle.call_text.specs.declared.call.ArgValue.TheVariants as values
use Rattle.call_moments.specs.Moments.{moment_of}
use Rattle.call_arguments.specs.Numbers.{largest_int, long_of, int_of, count_of}
use Rattle.call_arguments.specs.Options.{number_option, flag_option}
use Rattle.call_arguments.specs.declared.options.OptionName.TheVariants.{TargetFileSizeBytes, MinFileSizeBytes, MaxFileSizeBytes, MinInputFiles, MaxFileGroupSizeBytes, RewriteAll, PartialProgressEnabled, PartialProgressMaxCommits, MaxConcurrentFileGroupRewrites, DeleteFileThreshold, UseStartingSequenceNumber, RemoveDanglingDeletes}
use Rattle.call_syntax.specs.declared.command.OptionValues.{OptionValues}

-- the place that was read, if one was
abbrev pub ok_part : Result Parts ℕ → Option Parts
ok_part (Ok place) = Some place
ok_part (Err at) = None

-- the place that a text names
abbrev pub place_of : List ℕ → Option Parts
place_of t = ok_part (place_in t)

-- the place that a string names
abbrev pub place_value : Option ArgValue → Option Parts
place_value (Some (values.Str t)) = place_of t
place_value _ = None

-- of an argument that must stand; else the root
abbrev pub needed_place : Option ArgValue → Parts
needed_place v = unwrap_or (place_value v) []

-- the content of a string
abbrev pub text_value : Option ArgValue → Option (List ℕ)
text_value (Some (values.Str t)) = Some t
text_value _ = None

-- of an argument that must stand; else the empty text
abbrev pub needed_text : Option ArgValue → List ℕ
needed_text v = unwrap_or (text_value v) []

-- a number from -2^63 to 2^63 - 1
abbrev pub long_value : Option ArgValue → Option ℤ
long_value (Some (values.Number n)) = long_of n
long_value _ = None

-- of an argument that must stand; else 0
abbrev pub needed_long : Option ArgValue → ℤ
needed_long v = unwrap_or (long_value v) (pos 0)

-- a number from -2^31 to 2^31 - 1
abbrev pub int_value : Option ArgValue → Option ℤ
int_value (Some (values.Number n)) = int_of n
int_value _ = None

-- a number from 0 on
abbrev pub count_value : Option ArgValue → Option ℕ
count_value (Some (values.Number n)) = count_of 0 largest_long n
count_value _ = None

-- of an argument that must stand; else 0
abbrev pub needed_count : Option ArgValue → ℕ
needed_count v = unwrap_or (count_value v) 0

-- left out, it is FALSE
abbrev pub flag_value : Option ArgValue → Bool
flag_value (Some (values.Bool b)) = b
flag_value _ = false

-- in milliseconds since the start of 1970
abbrev pub moment_value : Option ArgValue → Option ℕ
moment_value (Some (values.Moment t)) = moment_of t
moment_value _ = None

-- the number of a text, or 0 where it is none
abbrev pub long_or_zero : List ℕ → ℤ
long_or_zero n = unwrap_or (long_of n) (pos 0)

-- left out, it is the empty list
abbrev pub ids_value : Option ArgValue → List ℤ
ids_value (Some (values.Array ns)) = map long_or_zero ns
ids_value _ = []

-- left out, it is the empty map
abbrev pub pairs_value : Option ArgValue → List (List ℕ × List ℕ)
pairs_value (Some (values.Map ps)) = ps
pairs_value _ = []

-- the options in a map, with their defaults (Iceberg, "Spark Procedures", `rewrite_data_files`, "Options")
unfoldable pub option_values : List (List ℕ × List ℕ) → OptionValues
option_values pairs = record {
  target = number_option pairs TargetFileSizeBytes;
  min_size = number_option pairs MinFileSizeBytes;
  max_size = number_option pairs MaxFileSizeBytes;
  min_files = unwrap_or (number_option pairs MinInputFiles) 5;
  max_group = unwrap_or (number_option pairs MaxFileGroupSizeBytes) 107374182400;
  all = unwrap_or (flag_option pairs RewriteAll) false;
  partial = unwrap_or (flag_option pairs PartialProgressEnabled) false;
  max_commits = unwrap_or (number_option pairs PartialProgressMaxCommits) 10;
  concurrent = unwrap_or (number_option pairs MaxConcurrentFileGroupRewrites) 5;
  threshold = unwrap_or (number_option pairs DeleteFileThreshold) largest_int;
  keep_sequence = unwrap_or (flag_option pairs UseStartingSequenceNumber) true;
  dangling = unwrap_or (flag_option pairs RemoveDanglingDeletes) false;
}
