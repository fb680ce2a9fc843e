-- Whether a value is of a form. NULL is of every form, since it counts as left out.
use Rattle.std.specs.Prelude.{ℕ, Bool, true, false, List, [], codes, Option, None, is_some, is_none, is_ok}
use Rattle.std.specs.List.{list_all}
use Rattle.std.specs.Str.{bytes_eq}
use Rattle.ice_store.specs.Numbers.{largest_long}
use Rattle.ice_store.specs.Places.{place_in}
use Rattle.call_moments.specs.Moments.{moment_of}
use Rattle.call_text.specs.declared.call.ArgValue.{ArgValue}
use Rattle.call_text.specs.declared.call.ArgValue.TheVariants as values
use Rattle.call_arguments.specs.declared.table.Form.{Form}
use Rattle.call_arguments.specs.declared.table.Form.TheVariants.{Place, PlaceUnderTable, Text, Strategy, Boolean, Long, LongFrom0, RowCount, Int, IntFrom1, Timestamp, Longs, Options}
use Rattle.call_arguments.specs.Numbers.{largest_int, long_of, int_of, count_of}
use Rattle.call_arguments.specs.Options.{options_of, first_bad_option}

-- how many rows are generated at most
abbrev pub most_rows : ℕ
most_rows = 10000000

-- the text names a place
abbrev pub is_place : List ℕ → Bool
is_place t = is_ok (place_in t)

-- which strings are of a form
abbrev pub fits_text : Form → List ℕ → Bool
fits_text Place t = is_place t
fits_text PlaceUnderTable t = is_place t
fits_text Text t = true
fits_text Strategy t = bytes_eq t (codes "binpack")
fits_text _ t = false

-- the text is a number from -2^63 to 2^63 - 1
abbrev pub is_long : List ℕ → Bool
is_long n = is_some (long_of n)

-- which numbers
abbrev pub fits_number : Form → List ℕ → Bool
fits_number Long n = is_long n
fits_number LongFrom0 n = is_some (count_of 0 largest_long n)
fits_number RowCount n = is_some (count_of 1 most_rows n)
fits_number Int n = is_some (int_of n)
fits_number IntFrom1 n = is_some (count_of 1 largest_int n)
fits_number _ n = false

-- TRUE and FALSE
abbrev pub fits_flag : Form → Bool
fits_flag Boolean = true
fits_flag _ = false

-- which strings behind TIMESTAMP
abbrev pub fits_moment : Form → List ℕ → Bool
fits_moment Timestamp t = is_some (moment_of t)
fits_moment _ t = false

-- which arrays
abbrev pub fits_array : Form → List (List ℕ) → Bool
fits_array Longs ns = list_all is_long ns
fits_array _ ns = false

-- the name of the first bad option of a map, where a map of options is asked for
abbrev pub bad_key : Form → List (List ℕ × List ℕ) → Option (List ℕ)
bad_key (Options rewrite) ps = first_bad_option (options_of rewrite) [] ps
bad_key _ ps = None

-- the name of the first bad option, where the value is a map of options
abbrev pub bad_option : Form → ArgValue → Option (List ℕ)
bad_option form (values.Map ps) = bad_key form ps
bad_option form _ = None

-- which maps
abbrev pub fits_map : Form → List (List ℕ × List ℕ) → Bool
fits_map (Options rewrite) ps = is_none (first_bad_option (options_of rewrite) [] ps)
fits_map _ ps = false

-- the value is of the form
abbrev pub fits : Form → ArgValue → Bool
fits form (values.Str t) = fits_text form t
fits form (values.Number n) = fits_number form n
fits form (values.Bool b) = fits_flag form
fits form values.Null = true
fits form (values.Moment t) = fits_moment form t
fits form (values.Map ps) = fits_map form ps
fits form (values.Array ns) = fits_array form ns
