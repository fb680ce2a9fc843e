-- Records that are none of what was wanted.
use Rattle.std.specs.Prelude.{Result, Ok, Err}
use Rattle.manifest_cells.specs.declared.field_err.FieldErr.{FieldErr}
use Rattle.manifest_cells.specs.declared.field_err.FieldErr.TheVariants as errors

-- What holds of a refusal that isn't want of memory.
abbrev pub OnBadField : {A : Type 0} → Result A FieldErr → Type 0 → Type 0
OnBadField (Ok x) P = Unit {0}
OnBadField (Err errors.Memory) P = Unit {0}
OnBadField (Err (errors.BadField id)) P = P
