-- What is wrong with the form of a tree as metadata: the first cause, at its first path.
use Rattle.std.specs.Prelude.{ℕ, ℤ, pos, List, codes, Option, Some, None, option_map, option_and_then, if◌then◌else◌}
use Rattle.std.specs.Option.{option_or}
use Rattle.std.specs.Ordering.{int_eq}
use Rattle.serde_json.specs.Data.{Data}
use Rattle.serde_json.specs.Find.{get, as_number, as_integer}
use Rattle.metadata_json.specs.Fields.{items_at}
use Rattle.metadata_form.specs.declared.fault.MetaCause.{MetaCause}
use Rattle.metadata_form.specs.declared.fault.MetaCause.TheVariants.{Fraction, Version, Field, NoManifestList}
use Rattle.metadata_form.specs.declared.fault.Fault.{Fault}
use Rattle.metadata_form.specs.declared.fields.Need.TheVariants.{Required}
use Rattle.metadata_form.specs.declared.key.Key.TheVariants.{ManifestList}
use Rattle.metadata_form.specs.Path.{in_member, from_root}
use Rattle.metadata_form.specs.Float.{first_float}
use Rattle.metadata_form.specs.Form.{items_fault}
use Rattle.metadata_form.specs.Fields.{member_fault, metadata_fault}

-- the cause at this path
abbrev pub fault_at : MetaCause → List ℕ → Fault
fault_at cause on = record { path = from_root on; cause = cause }

-- a number other than 2
abbrev pub unless_2 : ℤ → Option ℤ
unless_2 z = if int_eq z (pos 2) then None else Some z

-- a format version that is a whole number other than 2
abbrev pub other_version : Data → Option ℤ
other_version d = option_and_then unless_2 (option_and_then as_integer (option_and_then as_number (get (codes "format-version") d)))

-- the fault of another format version
abbrev pub version_fault : ℤ → Fault
version_fault n = record { path = codes "format-version"; cause = Version n }

-- the manifest list of a snapshot lacks
abbrev pub list_fault : Data → Option (List ℕ)
list_fault d = member_fault ManifestList Required (λ list. None) d

-- the first snapshot that has no manifest list
unfoldable pub lists_fault : Data → Option (List ℕ)
lists_fault d = option_map (in_member (codes "snapshots")) (items_fault list_fault 0 (items_at (codes "snapshots") d))

-- the first of these causes that holds, at its first path
unfoldable pub form_fault : Data → Option Fault
form_fault d =
    option_or (option_map (fault_at Fraction) (first_float d))
    (option_or (option_map version_fault (other_version d))
    (option_or (option_map (fault_at Field) (metadata_fault d))
    (option_map (fault_at NoManifestList) (lists_fault d))))
