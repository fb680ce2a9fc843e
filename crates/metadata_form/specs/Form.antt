-- The form of a value in metadata (Iceberg table specification, version 2), and where a value isn't of its form.
use Rattle.std.specs.Prelude.{ℕ, suc, ◌^◌, ℤ, pos, negsuc, List, [], ◌∷◌, Bool, true, false, ◌||◌, nat_lt, codes, Option, Some, None, option_map, option_and_then, is_some, if◌then◌else◌}
use Rattle.std.specs.Option.{option_or}
use Rattle.std.specs.Ordering.{int_eq}
use Rattle.std.specs.Str.{str_eq_ignore_ascii_case}
use Rattle.serde_json.specs.Data.{Data, null, Items, Members, no_members, member, put}
use Rattle.serde_json.specs.Find.{get, as_str, as_array, as_object}
use Rattle.uuid.specs.Text.{parsed}
use Rattle.metadata_json.specs.Fields.{signed, list_of}
use Rattle.metadata_form.specs.declared.form.Form.{Form}
use Rattle.metadata_form.specs.declared.form.Form.TheVariants.{Text, Uuid, Int, Count, Long, Moment, SnapshotId, RefType, Texts, Summary, Ints, Objects}
use Rattle.metadata_form.specs.Path.{in_member, in_item, itself_unless}

-- ---- numbers

-- a number from -2^31 to 2^31 - 1
abbrev pub is_int_number : ℤ → Bool
is_int_number (pos n) = nat_lt n (2 ^ 31)
is_int_number (negsuc n) = nat_lt n (2 ^ 31)

-- a number that fits 32 bits
abbrev pub int_if : Option ℤ → Option ℤ
int_if None = None
int_if (Some z) = if is_int_number z then Some z else None

-- the whole number of 32 bits that a value is
abbrev pub int : Data → Option ℤ
int d = int_if (signed d)

-- a number from 0 on
abbrev pub is_natural : ℤ → Bool
is_natural (pos n) = true
is_natural (negsuc n) = false

-- there is a number, and it isn't negative
abbrev pub is_natural_in : Option ℤ → Bool
is_natural_in None = false
is_natural_in (Some z) = is_natural z

-- -1 stands for no snapshot
abbrev pub unless_minus_one : ℤ → Option ℤ
unless_minus_one z = if int_eq z (negsuc 0) then None else Some z

-- ---- texts

-- a text that reads as an identifier
unfoldable pub is_uuid : List ℕ → Bool
is_uuid text = is_some (parsed text)

-- there is a text, and it reads as an identifier
abbrev pub is_uuid_in : Option (List ℕ) → Bool
is_uuid_in None = false
is_uuid_in (Some text) = is_uuid text

-- `branch`, in any letter case
unfoldable pub is_branch_text : List ℕ → Bool
is_branch_text text = str_eq_ignore_ascii_case text (codes "branch")

-- `branch` or `tag`, in any letter case
unfoldable pub is_ref_type : List ℕ → Bool
is_ref_type text = is_branch_text text || str_eq_ignore_ascii_case text (codes "tag")

-- there is a text, and it is the type of a ref
abbrev pub is_ref_type_in : Option (List ℕ) → Bool
is_ref_type_in None = false
is_ref_type_in (Some text) = is_ref_type text

-- ---- arrays and objects, whose first fault is that of their first item or member with one

-- the first fault of the items from the item i on
abbrev pub items_fault : (Data → Option (List ℕ)) → ℕ → List Data → Option (List ℕ)
items_fault fault i [] = None
items_fault fault i (d ∷ ds) = option_or (option_map (in_item i) (fault d)) (items_fault fault (suc i) ds)

-- there is an array, of such items
abbrev pub array_fault_in : (Data → Option (List ℕ)) → Option Items → Option (List ℕ)
array_fault_in fault None = Some []
array_fault_in fault (Some ds) = items_fault fault 0 (list_of ds)

-- an array of such items
abbrev pub array_fault : (Data → Option (List ℕ)) → Data → Option (List ℕ)
array_fault fault d = array_fault_in fault (as_array d)

-- the first fault of the members
abbrev pub members_fault : (Data → Option (List ℕ)) → Members → Option (List ℕ)
members_fault fault no_members = None
members_fault fault (member k d ms) = option_or (option_map (in_member k) (fault d)) (members_fault fault ms)

-- there is an object, of such members
abbrev pub object_fault_in : (Data → Option (List ℕ)) → Option Members → Option (List ℕ)
object_fault_in fault None = Some []
object_fault_in fault (Some ms) = members_fault fault ms

-- an object of such members
abbrev pub object_fault : (Data → Option (List ℕ)) → Data → Option (List ℕ)
object_fault fault d = object_fault_in fault (as_object d)

-- a text
abbrev pub text_fault : Data → Option (List ℕ)
text_fault d = itself_unless (is_some (as_str d))

-- a whole number of 32 bits
abbrev pub int_fault : Data → Option (List ℕ)
int_fault d = itself_unless (is_some (int d))

-- an object
abbrev pub is_object_fault : Data → Option (List ℕ)
is_object_fault d = itself_unless (is_some (as_object d))

-- where a summary lacks its `operation`, that counts in its place by byte order, as a null there
abbrev pub incomplete_fault_in : Option Members → Option (List ℕ)
incomplete_fault_in None = Some []
incomplete_fault_in (Some ms) = members_fault text_fault (put (codes "operation") null ms)

-- an object of texts with an `operation`
unfoldable pub summary_fault : Data → Option (List ℕ)
summary_fault d = if is_some (get (codes "operation") d) then object_fault text_fault d else incomplete_fault_in (as_object d)

-- ---- the first place in a value that isn't of its form

-- what is wrong with a value of this form
unfoldable pub misfit : Form → Data → Option (List ℕ)
misfit Text d = text_fault d
misfit Uuid d = itself_unless (is_uuid_in (as_str d))
misfit Int d = int_fault d
misfit Count d = itself_unless (is_natural_in (int d))
misfit Long d = itself_unless (is_some (signed d))
misfit Moment d = itself_unless (is_natural_in (signed d))
misfit SnapshotId d = itself_unless (is_some (option_and_then unless_minus_one (signed d)))
misfit RefType d = itself_unless (is_ref_type_in (as_str d))
misfit Texts d = object_fault text_fault d
misfit Summary d = summary_fault d
misfit Ints d = array_fault int_fault d
misfit Objects d = array_fault is_object_fault d
