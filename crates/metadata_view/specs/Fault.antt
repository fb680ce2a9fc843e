-- Why a tree is no metadata: the first of these causes that holds, at its first path.
use Rattle.std.specs.Prelude.{List, Option, option_map}
use Rattle.std.specs.Option.{option_or}
use Rattle.serde_json.specs.Data.{Data}
use Rattle.metadata_form.specs.declared.fault.MetaCause.TheVariants.{DoubleId, BrokenRef, BrokenParent}
use Rattle.metadata_form.specs.declared.fault.Fault.{Fault}
use Rattle.metadata_form.specs.Fault.{fault_at, form_fault}
use Rattle.metadata_view.specs.View.{snapshots_of}
use Rattle.metadata_view.specs.Links.{double_path, ref_fault, return_path}
use Rattle.metadata_view.specs.declared.types.Snapshot.{Snapshot}
use Rattle.metadata_view.specs.Index.{first_double}
use Rattle.metadata_view.specs.Walk.{first_return}

-- a fault of refs and parents
unfoldable pub links_fault : List Snapshot → Data → Option Fault
links_fault ss d =
    option_or (option_map (fault_at BrokenRef) (ref_fault ss d))
    (option_map (λ i. fault_at BrokenParent (return_path i)) (first_return ss 0 ss))

-- a fault among the snapshots, where the form is right
unfoldable pub snapshots_fault : List Snapshot → Data → Option Fault
snapshots_fault ss d =
    option_or (option_map (λ i. fault_at DoubleId (double_path i)) (first_double ss))
    (links_fault ss d)

-- The order is Fraction, Version, Field, NoManifestList (what is wrong with the form), then DoubleId, BrokenRef and
-- BrokenParent. Each is at its first path: keys of objects in byte order, items of arrays in their order.
unfoldable pub fault_of : Data → Option Fault
fault_of d = option_or (form_fault d) (snapshots_fault (snapshots_of d) d)
