-- What a `Meta` keeps of its tree.
use Rattle.std.specs.Prelude.{◌≡◌, ◌≤◌, None, IsUtf8}
use Rattle.serde_json.specs.Data.{depth}
use Rattle.serde_json.specs.Read.{max_depth}
use Rattle.serde_json.specs.View.{view}
use Rattle.metadata_view.specs.Fault.{fault_of}
use Rattle.metadata_view.specs.View.{typed_of, snapshots_of}
use Rattle.metadata_view.specs.Index.{IsIndex}
use Rattle.table_metadata.specs.declared.meta.Meta.TheInside.{Inside}

-- the tree is well-formed, and the typed view and the index are what it says
pub record IsTyped (m : Inside) : Type 0 where
  pub sound : fault_of (view m.tree) ≡ None
  pub shallow : depth (view m.tree) ≤ max_depth
  pub typed : m.typed ≡ typed_of (view m.tree)
  pub index : IsIndex m.index (snapshots_of (view m.tree))
  pub utf8 : IsUtf8 m.typed.location
