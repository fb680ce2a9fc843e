-- Which bytes spell which metadata (Iceberg table specification, Appendix C: JSON serialization).
use Rattle.std.specs.Prelude.{◌≡◌, ◌⊎◌, ℕ, ℤ, List, [], Option, Some, None, Result, Ok, Err, IsUtf8}
use Rattle.serde_json.specs.Data.{Data}
use Rattle.serde_json.specs.Read.{read}
use Rattle.serde_json.specs.View.{view}
use Rattle.serde_json.specs.declared.value.Value.{Value}
use Rattle.metadata_view.specs.Fault.{fault_of}
use Rattle.metadata_form.specs.declared.fault.MetaCause.{MetaCause}
use Rattle.metadata_form.specs.declared.fault.MetaCause.TheVariants.{NotJson}
use Rattle.table_metadata.specs.declared.cause.MetaErr.{MetaErr}
use Rattle.table_metadata.specs.declared.cause.MetaErr.TheVariants.{Bad, Memory}
use Rattle.table_metadata.specs.declared.cause.EditErr.{EditErr}
use Rattle.table_metadata.specs.declared.cause.EditErr.TheVariants as errors
use Rattle.metadata_view.specs.declared.types.Snapshot.{Snapshot}

-- the bytes are JSON of a tree that is well-formed metadata
pub record Spells (bytes : List ℕ) (d : Data) : Type 0 where
  pub utf8 : IsUtf8 bytes
  pub json : read bytes ≡ Some d
  pub sound : fault_of d ≡ None

-- no tree is spelled: the cause is NotJson, of the whole file; or a tree is, and this is the first thing that is wrong
-- with it, at its first path
abbrev pub HasFault : List ℕ → List ℕ → MetaCause → Type 0
HasFault bytes path cause = ((cause ≡ NotJson) × (path ≡ []) × (IsUtf8 bytes → read bytes ≡ None))
    ⊎ ((d : Data) × IsUtf8 bytes × (read bytes ≡ Some d) × (fault_of d ≡ Some (record { path = path; cause = cause })))

-- the answer of a refusal tells what is wrong with the bytes; want of memory tells nothing
abbrev pub IsRefused : List ℕ → MetaErr → Type 0
IsRefused bytes Memory = Unit {0}
IsRefused bytes (Bad path cause) = HasFault bytes path cause

-- this is what is wrong with the tree
abbrev pub IsFaultOf : Data → MetaErr → Type 0
IsFaultOf d Memory = Unit {0}
IsFaultOf d (Bad path cause) = fault_of d ≡ Some (record { path = path; cause = cause })

-- the tree is read, or there was no memory for it
abbrev pub IsReadAs : Data → Result Value MetaErr → Type 0
IsReadAs d (Ok m) = view m ≡ d
IsReadAs d (Err e) = e ≡ Memory

-- an edit names a snapshot that the table doesn't have
abbrev pub IsUnknown : Option Snapshot → ℤ → EditErr → Type 0
IsUnknown found id errors.Memory = Unit {0}
IsUnknown found id (errors.UnknownSnapshot other) = (other ≡ id) × (found ≡ None)
