-- The kinds of end, and what each says of the count of faults and of the mark of the last failed call.
use Rattle.std.specs.Prelude.{◌≡◌, ℕ, Option, Some}
use Rattle.ice_store.specs.Places.{Parts}
use Rattle.ice_store.specs.Calls.{Rose, failure_of}
use Rattle.ice_store.specs.Others.{WhereTold}
use Rattle.ice_store.specs.declared.faults.ReadErr.{ReadErr}
use Rattle.ice_store.specs.declared.faults.ReadErr.TheVariants as reads
use Rattle.ice_store.specs.declared.history.Failure.{Failure}
use Rattle.ice_store.specs.declared.history.Past.{Past}
use Rattle.ice_store.specs.declared.history.Step.TheVariants.{Create, Append, Seal, Rename, Remove, SyncNames}
use Rattle.ice_store.specs.declared.history.StoreCall.{StoreCall}
use Rattle.ice_store.specs.declared.history.StoreCall.TheVariants.{Look, Take}

-- how work ends: it is done; an answer's cause stood in what was there; a store call failed, which is told at a place; whether this version was published isn't known;
-- others published up to this version first; memory lacked
pub data Kind : Type 0 where
  Done : Kind
  Told : Kind
  Fault : (place : Parts) → Kind
  Unknown : (version : ℕ) → Kind
  Lost : (version : ℕ) → Kind
  Memory : Kind

-- the kind of a fault of reading or writing a file
abbrev pub read_kind : ReadErr → Kind
read_kind (reads.Missing place) = Told
read_kind (reads.Damaged place at) = Told
read_kind (reads.Unsupported place what) = Told
read_kind (reads.StoreFault place) = Fault place
read_kind reads.Memory = Memory

-- the count of faults rises where a store call failed, and else stays
abbrev pub Counts : Kind → ℕ → ℕ → Type 0
Counts Done before now = now ≡ before
Counts Told before now = now ≡ before
Counts (Fault place) before now = Rose before now
Counts (Unknown version) before now = Rose before now
Counts (Lost version) before now = now ≡ before
Counts Memory before now = now ≡ before

-- the place at which a failed call is told: its own, that of a rename's source, and of a sync of names the table
abbrev pub told_at : Parts → StoreCall → Parts
told_at table (Look place) = place
told_at table (Take (Create place)) = place
told_at table (Take (Append place bytes)) = place
told_at table (Take (Seal place)) = place
told_at table (Take (Rename from to)) = from
told_at table (Take (Remove place)) = place
told_at table (Take SyncNames) = table

-- the last failed call is this one, and no event follows it
abbrev pub Failing : Option Failure → Past → StoreCall → Type 0
Failing mark past call = mark ≡ Some (failure_of call past)

-- a failed call is marked, and told at its place; else the mark stays
abbrev pub Marks : Parts → Kind → Option Failure → Option Failure → Option Past → Type 0
Marks table Done before now told = now ≡ before
Marks table Told before now told = now ≡ before
Marks table (Fault place) before now told = WhereTold told (λ past. (call : StoreCall) × Failing now past call × (place ≡ told_at table call))
Marks table (Unknown version) before now told = WhereTold told (λ past. (call : StoreCall) × Failing now past call)
Marks table (Lost version) before now told = now ≡ before
Marks table Memory before now told = now ≡ before
