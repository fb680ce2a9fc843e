-- What the calls of a store ask of their callers, and what each answers by the state that it meets.
use Rattle.std.specs.Prelude.{◌≡◌, ◌⊎◌, ℕ, ◌+◌, ◌-◌, ◌^◌, ◌≤◌, min, true, false, List, [], ◌∷◌, length, take, drop, map, filter, IsPermutation, Option, Some, None, Result, Ok, Err, IsErrOf}
use Rattle.std.specs.List.Sorted.{IsSortedByKey}
use Rattle.std.specs.Cmp.Lexicographic.{slice_cmp}
use Rattle.std.specs.Ordering.{nat_cmp, on}
use Rattle.ice_store.specs.Places.{Parts, is_under, joined}
use Rattle.ice_store.specs.Files.{find, is_named}
use Rattle.ice_store.specs.History.{Disk}
use Rattle.ice_store.specs.Others.{IsOurs, WhereTold}
use Rattle.ice_store.specs.declared.history.Held.{Held}
use Rattle.ice_store.specs.declared.history.Past.{Past}
use Rattle.ice_store.specs.declared.history.NameChange.{NameChange}
use Rattle.ice_store.specs.declared.history.NameChange.TheVariants.{Created, Renamed, Removed}
use Rattle.ice_store.specs.declared.history.Event.{Event}
use Rattle.ice_store.specs.declared.history.Failure.{Failure}
use Rattle.ice_store.specs.declared.history.StoreCall.{StoreCall}
use Rattle.ice_store.specs.declared.history.Step.{Step}
use Rattle.ice_store.specs.declared.history.Step.TheVariants.{Create, Append, Rename, Remove}
use Rattle.ice_store.specs.declared.history.Who.TheVariants.{Us}
use Rattle.ice_store.specs.declared.store.StoreErr.{StoreErr}
use Rattle.ice_store.specs.declared.store.StoreErr.TheVariants.{Failed, Memory}
use Rattle.ice_store.specs.declared.store.Listed.{Listed}
use Rattle.ice_store.specs.declared.store.Made.{Made}
use Rattle.ice_store.specs.declared.store.Made.TheVariants.{New, Exists}
use Rattle.ice_store.specs.declared.store.Moved.{Moved}
use Rattle.ice_store.specs.declared.store.Moved.TheVariants.{Done, Exists as There}
use Rattle.ice_store.specs.declared.store.Gone.{Gone}
use Rattle.ice_store.specs.declared.store.Gone.TheVariants.{Done as Away, Absent}

-- Conditions on callers.

-- the places whose names a pending change is about
abbrev pub ChangesName : NameChange → Parts → Type 0
ChangesName (Created place) q = place ≡ q
ChangesName (Renamed from to) q = (from ≡ q) ⊎ (to ≡ q)
ChangesName (Removed held) q = held.place ≡ q

-- no pending name change is of this place
abbrev pub IsSettled : List NameChange → Parts → Type 0
IsSettled [] q = Unit {0}
IsSettled (change ∷ changes) q = (ChangesName change q → ⊥) × IsSettled changes q

-- it is the creation of a name
abbrev pub IsCreation : NameChange → Type 0
IsCreation (Created place) = Unit {0}
IsCreation (Renamed from to) = ⊥
IsCreation (Removed held) = ⊥

-- no pending removal or rename is of this place
abbrev pub IsUnmoved : List NameChange → Parts → Type 0
IsUnmoved [] q = Unit {0}
IsUnmoved (change ∷ changes) q = (ChangesName change q → IsCreation change) × IsUnmoved changes q

-- it is named, unsealed, and created by us
abbrev pub IsOpen : Disk → Parts → Type 0
IsOpen d place = (held : Held) × (find d.files place ≡ Some held) × (held.is_sealed ≡ false) × (held.maker ≡ Some Us)

-- the source is named and sealed, and no name change of either place is pending
pub record CanRename (from to : Parts) (d : Disk) : Type 0 where
  pub source : (held : Held) × (find d.files from ≡ Some held) × (held.is_sealed ≡ true)
  pub settled_from : IsSettled d.pending from
  pub settled_to : IsSettled d.pending to

-- Answers. A failed call's step took place or didn't; for a step that the state stood against it didn't.

-- New where the place isn't named, with the event of its creation; Exists where it is, with none
abbrev pub CreateAnswer : Parts → Result Made StoreErr → Disk → List Event → Type 0
CreateAnswer place (Ok New) d ours = (is_named d.files place ≡ false) × IsOurs (Create place) ours
CreateAnswer place (Ok Exists) d ours = (is_named d.files place ≡ true) × (ours ≡ [])
CreateAnswer place (Err Failed) d ours = (ours ≡ []) ⊎ ((is_named d.files place ≡ false) × IsOurs (Create place) ours)
CreateAnswer place (Err Memory) d ours = ours ≡ []

-- after a failure some prefix of the bytes was appended, or nothing
abbrev pub AppendAnswer : Parts → List ℕ → Result (Unit {0}) StoreErr → Disk → List Event → Type 0
AppendAnswer place bytes (Ok u) d ours = IsOurs (Append place bytes) ours
AppendAnswer place bytes (Err Failed) d ours = (ours ≡ []) ⊎ ((n : ℕ) × IsOurs (Append place (take n bytes)) ours)
AppendAnswer place bytes (Err Memory) d ours = ours ≡ []

-- a step that no state stands against: a seal or a sync
abbrev pub StepAnswer : Step → Result (Unit {0}) StoreErr → List Event → Type 0
StepAnswer step (Ok u) ours = IsOurs step ours
StepAnswer step (Err Failed) ours = (ours ≡ []) ⊎ IsOurs step ours
StepAnswer step (Err Memory) ours = ours ≡ []

-- the same of the call whatever the state is
abbrev pub PlainAnswer : Step → Result (Unit {0}) StoreErr → Disk → List Event → Type 0
PlainAnswer step result d ours = StepAnswer step result ours

-- Done where the second place isn't named, with the event of the rename; Exists where it is, with none
abbrev pub RenameAnswer : Parts → Parts → Result Moved StoreErr → Disk → List Event → Type 0
RenameAnswer from to (Ok Done) d ours = (is_named d.files to ≡ false) × IsOurs (Rename from to) ours
RenameAnswer from to (Ok There) d ours = (is_named d.files to ≡ true) × (ours ≡ [])
RenameAnswer from to (Err Failed) d ours = (ours ≡ []) ⊎ ((is_named d.files to ≡ false) × IsOurs (Rename from to) ours)
RenameAnswer from to (Err Memory) d ours = ours ≡ []

-- Done where the place is named, with the event of its removal; Absent where it isn't, with none
abbrev pub RemoveAnswer : Parts → Result Gone StoreErr → Disk → List Event → Type 0
RemoveAnswer place (Ok Away) d ours = (is_named d.files place ≡ true) × IsOurs (Remove place) ours
RemoveAnswer place (Ok Absent) d ours = (is_named d.files place ≡ false) × (ours ≡ [])
RemoveAnswer place (Err Failed) d ours = (ours ≡ []) ⊎ ((is_named d.files place ≡ true) × IsOurs (Remove place) ours)
RemoveAnswer place (Err Memory) d ours = ours ≡ []

-- the length of a file's bytes, where there is a file
abbrev pub size_of : Option Held → Option ℕ
size_of None = None
size_of (Some held) = Some (length held.bytes)

-- the size of the file at the place, and no event
abbrev pub SizeAnswer : Parts → Result (Option ℕ) StoreErr → Disk → List Event → Type 0
SizeAnswer place (Ok size) d ours = (size ≡ size_of (find d.files place)) × (ours ≡ [])
SizeAnswer place (Err e) d ours = ours ≡ []

-- the bytes from an offset on, this many of them or all that there are
abbrev pub part_of : ℕ → ℕ → Option Held → Option (List ℕ)
part_of from len None = None
part_of from len (Some held) = Some (take len (drop from held.bytes))

-- that part of the file at the place, and no event
abbrev pub ReadAnswer : Parts → ℕ → ℕ → Result (Option (List ℕ)) StoreErr → Disk → List Event → Type 0
ReadAnswer place from len (Ok bytes) d ours = (bytes ≡ part_of from len (find d.files place)) × (ours ≡ [])
ReadAnswer place from len (Err e) d ours = ours ≡ []

-- a file as a listing tells of it
abbrev pub listed_of : Held → Listed
listed_of held = record { place = held.place; ms = held.ms; size = length held.bytes }

-- all files under a directory, at any depth, in place order
pub record IsListing (dir : Parts) (files : List Held) (listed : List Listed) : Type 0 where
  pub same : IsPermutation (map listed_of (filter (λ held. is_under held.place dir) files)) listed
  pub ordered : IsSortedByKey (λ l. l.place) (on joined (slice_cmp nat_cmp)) listed

-- the listing of a directory, and no event
abbrev pub NamesAnswer : Parts → Result (List Listed) StoreErr → Disk → List Event → Type 0
NamesAnswer dir (Ok listed) d ours = IsListing dir d.files listed × (ours ≡ [])
NamesAnswer dir (Err e) d ours = ours ≡ []

-- The count of faults, and the mark of the last one.

-- a count at its type's end counts as risen
abbrev pub Rose : ℕ → ℕ → Type 0
Rose before now = min (before + 1) (2 ^ 64 - 1) ≤ now

-- the count of faults rises where a call answers Failed, and else stays
pub record HasCause {T : Type 0} (before now : ℕ) (result : Result T StoreErr) : Type 0 where
  pub later : before ≤ now
  pub failed : IsErrOf result Failed → Rose before now
  pub kept : (IsErrOf result Failed → ⊥) → now ≡ before

-- the mark of this call, as the last of so many events
abbrev pub failure_of : StoreCall → Past → Failure
failure_of call past = record { events = length past.events; call = call }

-- a failed call is marked with how many events then stand, and another call leaves the mark
pub record MarksFailure {T : Type 0} (call : StoreCall) (before now : Option Failure) (told : Option Past) (result : Result T StoreErr) : Type 0 where
  pub failed : IsErrOf result Failed → WhereTold told (λ past. now ≡ Some (failure_of call past))
  pub kept : (IsErrOf result Failed → ⊥) → now ≡ before
