-- History, replay and image: what a history leaves, and what a crash may make of it. The disk model is this project's own.
use Rattle.std.specs.Prelude.{◌≡◌, ℕ, Bool, true, false, List, [], ◌∷◌, ◌++◌, map, Option, Some, None, if◌then◌else◌, unwrap_or}
use Rattle.ice_store.specs.Places.{Parts}
use Rattle.ice_store.specs.Files.{find, is_named, without, changed, put, renamed}
use Rattle.ice_store.specs.declared.history.Held.{Held}
use Rattle.ice_store.specs.declared.history.FileRec.{FileRec}
use Rattle.ice_store.specs.declared.history.NameChange.{NameChange}
use Rattle.ice_store.specs.declared.history.NameChange.TheVariants.{Created, Renamed, Removed}
use Rattle.ice_store.specs.declared.history.Event.{Event}
use Rattle.ice_store.specs.declared.history.Past.{Past}
use Rattle.ice_store.specs.declared.history.Step.{Step}
use Rattle.ice_store.specs.declared.history.Step.TheVariants.{Create, Append, Seal, Rename, Remove, SyncNames}
use Rattle.ice_store.specs.declared.history.Who.{Who}
use Rattle.ice_store.specs.declared.history.Who.TheVariants.{Us, Them}

-- Replay.

-- the files by their names, and the name changes that a crash may undo
pub record Disk : Type 0 where
  pub files : List Held
  pub pending : List NameChange

-- an empty unsealed file, and who made it when
abbrev pub new_file : Parts → Who → ℕ → Held
new_file place who ms = record { place = place; bytes = []; ms = ms; is_sealed = false; maker = Some who }

-- a file with more bytes, whose moment is that of the append
abbrev pub appended : List ℕ → ℕ → Held → Held
appended more ms held = record held { bytes = held.bytes ++ more; ms = ms }

-- a file whose bytes a crash keeps
abbrev pub sealed : Held → Held
sealed held = record held { is_sealed = true }

-- the files after a step
abbrev pub files_after : List Held → Step → Who → ℕ → List Held
files_after files (Create place) who ms = put (new_file place who ms) files
files_after files (Append place more) who ms = changed (appended more ms) files place
files_after files (Seal place) who ms = changed sealed files place
files_after files (Rename from to) who ms = renamed from to files
files_after files (Remove place) who ms = without files place
files_after files SyncNames who ms = files

-- the removal of a file, where there is one
abbrev pub removal : Option Held → List NameChange
removal None = []
removal (Some held) = Removed held ∷ []

-- the pending name changes after a step of Us
abbrev pub pending_after : Disk → Step → List NameChange
pending_after d (Create place) = d.pending ++ Created place ∷ []
pending_after d (Append place more) = d.pending
pending_after d (Seal place) = d.pending
pending_after d (Rename from to) = d.pending ++ Renamed from to ∷ []
pending_after d (Remove place) = d.pending ++ removal (find d.files place)
pending_after d SyncNames = []

-- a step of Them is durable at once, and makes all before it durable
abbrev pub pending_by : Who → Disk → Step → List NameChange
pending_by Us d step = pending_after d step
pending_by Them d step = []

-- the files and pending name changes after an event
abbrev pub disk_after : Disk → Event → Disk
disk_after d event = record { files = files_after d.files event.step event.who event.ms; pending = pending_by event.who d event.step }

-- the same after a list of events, in their order
abbrev pub replay_from : Disk → List Event → Disk
replay_from d [] = d
replay_from d (event ∷ events) = replay_from (disk_after d event) events

-- a file of the base is durable and sealed
abbrev pub durable : FileRec → Held
durable file = record { place = file.place; bytes = file.bytes; ms = file.ms; is_sealed = true; maker = None }

-- of several files with one place the first counts
abbrev pub base_from : List Held → List FileRec → List Held
base_from files [] = files
base_from files (file ∷ more) = base_from (if is_named files file.place then files else files ++ durable file ∷ []) more

-- what the history leaves: its base, changed by its events in their order
abbrev pub replay : Past → Disk
replay past = replay_from (record { files = base_from [] past.base; pending = [] }) past.events

-- a history with more events
abbrev pub later : Past → List Event → Past
later past events = record { base = past.base; events = past.events ++ events }

-- Image.

-- a change undone; a renamed file then stands under its old name alone
abbrev pub undone : NameChange → List Held → List Held
undone (Created place) files = without files place
undone (Renamed from to) files = renamed to from files
undone (Removed held) files = put held files

-- the names where each pending change is done or undone on its own, a lacking choice being undone
abbrev pub names_by : List Bool → List NameChange → List Held → List Held
names_by done [] files = files
names_by [] (change ∷ changes) files = undone change (names_by [] changes files)
names_by (is_done ∷ done) (change ∷ changes) files = if is_done then names_by done changes files else undone change (names_by done changes files)

-- a sealed file has its bytes, and an unsealed one has any
abbrev pub settled : (Parts → Option (List ℕ)) → Held → FileRec
settled torn held = record { place = held.place; bytes = if held.is_sealed then held.bytes else unwrap_or (torn held.place) held.bytes; ms = held.ms }

-- what a crash leaves, by its choices
abbrev pub image : Disk → List Bool → (Parts → Option (List ℕ)) → List FileRec
image d done torn = map (settled torn) (names_by done d.pending d.files)

-- what a crash may leave
abbrev pub IsImage : Disk → List FileRec → Type 0
IsImage d files = (done : List Bool) × (torn : (Parts → Option (List ℕ))) × (files ≡ image d done torn)
