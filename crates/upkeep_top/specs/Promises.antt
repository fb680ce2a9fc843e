-- What a run adds to a history: the versions that it publishes, and their successors.
use Rattle.std.specs.Prelude.{◌≡◌, ◌⊎◌, ℕ, zero, suc, List, [], ◌∷◌, ◌++◌}
use Rattle.serde_json.specs.Data.{Data}
use Rattle.ice_store.specs.Places.{Parts}
use Rattle.ice_store.specs.History.{later}
use Rattle.ice_store.specs.declared.history.Event.{Event}
use Rattle.ice_store.specs.declared.history.Past.{Past}
use Rattle.ice_store.specs.declared.history.Step.{Step}
use Rattle.ice_store.specs.declared.history.Step.TheVariants.{Create, Append, Seal, Rename, Remove, SyncNames}
use Rattle.commit_history.specs.Runs.{ours}
use Rattle.commit_publish.specs.Kinds as kinds
use Rattle.commit_publish.specs.Kinds.{Kind}
use Rattle.commit_protocol.specs.Promises.{Succession}

-- Versions.

-- the versions to which files were renamed: those behind whose rename a sync of Us stands, and those behind which none does
pub record Renamed : Type 0 where
  pub settled : List ℕ
  pub open_ones : List ℕ

-- one more, where a place has a version's number
abbrev pub renamed_to : ℕ → Renamed → Renamed
renamed_to zero r = r
renamed_to (suc n) r = record { settled = r.settled; open_ones = r.open_ones ++ suc n ∷ [] }

-- the same after a step of Us, of a table with this numbering
abbrev pub renamed_after : (Parts → ℕ) → Renamed → Step → Renamed
renamed_after number r (Create place) = r
renamed_after number r (Append place more) = r
renamed_after number r (Seal place) = r
renamed_after number r (Rename from to) = renamed_to (number to) r
renamed_after number r (Remove place) = r
renamed_after number r SyncNames = record { settled = r.settled ++ r.open_ones; open_ones = [] }

-- and after these
abbrev pub all_renamed : (Parts → ℕ) → Renamed → List Step → Renamed
all_renamed number r [] = r
all_renamed number r (step ∷ steps) = all_renamed number (renamed_after number r step) steps

-- all of these are settled
abbrev pub all_settled : List ℕ → Renamed
all_settled versions = record { settled = versions; open_ones = [] }

-- all but the last
abbrev pub last_open : List ℕ → ℕ → Renamed
last_open versions version = record { settled = versions; open_ones = version ∷ [] }

-- the versions that a run tells of are those to which it renamed files, each with a sync behind it; one more, the unknown one, may be there with or without one;
-- and where memory lacked one without a sync
abbrev pub ToldBy : Kind → List ℕ → Renamed → Type 0
ToldBy kinds.Done versions r = r ≡ all_settled versions
ToldBy kinds.Told versions r = r ≡ all_settled versions
ToldBy (kinds.Fault place) versions r = r ≡ all_settled versions
ToldBy (kinds.Unknown version) versions r = (r ≡ all_settled versions) ⊎ ((r ≡ last_open versions version) ⊎ (r ≡ all_settled (versions ++ version ∷ [])))
ToldBy (kinds.Lost version) versions r = r ≡ all_settled versions
ToldBy kinds.Memory versions r = (r ≡ all_settled versions) ⊎ ((version : ℕ) × (r ≡ last_open versions version))

-- the steps of Us between two moments renamed files to these versions
pub record Renames (number : Parts → ℕ) (old new : Past) (renamed : Renamed) : Type 0 where
  pub events : List Event
  pub is : new ≡ later old events
  pub renamed_is : renamed ≡ all_renamed number (all_settled []) (ours events)

-- Successors.

-- each of these versions is a successor by this relation, published between two moments
abbrev pub AllSucceed : (Data → Data → Type 0) → Parts → ℕ → List ℕ → Past → Past → Type 0
AllSucceed successor table now [] old new = Unit {0}
AllSucceed successor table now (v ∷ versions) old new = Succession successor table now v old new × AllSucceed successor table now versions old new

-- An unknown commit.

-- its rename and the sync behind it may have been taken
abbrev pub IsOpenEnd : Parts → Parts → List Step → Type 0
IsOpenEnd draft target more = (more ≡ []) ⊎ ((more ≡ Rename draft target ∷ []) ⊎ (more ≡ Rename draft target ∷ SyncNames ∷ []))

-- steps that end with the seal of a new metadata file and a sync, and then nothing, its rename to this place, or its rename and a sync
pub record EndsOpen (target : Parts) (steps : List Step) : Type 0 where
  pub before : List Step
  pub draft : Parts
  pub more : List Step
  pub is : steps ≡ before ++ (Seal draft ∷ SyncNames ∷ more)
  pub end : IsOpenEnd draft target more
