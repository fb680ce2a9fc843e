-- The stages of a publish. The draft is the new metadata file under a name of its own; the base is the version file that it follows, the target the next version place.
use Rattle.std.specs.Prelude.{◌≡◌, ◌⊎◌, ℕ, ◌+◌, ◌<◌, Bool, true, List, [], ◌∷◌, ◌++◌, Option, Some}
use Rattle.ice_store.specs.Places.{Parts}
use Rattle.ice_store.specs.Files.{find, is_named}
use Rattle.ice_store.specs.History.{Disk, replay}
use Rattle.ice_store.specs.Calls.{IsCreation}
use Rattle.ice_store.specs.declared.history.NameChange.{NameChange}
use Rattle.ice_store.specs.declared.history.Held.{Held}
use Rattle.ice_store.specs.declared.history.Past.{Past}
use Rattle.ice_store.specs.declared.history.Who.TheVariants.{Us}
use Rattle.commit_history.specs.Readings.{Content, Reading}
use Rattle.commit_history.specs.Tables.{version, sealed_at}
use Rattle.commit_history.specs.Commits.{Tables, standing}
use Rattle.commit_history.specs.Steady.{Each, IsSteady}
use Rattle.commit_publish.specs.declared.steps.Route.{Route}

-- these bytes are good whatever is sealed beside them, and no version file reaches anything: so metadata is read where nothing but its own form is asked
pub record IsNarrow (content : Content) (bytes : List ℕ) : Type 0 where
  pub good : (sealed : Parts → Option (List ℕ)) → content.good bytes sealed
  pub unreached : (other : List ℕ) (sealed : Parts → Option (List ℕ)) (place : Parts) → content.reached other sealed place → ⊥

-- only creations are pending
abbrev pub Creating : List NameChange → Type 0
Creating changes = Each IsCreation changes

-- nothing is pending
abbrev pub AtRest : List NameChange → Type 0
AtRest changes = changes ≡ []

-- the draft is no version place, and the target is the version place after the base
pub record Aim (number : Parts → ℕ) (route : Route) : Type 0 where
  pub plain : number route.draft ≡ 0
  pub based : 0 < number route.base
  pub next : number route.target ≡ number route.base + 1

-- what is pending, and what stands of the draft; and the base is the last version, or the target is taken
pub record Stage (number : Parts → ℕ) (route : Route) (Pending : List NameChange → Type 0) (File : List Held → Type 0) (d : Disk) : Type 0 where
  pub pending : Pending d.pending
  pub last_or_taken : (version number d.files ≡ number route.base) ⊎ (is_named d.files route.target ≡ true)
  pub file : File d.files

-- nothing is said of the files
abbrev pub NoFile : List Held → Type 0
NoFile files = Unit {0}

-- the draft stands as we made it
pub record HasDraft (draft : Parts) (is_sealed : Bool) (bytes : List ℕ) (files : List Held) : Type 0 where
  pub file : Held
  pub stands : find files draft ≡ Some file
  pub ours : file.maker ≡ Some Us
  pub sealed_is : file.is_sealed ≡ is_sealed
  pub bytes_is : file.bytes ≡ bytes

-- so does it, sealed, while the target is taken
pub record IsTaken (route : Route) (bytes : List ℕ) (files : List Held) : Type 0 where
  pub stands : HasDraft route.draft true bytes files
  pub taken : is_named files route.target ≡ true

-- the target is taken, and nothing is pending
pub record IsLost (target : Parts) (d : Disk) : Type 0 where
  pub at_rest : d.pending ≡ []
  pub taken : is_named d.files target ≡ true

-- this holds of the disk that a history leaves
abbrev pub InState : (Disk → Type 0) → Past → Type 0
InState K past = K (replay past)

-- a premise of what is told of the commits: a steady history, whose base has these bytes
pub record IsBased (reading : Reading) (route : Route) (past : Past) : Type 0 where
  pub steady : IsSteady reading past
  pub bytes : sealed_at (replay past).files route.base ≡ Some route.text

-- these tables stand among others, one right behind the other
pub record Holds (tables part : Tables) : Type 0 where
  pub before : Tables
  pub after : Tables
  pub is : tables ≡ before ++ (part ++ after)

-- the new table is a commit, and where A holds it stands right behind the base's
abbrev pub IsCommitted : List ℕ → List ℕ → Type 0 → Tables → Type 0
IsCommitted text bytes A tables = Holds tables (Some bytes ∷ []) × (A → Holds tables (Some text ∷ Some bytes ∷ []))

-- so is it after the rename, where it need not be acknowledged
abbrev pub IsRenamed : (Parts → ℕ) → List ℕ → List ℕ → Type 0 → Past → Type 0
IsRenamed number text bytes A past = IsCommitted text bytes A ((standing number past).acknowledged ++ (standing number past).unacknowledged)

-- and after the sync behind it, where it is acknowledged
abbrev pub IsPublished : (Parts → ℕ) → List ℕ → List ℕ → Type 0 → Past → Type 0
IsPublished number text bytes A past = IsCommitted text bytes A (standing number past).acknowledged

-- once a publish is done the new version is an acknowledged commit, right behind the base where that had the route's text in a steady history at the start
abbrev pub Publishes : Reading → Route → List ℕ → Past → Past → Type 0
Publishes reading route bytes old now = IsPublished reading.number route.text bytes (IsBased reading route old) now

-- the draft's name is taken
abbrev pub IsNameTaken : Route → Past → Type 0
IsNameTaken route past = is_named (replay past).files route.draft ≡ true

-- the target is taken
abbrev pub IsTargetTaken : Route → Past → Type 0
IsTargetTaken route past = is_named (replay past).files route.target ≡ true
