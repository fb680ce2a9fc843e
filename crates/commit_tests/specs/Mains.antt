-- What the tests' own change means to a commit.
use Rattle.std.specs.Prelude.{◌≡◌, ℕ, ℤ, codes, None}
use Rattle.serde_json.specs.Data.{Data}
use Rattle.table_metadata.specs.Edits.{with_ref}
use Rattle.metadata_view.specs.View.{snapshots_of}
use Rattle.metadata_view.specs.Walk.{snapshot_with}
use Rattle.ice_store.specs.declared.faults.ReadErr.TheVariants.{Missing, Damaged, Unsupported, StoreFault, Memory}
use Rattle.commit_protocol.specs.declared.errors.Refusal.TheVariants.{UnknownSnapshot}
use Rattle.commit_protocol.specs.declared.errors.AttemptErr.{AttemptErr}
use Rattle.commit_protocol.specs.declared.errors.AttemptErr.TheVariants.{Refused, Conflict, NameTaken, Read}
use Rattle.commit_protocol.specs.Meanings.{Meanings, SaysSame, looking, looking_same}

-- the second metadata is the first with `main` at the snapshot, at this moment
abbrev pub HasMain : ℤ → ℕ → Data → Data → Type 0
HasMain id now tree next = next ≡ with_ref (codes "main") id now tree

-- the table has no such snapshot, or memory runs out
abbrev pub RefusesMain : ℤ → Data → AttemptErr → Type 0
RefusesMain id tree (Refused refusal) = (refusal ≡ UnknownSnapshot id) × (snapshot_with (snapshots_of tree) id ≡ None)
RefusesMain id tree (Conflict place other) = ⊥
RefusesMain id tree (NameTaken place) = ⊥
RefusesMain id tree (Read (Missing place)) = ⊥
RefusesMain id tree (Read (Damaged place at)) = ⊥
RefusesMain id tree (Read (Unsupported place what)) = ⊥
RefusesMain id tree (Read (StoreFault place)) = ⊥
RefusesMain id tree (Read Memory) = Unit {0}

-- a change that sets `main` to a snapshot, also where it is there already
abbrev pub sets_main : ℤ → ℕ → Meanings
sets_main id now = looking (HasMain id now) (λ tree. ⊥) (RefusesMain id) (λ tree. Unit {0})

-- it says the same of tables as it does
pub sets_main_same : (id : ℤ) (now : ℕ) → SaysSame (sets_main id now) (sets_main id now)
sets_main_same id now = looking_same (HasMain id now) (λ tree. ⊥) (RefusesMain id)
