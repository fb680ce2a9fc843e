-- What a change of a table means.
use Rattle.std.specs.Prelude.{◌≡◌, ◌↔◌, ℕ, List, [], Option}
use Rattle.serde_json.specs.Data.{Data}
use Rattle.ice_store.specs.Places.{Parts}
use Rattle.ice_store.specs.declared.history.Failure.{Failure}
use Rattle.ice_store.specs.declared.history.Past.{Past}
use Rattle.ice_store.specs.declared.history.Step.{Step}
use Rattle.ice_store.specs.declared.history.StoreCall.{StoreCall}
use Rattle.ice_store.specs.declared.history.StoreCall.TheVariants.{Look}
use Rattle.commit_publish.specs.Kinds.{Failing, Kind}
use Rattle.commit_publish.specs.Kinds as kinds
use Rattle.commit_protocol.specs.declared.errors.AttemptErr.{AttemptErr}

-- the meanings of a change: which metadata succeeds a base's, when there is nothing to change, how a base is refused, and what was kept of the base on which it was asked;
-- which steps an attempt on a base with such an end takes, where this says which call failed; the identifiers that the last attempt drew, and the files that it made, in order; and what it found of the history
pub record Meanings : Type 1 where
  pub successor : Data → Data → Type 0
  pub same : Data → Type 0
  pub refuses : Data → AttemptErr → Type 0
  pub seen : Data → Type 0
  pub takes : Data → Kind → (StoreCall → Type 0) → List Step → Type 0
  pub draws : List ℕ
  pub made : List Parts
  pub met : Past → Past → Type 0

-- two meanings say the same of tables: which metadata succeeds which, where there is nothing to change, what is refused how, and which steps an attempt takes
pub record SaysSame (one other : Meanings) : Type 0 where
  pub successor : (tree next : Data) → one.successor tree next ↔ other.successor tree next
  pub same : (tree : Data) → one.same tree ↔ other.same tree
  pub refuses : (tree : Data) (e : AttemptErr) → one.refuses tree e ↔ other.refuses tree e
  pub takes : (tree : Data) (kind : Kind) (mark : Option Failure) (past : Past) (steps : List Step) → one.takes tree kind (Failing mark past) steps ↔ other.takes tree kind (Failing mark past) steps

-- two meanings tell the same of an attempt: which identifiers it drew, which files it made, and what it found of the history
pub record TellsSame (one other : Meanings) : Type 0 where
  pub draws : one.draws ≡ other.draws
  pub made : one.made ≡ other.made
  pub met : (old new : Past) → one.met old new ↔ other.met old new

-- an end by this kind before the first step of ours, where a failed call was a look
abbrev pub LooksBy : (StoreCall → Type 0) → Kind → Type 0
LooksBy Fails kinds.Done = Unit {0}
LooksBy Fails kinds.Told = Unit {0}
LooksBy Fails (kinds.Fault place) = Fails (Look place)
LooksBy Fails (kinds.Unknown version) = ⊥
LooksBy Fails (kinds.Lost version) = ⊥
LooksBy Fails kinds.Memory = Unit {0}

-- a change that only looks at the table: it takes no step, draws no identifier, and makes no file
abbrev pub looking : (Data → Data → Type 0) → (Data → Type 0) → (Data → AttemptErr → Type 0) → (Data → Type 0) → Meanings
looking successor same refuses seen = record {
  successor = successor;
  same = same;
  refuses = refuses;
  seen = seen;
  takes = λ tree kind Fails steps. (steps ≡ []) × LooksBy Fails kind;
  draws = [];
  made = [];
  met = λ old new. Unit {0};
}

-- whatever was kept of the base, it says the same of tables
pub looking_same : (successor : Data → Data → Type 0) (same : Data → Type 0) (refuses : Data → AttemptErr → Type 0) {seen other : Data → Type 0} → SaysSame (looking successor same refuses seen) (looking successor same refuses other)
looking_same successor same refuses = record {
  successor = λ tree next. (λ h. h, λ h. h);
  same = λ tree. (λ h. h, λ h. h);
  refuses = λ tree e. (λ h. h, λ h. h);
  takes = λ tree kind mark past steps. (λ h. h, λ h. h);
}

-- what makes this successor of each base, and no other
abbrev pub only_successor : Data → Meanings
only_successor built = looking (λ tree next. next ≡ built) (λ tree. ⊥) (λ tree e. ⊥) (λ tree. Unit {0})

-- what a procedure means: its change; what it needs of a base's properties; and what it reports of the base that it worked on
pub record Procedure : Type 1 where
  pub change : Meanings
  pub needs : Data → Type 0
  pub says : Data → List ℕ → Type 0
