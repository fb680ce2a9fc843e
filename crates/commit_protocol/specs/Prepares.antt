-- What an attempt of a change does before its publish: the files that it makes, and the identifiers that it draws.
use Rattle.std.specs.Prelude.{◌≡◌, ◌⊎◌, ℕ, Bool, if◌then◌else◌, true, List, [], ◌∷◌, ◌++◌, Option, Some, Result, Ok, Err}
use Rattle.serde_json.specs.Data.{Data}
use Rattle.ice_store.specs.Files.{is_named}
use Rattle.ice_store.specs.Others.{WhereTold}
use Rattle.ice_store.specs.Places.{Parts, same_place}
use Rattle.ice_store.specs.declared.history.Failure.{Failure}
use Rattle.ice_store.specs.declared.history.Held.{Held}
use Rattle.ice_store.specs.declared.history.Past.{Past}
use Rattle.ice_store.specs.declared.history.Step.{Step}
use Rattle.ice_store.specs.declared.history.Step.TheVariants.{Create, Append, Seal, Rename, Remove, SyncNames}
use Rattle.ice_store.specs.declared.history.StoreCall.{StoreCall}
use Rattle.commit_history.specs.Runs.{Ran}
use Rattle.commit_history.specs.Versions.{number_in}
use Rattle.commit_publish.specs.Kinds.{Kind, Failing}
use Rattle.commit_publish.specs.Kinds as kinds
use Rattle.commit_publish.specs.Left.{IsOfCall, made_by}
use Rattle.commit_publish.specs.Stages.{InState}
use Rattle.commit_versions.specs.Opening.{OpenStage}
use Rattle.commit_protocol.specs.Meanings.{Meanings}
use Rattle.commit_protocol.specs.Metadata.{table_rules}
use Rattle.commit_protocol.specs.declared.change.Built.{Built}
use Rattle.commit_protocol.specs.declared.change.Built.TheVariants.{Same as Unchanged, Next}
use Rattle.commit_protocol.specs.declared.errors.AttemptErr.{AttemptErr}
use Rattle.commit_protocol.specs.declared.errors.AttemptErr.TheVariants as attempts
use Rattle.commit_protocol.specs.declared.errors.CommitErr.{CommitErr}
use Rattle.commit_protocol.specs.declared.errors.CommitErr.TheVariants.{Open, Attempt, Contended, CommitUnknown}
use Rattle.commit_protocol.specs.declared.errors.Committed.{Committed}
use Rattle.commit_protocol.specs.declared.errors.Committed.TheVariants.{Same, Published}

-- Steps.

-- a step that makes a file: its creation, an append to it, or its seal
abbrev pub IsMakingStep : Step → Type 0
IsMakingStep (Create place) = Unit {0}
IsMakingStep (Append place more) = Unit {0}
IsMakingStep (Seal place) = Unit {0}
IsMakingStep (Rename from to) = ⊥
IsMakingStep (Remove place) = ⊥
IsMakingStep SyncNames = ⊥

-- all steps do
abbrev pub OnlyMakes : List Step → Type 0
OnlyMakes [] = Unit {0}
OnlyMakes (step ∷ steps) = IsMakingStep step × OnlyMakes steps

-- no further place; or, after a failed call, the one that it names, which may be absent
abbrev pub MoreBy : (StoreCall → Type 0) → Kind → List Parts → Type 0
MoreBy Fails kinds.Done more = more ≡ []
MoreBy Fails kinds.Told more = more ≡ []
MoreBy Fails (kinds.Fault place) more = (more ≡ []) ⊎ ((call : StoreCall) × Fails call × IsOfCall call more)
MoreBy Fails (kinds.Unknown version) more = more ≡ []
MoreBy Fails (kinds.Lost version) more = more ≡ []
MoreBy Fails kinds.Memory more = more ≡ []

-- the steps of an attempt that ended so: they are some of those that its meanings give, they only make files, and the files that the meanings name are those that were created
pub record Prepared (Fails : StoreCall → Type 0) (meanings : Meanings) (tree : Data) (kind : Kind) (steps : List Step) : Type 0 where
  pub takes : meanings.takes tree kind Fails steps
  pub only : OnlyMakes steps
  pub more : List Parts
  pub noted : meanings.made ≡ made_by 0 [] steps ++ more
  pub cause : MoreBy Fails kind more

-- what an attempt on the version at a place leaves; a failed call is the one that is marked now; and only creations are pending
abbrev pub Prepares : Parts → (Past → Step → Type 0) → Meanings → Data → Kind → Parts → Option Failure → Past → Past → Type 0
Prepares table allows meanings tree kind base mark old new = Ran (table_rules table allows) (Prepared (Failing mark new) meanings tree kind) (InState (OpenStage (number_in table) base)) old new

-- Names.

-- whether a place is named by these files, or is one of these places
abbrev pub named_beside : List Parts → List Held → Parts → Bool
named_beside [] files place = is_named files place
named_beside (p ∷ places) files place = if same_place p place then true else named_beside places files place

-- Identifiers.

-- these identifiers were drawn, where the source tells what it gives afterwards; told before it was told, too
abbrev pub GivesAll : List ℕ → Option (List ℕ) → Option (List ℕ) → Type 0
GivesAll [] before after = after ≡ before
GivesAll (id ∷ ids) before after = WhereTold after (λ values. (given : List ℕ) × (before ≡ Some given) × (values ≡ given ++ id ∷ ids))

-- these were drawn, and behind them this one
abbrev pub GivesLast : List ℕ → Option (List ℕ) → Option (List ℕ) → ℕ → Type 0
GivesLast ids before after id = GivesAll (ids ++ id ∷ []) before after

-- Answers that need nothing.

-- nothing is to be changed, or the base is refused, or stands against the change
abbrev pub IsSpare : Result Built AttemptErr → Type 0
IsSpare (Ok Unchanged) = Unit {0}
IsSpare (Ok (Next meta)) = ⊥
IsSpare (Err (attempts.Refused refusal)) = Unit {0}
IsSpare (Err (attempts.Conflict place other)) = Unit {0}
IsSpare (Err (attempts.NameTaken place)) = ⊥
IsSpare (Err (attempts.Read e)) = ⊥

-- no file was made, and no identifier drawn
pub record MakesNothing (meanings : Meanings) : Type 0 where
  pub made : meanings.made ≡ []
  pub draws : meanings.draws ≡ []

-- where an attempt answers so, it made no file and drew no identifier
abbrev pub SparesAll : Meanings → Result Built AttemptErr → Type 0
SparesAll meanings result = IsSpare result → MakesNothing meanings

-- a commit that ended with such an answer
abbrev pub IsSpareEnd : Result Committed CommitErr → Type 0
IsSpareEnd (Ok (Same version)) = Unit {0}
IsSpareEnd (Ok (Published version)) = ⊥
IsSpareEnd (Err (Open e)) = ⊥
IsSpareEnd (Err (Attempt e)) = IsSpare (Err e)
IsSpareEnd (Err (Contended version)) = ⊥
IsSpareEnd (Err (CommitUnknown version)) = ⊥
