-- What the words of a run ask for, and how they are refused.
use Rattle.std.specs.Prelude.{◌≡◌, ◌⊎◌, ℕ, ◌+◌, List, [], ◌∷◌, ◌++◌, length, codes, Option, Some, None, Ok, Err}
use Rattle.ice_store.specs.Places.{Parts}
use Rattle.call_text.specs.Statement.{Spells, IsFault}
use Rattle.call_text.specs.declared.call.Call.{Call}
use Rattle.run_answers.specs.declared.status.Status.{Status}
use Rattle.run_answers.specs.declared.status.Status.TheVariants.{BadStatement, BadArgument, OutOfMemory}
use Rattle.upkeep_top.specs.Commands.{asked_as}
use Rattle.upkeep_top.specs.declared.task.Task.{Task}

-- the word is a statement that is built
pub record AsksFor (word : List ℕ) (number : ℕ) (task : Task) : Type 0 where
  pub call : Call
  pub spelled : Spells word call
  pub typed : asked_as number call ≡ Ok task

-- a word is refused: it is no statement from this byte on, or the argument table or the program refuses this name
abbrev pub IsBadWord : List ℕ → ℕ → Status → Type 0
IsBadWord word number status = ((at : ℕ) × IsFault word at × (status ≡ BadStatement number at)) ⊎ ((call : Call) × (name : List ℕ) × Spells word call × (asked_as number call ≡ Err name) × (status ≡ BadArgument number name))

-- the words ask for these statements, one each, numbered from here on
abbrev pub AskFrom : ℕ → List (List ℕ) → List Task → Type 0
AskFrom number [] tasks = tasks ≡ []
AskFrom number (word ∷ words) tasks = (task : Task) × (more : List Task) × AsksFor word number task × AskFrom (number + 1) words more × (tasks ≡ task ∷ more)

-- all statements are of this table
abbrev pub AreOf : Parts → List Task → Type 0
AreOf table [] = Unit {0}
AreOf table (task ∷ tasks) = (task.table ≡ table) × AreOf table tasks

-- the words ask for these statements, of which there are some, all of this table
pub record Ask (words : List (List ℕ)) (table : Parts) (tasks : List Task) : Type 0 where
  pub ask : AskFrom 0 words tasks
  pub first : Task
  pub more : List Task
  pub is : tasks ≡ first ∷ more
  pub of_table : AreOf table tasks

-- the first word that is no statement that is built
pub record HasBadWord (words : List (List ℕ)) (status : Status) : Type 0 where
  pub before : List (List ℕ)
  pub word : List ℕ
  pub after : List (List ℕ)
  pub is : words ≡ before ++ word ∷ after
  pub tasks : List Task
  pub ask : AskFrom 0 before tasks
  pub bad : IsBadWord word (length before) status

-- all words ask for something, and this is the first that names another table than the first word
pub record HasOtherTable (words : List (List ℕ)) (status : Status) : Type 0 where
  pub before : List Task
  pub other : Task
  pub after : List Task
  pub ask : AskFrom 0 words (before ++ other ∷ after)
  pub table : Parts
  pub of_table : AreOf table before
  pub first : Task
  pub more : List Task
  pub is : before ≡ first ∷ more
  pub differs : other.table ≡ table → ⊥
  pub status_is : status ≡ BadArgument (length before) (codes "table")

-- how words are refused: there are none, a word is bad, or one names another table
abbrev pub RefusesWords : List (List ℕ) → Status → Type 0
RefusesWords words status = ((words ≡ []) × (status ≡ BadStatement 0 0)) ⊎ (HasBadWord words status ⊎ HasOtherTable words status)

-- the first statement that names another table than this one stands at this place
pub record IsOther (table : Parts) (tasks : List Task) (at : ℕ) : Type 0 where
  pub before : List Task
  pub other : Task
  pub after : List Task
  pub is : tasks ≡ before ++ other ∷ after
  pub of_table : AreOf table before
  pub differs : other.table ≡ table → ⊥
  pub at_is : at ≡ length before

-- where the first statement of another table stands, if there is one
abbrev pub OtherAt : Parts → List Task → Option ℕ → Type 0
OtherAt table tasks None = AreOf table tasks
OtherAt table tasks (Some at) = IsOther table tasks at

-- there are statements, and all of them are of the first one's table
pub record AreOfOneTable (tasks : List Task) : Type 0 where
  pub first : Task
  pub more : List Task
  pub is : tasks ≡ first ∷ more
  pub of_table : AreOf first.table tasks

-- a statement names another table than the first one
pub record HasOther (tasks : List Task) (status : Status) : Type 0 where
  pub first : Task
  pub more : List Task
  pub is : tasks ≡ first ∷ more
  pub at : ℕ
  pub other : IsOther first.table tasks at
  pub status_is : status ≡ BadArgument at (codes "table")

-- why statements of tables are refused, or memory lacked
abbrev pub TablesRefuse : List Task → Status → Type 0
TablesRefuse tasks status = ((tasks ≡ []) × (status ≡ BadStatement 0 0)) ⊎ (HasOther tasks status ⊎ (status ≡ OutOfMemory))
