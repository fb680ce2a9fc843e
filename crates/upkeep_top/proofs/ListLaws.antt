-- What a statement did that takes no step of ours.
use Rattle.std.proofs.Common.{◌≡◌, ℕ, ℤ, List, [], Option, Some, None, Ok, Err, refl, sym, subst}
use Rattle.serde_json.specs.Data.{Data}
use Rattle.ice_store.specs.Others.{WhereTold}
use Rattle.ice_store.specs.Places.{Parts}
use Rattle.ice_store.specs.Since.{Since}
use Rattle.ice_store.specs.History.{replay}
use Rattle.ice_store.specs.declared.faults.ReadErr.TheVariants.{Missing, Damaged, Unsupported, StoreFault, Memory}
use Rattle.ice_store.specs.declared.history.Failure.{Failure}
use Rattle.ice_store.specs.declared.history.Past.{Past}
use Rattle.table_metadata.specs.declared.cause.EditErr.TheVariants.{UnknownSnapshot as Lacks}
use Rattle.commit_publish.specs.Kinds.{Failing}
use Rattle.commit_publish.specs.Steps.{Anything}
use Rattle.commit_versions.specs.Opening.{open_kind}
use Rattle.commit_versions.specs.declared.types.OpenErr.{OpenErr}
use Rattle.commit_versions.specs.declared.types.OpenErr.TheVariants.{NoTable, LocationDiffers, Read as NotRead}
use Rattle.commit_protocol.specs.Kinds.{End, error_kind}
use Rattle.commit_protocol.specs.Metadata.{table_rules}
use Rattle.commit_protocol.specs.Verdicts.{IsTable, OpenVerdict}
use Rattle.commit_protocol.specs.declared.errors.Refusal.{Refusal}
use Rattle.commit_protocol.specs.declared.errors.Refusal.TheVariants.{UnknownSnapshot}
use Rattle.commit_protocol.specs.declared.errors.AttemptErr.TheVariants.{Refused, Read}
use Rattle.commit_protocol.specs.declared.errors.CommitErr.{CommitErr}
use Rattle.commit_protocol.specs.declared.errors.CommitErr.TheVariants.{Open, Attempt}
use Rattle.commit_protocol.specs.Meanings.{LooksBy}
use Rattle.commit_protocol.proofs.WorkLaws.{works_none}
use Rattle.run_answers.specs.declared.status.Status.{Status}
use Rattle.run_refs.specs.Ancestors.{Lists}
use Rattle.run_refs.specs.Procedures.{RefusesListing, list_procedure}
use Rattle.run_refs.specs.Reports.{list_report}
use Rattle.run_refs.specs.declared.ancestors.Ancestor.{Ancestor}
use Rattle.upkeep_top.specs.Points.{Point}
use Rattle.upkeep_top.specs.Statements.{Nobody, Did, Ends, Reports, ReportsOn, RestsBy}
use Rattle.upkeep_top.specs.Verdicts.{OnTable, TaskVerdict, meanings_of}
use Rattle.upkeep_top.specs.declared.task.Task.{Task}
use Rattle.upkeep_top.specs.declared.task.Work.{Work}
use Rattle.upkeep_top.specs.declared.task.Work.TheVariants.{List as Listing}
use Rattle.upkeep_top.proofs.StepLaws.{ran_none, safe_none}

-- no version was published
abbrev pub stops : Option CommitErr → End
stops error = record { versions = []; error = error }

-- nothing was done
pub did_nothing : (task : Task) (now : ℕ) (Drawn : ℕ → Type 0) (error : Option CommitErr) (mark : Option Failure) (had : List Parts) (old : Past)
    → TaskVerdict task now Drawn (replay old).files (stops error) → RestsBy (error_kind error) old → LooksBy (Failing mark old) (error_kind error) → Did task now Drawn (stops error) mark had had old old
did_nothing task now Drawn error mark had old cause rests looks = record {
  cause = cause;
  safe = safe_none task.table old;
  rests = rests;
  works = works_none (meanings_of task now).change.successor Drawn task.table now (IsTable task.table (replay old).files) (table_rules task.table Nobody) Anything error mark had had old old refl looks (ran_none task.table old);
  succeed = tt;
}

-- an opening's error leaves whatever was pending
error_rests : (e : OpenErr) (past : Past) → RestsBy (open_kind e) past
error_rests (NoTable place) past = tt
error_rests (LocationDiffers place location) past = tt
error_rests (NotRead (Missing place)) past = tt
error_rests (NotRead (Damaged place at)) past = tt
error_rests (NotRead (Unsupported place what)) past = tt
error_rests (NotRead (StoreFault place)) past = tt
error_rests (NotRead Memory) past = tt

module _ (word : ℕ) (table : Parts) (given : Option ℤ) (now : ℕ) (Drawn : ℕ → Type 0) (mark : Option Failure) (had : List Parts) (old : Past) where
  abbrev pub task : Task
  task = record { word = word; table = table; work = Listing given }

  abbrev pub DidSo : Option CommitErr → Type 0
  DidSo error = Did task now Drawn (stops error) mark had had old old

  module _ (place : Parts) (last : ℕ) (bytes : List ℕ) (tree : Data) (is : IsTable table (replay old).files place last bytes tree) where
    pub did_list : (replay old).pending ≡ [] → (rows : List Ancestor) → Lists given tree (Ok rows) → DidSo None
    did_list rests rows lists = did_nothing task now Drawn None mark had old
        (record { place = place; last = last; bytes = bytes; tree = tree; is = is; has = tt; holds = (rows, lists) }) rests tt

    pub reports_list : (status : Status) (before after : Option (List ℕ)) (rows : List Ancestor) → Lists given tree (Ok rows) → Reports before after (list_report rows) status
        → OnTable table (replay old).files (ReportsOn (list_procedure given) before after status)
    reports_list status before after rows lists put = record { place = place; last = last; bytes = bytes; tree = tree; is = is; holds = (list_report rows, (rows, lists, refl), put) }

    pub did_refuse : (id : ℤ) → Lists given tree (Err (Lacks id)) → DidSo (Some (Attempt (Refused (UnknownSnapshot id))))
    did_refuse id lacks = did_nothing task now Drawn (Some (Attempt (Refused (UnknownSnapshot id)))) mark had old
        (refl, record { place = place; last = last; bytes = bytes; tree = tree; is = is; has = tt; holds = (id, lacks, refl) }) tt tt

  pub did_stop : DidSo (Some (Attempt (Read Memory)))
  did_stop = did_nothing task now Drawn (Some (Attempt (Read Memory))) mark had old (refl, tt) tt tt

  pub did_not_open : (e : OpenErr) → OpenVerdict table (replay old).files (Err e) → LooksBy (Failing mark old) (open_kind e) → DidSo (Some (Open e))
  did_not_open e cause looks = did_nothing task now Drawn (Some (Open e)) mark had old (refl, cause) (error_rests e old) looks

-- where nothing happened
pub since_still : (o : Option Past) (C : Past → Type 0) (R T : Past → Past → Type 0) → WhereTold o C → Since o o R → ((old : Past) → C old → R old old → T old old) → Since o o T
since_still None C R T told s turn = refl
since_still (Some old) C R T told s turn =
    let same : s.now ≡ old = cc (s.is) in
    record { now = old; is = refl; holds = turn old told (subst (λ (x : Past). R old x) same s.holds) }

-- so, where the history at the exit is told otherwise
pub since_idle : (o a : Option Past) (C : Past → Type 0) (R T : Past → Past → Type 0) → a ≡ o → WhereTold o C → Since o a R → ((old : Past) → C old → R old old → T old old) → Since o a T
since_idle o a C R T still told s turn =
    let here : Since o o R = subst (λ (x : Option Past). Since o x R) still s in
    subst (λ (x : Option Past). Since o x T) (sym still) (since_still o C R T told here turn)

-- What is told of the errors of a listing.

-- the snapshot that lacks is refused of a table, and no other cause
pub refuses_lack : (given : Option ℤ) (tree : Data) (id : ℤ) → Lists given tree (Err (Lacks id)) → (refusal : Refusal)
    → ◌≡◌ {A = Option CommitErr} (Some (Attempt (Refused (UnknownSnapshot id)))) (Some (Attempt (Refused refusal))) → (base : Data) × RefusesListing given base (Refused refusal)
refuses_lack given tree id lacks refusal is = let same : refusal ≡ UnknownSnapshot id = cc (is) in (tree, (id, lacks, cc (same)))

-- A statement whose work is this one.

pub ends_of : (task : Task) (work : Work) (status : Status) (p q : Point) → work ≡ task.work → Ends (record { word = task.word; table = task.table; work = work }) status p q → Ends task status p q
ends_of task work status p q same ends = subst (λ (w : Work). Ends (record { word = task.word; table = task.table; work = w }) status p q) same ends
