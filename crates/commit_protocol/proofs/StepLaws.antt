-- However a commit ends, its steps were proper, and each stop within it is safe.
use Rattle.std.proofs.Common.{◌≡◌, inl, inr, ℕ, false, List, [], ◌++◌, Option, Result, Ok, Err}
use Rattle.serde_json.specs.Data.{Data}
use Rattle.serde_json.specs.View.{view}
use Rattle.ice_store.specs.Given.{Gives}
use Rattle.ice_store.specs.Places.{Parts}
use Rattle.ice_store.specs.declared.history.Failure.{Failure}
use Rattle.ice_store.specs.Files.{is_named}
use Rattle.ice_store.specs.declared.history.Past.{Past}
use Rattle.ice_store.specs.declared.history.Step.{Step}
use Rattle.ice_store.specs.declared.faults.What.TheVariants.{Codec, FormatVersion, Transform, SchemaSize, BlockBytes, ItemCount, FileBytes, GroupBytes, NoManifestList, VersionNumber, Sequence}
use Rattle.ice_store.specs.declared.faults.ReadErr.{ReadErr}
use Rattle.ice_store.specs.declared.faults.ReadErr.TheVariants.{Missing, Damaged, Unsupported, StoreFault, Memory}
use Rattle.commit_history.specs.Tables.{version}
use Rattle.commit_history.specs.Versions.{number_in}
use Rattle.commit_history.specs.Runs.{Ran}
use Rattle.commit_history.proofs.Running.{ran_then, ran_turned}
use Rattle.commit_publish.specs.Stages.{InState, IsLost, IsNameTaken, Publishes}
use Rattle.commit_publish.specs.Steps.{Anything, Exactly, StopsAt, publish_plan, lost_plan}
use Rattle.commit_publish.specs.declared.steps.Route.{Route}
use Rattle.commit_publish.specs.Leaves.{PublishLeaves}
use Rattle.commit_publish.specs.declared.publish.PublishErr.{PublishErr}
use Rattle.commit_publish.specs.declared.publish.PublishErr.TheVariants as publishes
use Rattle.commit_versions.specs.Opening.{IsOpened, OpenStage, IsBeyond, IsLong, ReadErrLeaves}
use Rattle.commit_versions.specs.declared.types.OpenErr.{OpenErr}
use Rattle.commit_versions.specs.declared.types.OpenErr.TheVariants.{NoTable, LocationDiffers, Read}
use Rattle.commit_publish.specs.Kinds as kinds
use Rattle.commit_publish.specs.Kinds.{Kind, Failing}
use Rattle.commit_protocol.specs.Kinds.{commit_end, kind_of}
use Rattle.commit_protocol.specs.Meanings.{Meanings, only_successor}
use Rattle.commit_protocol.specs.Prepares.{Prepared, Prepares}
use Rattle.commit_protocol.specs.Rounds.{AttemptTells, CommitTells, OpenedFirst, RoundTells}
use Rattle.commit_protocol.specs.Metadata.{OpenErrLeaves, metadata_reading, table_rules}
use Rattle.commit_protocol.specs.Withdraws.{WithdrawStage, Withdraws}
use Rattle.ice_store.specs.declared.store.StoreErr.TheVariants as causes
use Rattle.commit_protocol.specs.Attempts.{PublishedBy, AttemptLeaves, CommitLeaves, Attempted, stopped_at}
use Rattle.commit_protocol.specs.declared.opening.At.{At}
use Rattle.commit_protocol.specs.declared.errors.AttemptErr.TheVariants as attempts
use Rattle.commit_protocol.specs.declared.errors.CommitErr.{CommitErr}
use Rattle.commit_protocol.specs.declared.errors.CommitErr.TheVariants.{Open, Attempt, Contended, CommitUnknown}
use Rattle.commit_protocol.specs.declared.errors.Committed.{Committed}
use Rattle.commit_protocol.specs.declared.errors.Committed.TheVariants.{Same, Published}

module _ (table : Parts) (allows : Past → Step → Type 0) where
  abbrev pub number : Parts → ℕ
  number = number_in table

  abbrev pub Some_steps : List Step → Type 0
  Some_steps steps = Unit {0}

  abbrev pub Steps : Past → Past → Type 0
  Steps = Ran (table_rules table allows) Some_steps Anything

  pub some : (M : List Step → Type 0) (K : Past → Type 0) (old new : Past) → Ran (table_rules table allows) M K old new → Steps old new
  some M K old new run = ran_turned (table_rules table allows) M Some_steps K Anything old new run (λ l m. tt) (λ k. tt)

  pub both : (old mid new : Past) → Steps old mid → Steps mid new → Steps old new
  both old mid new a b = ran_then (table_rules table allows) Some_steps Some_steps Some_steps Anything Anything (λ l k m n. tt) old mid new a b

  abbrev pub Idle : Past → Past → Type 0
  Idle = Ran (table_rules table allows) (Exactly []) Anything

  still : (K : Past → Type 0) (old new : Past) → Ran (table_rules table allows) (Exactly []) K old new → Idle old new
  still K old new run = ran_turned (table_rules table allows) (Exactly []) (Exactly []) K Anything old new run (λ l e. e) (λ k. tt)

  pub opened_idle : (base : Parts) (text : List ℕ) (old now : Past) → IsOpened (table_rules table allows) base text old now → Idle old now
  opened_idle base text old now o = still (InState (OpenStage number base)) old now o.listed.run

  read_err_idle : (e : ReadErr) (old now : Past) → ReadErrLeaves (table_rules table allows) e old now → Idle old now
  read_err_idle (Missing place) old now r = still (InState (λ d. is_named d.files place ≡ false)) old now r.run
  read_err_idle (Damaged place at) old now r = absurd r
  read_err_idle (Unsupported place VersionNumber) old now r = still (InState (λ d. IsBeyond number place d.files)) old now r
  read_err_idle (Unsupported place FileBytes) old now r = still (InState (λ d. IsLong place d.files)) old now r.run
  read_err_idle (Unsupported place Codec) old now r = absurd r
  read_err_idle (Unsupported place FormatVersion) old now r = absurd r
  read_err_idle (Unsupported place Transform) old now r = absurd r
  read_err_idle (Unsupported place SchemaSize) old now r = absurd r
  read_err_idle (Unsupported place BlockBytes) old now r = absurd r
  read_err_idle (Unsupported place ItemCount) old now r = absurd r
  read_err_idle (Unsupported place GroupBytes) old now r = absurd r
  read_err_idle (Unsupported place NoManifestList) old now r = absurd r
  read_err_idle (Unsupported place Sequence) old now r = absurd r
  read_err_idle (StoreFault place) old now r = r
  read_err_idle Memory old now r = r

  -- an opening takes no step of ours
  pub open_err_idle : (e : OpenErr) (old now : Past) → OpenErrLeaves table allows e old now → Idle old now
  open_err_idle (NoTable place) old now r = still (InState (λ d. version number d.files ≡ 0)) old now r.1
  open_err_idle (LocationDiffers place location) old now r = opened_idle r.1.0 r.1.1.text old now r.1.1.opened
  open_err_idle (Read (Missing place)) old now r = read_err_idle (Missing place) old now r
  open_err_idle (Read (Damaged place at)) old now r = opened_idle place r.text old now r.opened
  open_err_idle (Read (Unsupported place what)) old now (inl r) = read_err_idle (Unsupported place what) old now r
  open_err_idle (Read (Unsupported place what)) old now (inr r) = opened_idle place r.text old now r.opened
  open_err_idle (Read (StoreFault place)) old now r = read_err_idle (StoreFault place) old now r
  open_err_idle (Read Memory) old now r = read_err_idle Memory old now r

  pub publish_steps : (route : Route) (bytes : List ℕ) (r : Result (Unit {0}) PublishErr) (old new : Past) → PublishLeaves (table_rules table allows) route bytes r old new → Steps old new
  publish_steps route bytes (Ok u) old new run = some (Exactly (publish_plan route.draft route.target bytes)) (Publishes (metadata_reading table) route bytes old) old new run
  publish_steps route bytes (Err publishes.NameTaken) old new run = some (Exactly []) (IsNameTaken route) old new run
  publish_steps route bytes (Err publishes.Contended) old new run = some (Exactly (lost_plan route.draft bytes)) (InState (IsLost route.target)) old new run
  publish_steps route bytes (Err (publishes.Stopped e)) old new run = some (StopsAt route.draft route.target bytes e.call e.cause) Anything old new run

  module _ (meanings : Meanings) (Drawn : ℕ → Type 0) (now : ℕ) where
    module _ (at : At) (old new : Past) where
      abbrev pub Attempts : Result Committed CommitErr → Type 0
      Attempts r = AttemptLeaves table allows meanings Drawn now at r old new

      idle : Ran (table_rules table allows) (Exactly []) Anything old new → Steps old new
      idle run = some (Exactly []) Anything old new run

      published : (r : Result (Unit {0}) PublishErr) → PublishedBy table allows meanings Drawn now at r old new → Steps old new
      published r p = publish_steps p.drafted.route p.drafted.bytes r old new p.left

      pub attempt_steps : (r : Result Committed CommitErr) → Attempts r → Steps old new
      attempt_steps (Ok (Same v)) a = idle a.4
      attempt_steps (Ok (Published v)) a = published (Ok tt) a.3
      attempt_steps (Err (Open e)) a = absurd a
      attempt_steps (Err (Attempt (attempts.Refused refusal))) a = idle a.idle
      attempt_steps (Err (Attempt (attempts.Conflict place other))) a = idle a.idle
      attempt_steps (Err (Attempt (attempts.NameTaken place))) (inl a) = idle a.idle
      attempt_steps (Err (Attempt (attempts.NameTaken place))) (inr a) = publish_steps a.drafted.route a.drafted.bytes (Err publishes.NameTaken) old new a.left
      attempt_steps (Err (Attempt (attempts.Read (Missing place)))) a = idle a.idle
      attempt_steps (Err (Attempt (attempts.Read (Damaged place where_)))) (inl a) = idle a.idle
      attempt_steps (Err (Attempt (attempts.Read (Damaged place where_)))) (inr a) = idle a.1.2
      attempt_steps (Err (Attempt (attempts.Read (Unsupported place what)))) (inl a) = idle a.idle
      attempt_steps (Err (Attempt (attempts.Read (Unsupported place what)))) (inr a) = idle a.1.2
      attempt_steps (Err (Attempt (attempts.Read (StoreFault place)))) (inl a) = idle a.idle
      attempt_steps (Err (Attempt (attempts.Read (StoreFault place)))) (inr a) = publish_steps a.drafted.route a.drafted.bytes (stopped_at a.call causes.Failed) old new a.left
      attempt_steps (Err (Attempt (attempts.Read Memory))) (inl a) = idle a
      attempt_steps (Err (Attempt (attempts.Read Memory))) (inr a) = published (stopped_at a.call causes.Memory) a.published
      attempt_steps (Err (Contended v)) a = published (Err publishes.Contended) a.2
      attempt_steps (Err (CommitUnknown v)) a = published (stopped_at a.call causes.Failed) a.published

    attempted_steps : (r : Result Committed CommitErr) (old new : Past) → Attempted table allows meanings Drawn now r old new → Steps old new
    attempted_steps r old new a = both old a.mid new (some (Exactly []) Anything old a.mid (opened_idle a.at.place a.at.text old a.mid a.opened.opened)) (attempt_steps a.at a.mid new r a.then)

    pub commit_steps : (r : Result Committed CommitErr) (old new : Past) → CommitLeaves table allows meanings Drawn now r old new → Steps old new
    commit_steps (Ok c) old new a = attempted_steps (Ok c) old new a
    commit_steps (Err (Open e)) old new a = some (Exactly []) Anything old new (open_err_idle e old new a)
    commit_steps (Err (Attempt e)) old new a = attempted_steps (Err (Attempt e)) old new a
    commit_steps (Err (Contended v)) old new a = attempted_steps (Err (Contended v)) old new a
    commit_steps (Err (CommitUnknown v)) old new a = attempted_steps (Err (CommitUnknown v)) old new a

  -- of a change that makes files
  module _ (meanings : Meanings) (given given' : Option (List ℕ)) (now : ℕ) where
    module _ (at : At) (r : Result Committed CommitErr) (mark : Option Failure) (had has : List Parts) where
      prepared_steps : (tree : Data) (kind : Kind) (base : Parts) (before : Option Failure) (old new : Past) → Prepares table allows meanings tree kind base before old new → Steps old new
      prepared_steps tree kind base before old new run = some (Prepared (Failing before new) meanings tree kind) (InState (OpenStage number base)) old new run

      pub round_steps : (old new : Past) → AttemptTells table allows meanings given given' now at r mark had has old new → Steps old new
      round_steps old new (inl u) = some (Exactly []) Anything old new u.3
      round_steps old new (inr (inl a)) = prepared_steps (view at.meta) (kind_of (commit_end r)) at.place mark old new a.prepared
      round_steps old new (inr (inr b)) =
          both old b.ready new (prepared_steps (view at.meta) kinds.Done at.place b.before old b.ready b.prepared) (attempt_steps (only_successor b.built) (Gives b.asked given') now at b.ready new r b.published)

    whole_steps : (at : At) (r : Result Committed CommitErr) (mark : Option Failure) (had has : List Parts) (old new : Past) → RoundTells table allows meanings given given' now at r mark had has old new → Steps old new
    whole_steps at r mark had has old new (inl t) = round_steps at r mark had has old new t.1
    whole_steps at r mark had has old new (inr w) =
        both old w.beaten new (round_steps at (Err (Contended w.version)) w.before had (had ++ meanings.made) old w.beaten w.tried)
        (some (Withdraws (Failing mark new) table meanings.made w.outcome (had ++ meanings.made) has) (WithdrawStage w.outcome) w.beaten new w.withdrawn)

    opened_steps : (r : Result Committed CommitErr) (mark : Option Failure) (had has : List Parts) (old new : Past) → OpenedFirst table allows meanings given given' now r mark had has old new → Steps old new
    opened_steps r mark had has old new o = both old o.mid new (some (Exactly []) Anything old o.mid (opened_idle o.at.place o.at.text old o.mid o.opened.opened)) (whole_steps o.at r mark had has o.mid new o.then)

    pub tells_steps : (r : Result Committed CommitErr) (mark : Option Failure) (had has : List Parts) (old new : Past) → CommitTells table allows meanings given given' now r mark had has old new → Steps old new
    tells_steps (Ok c) mark had has old new h = opened_steps (Ok c) mark had has old new h
    tells_steps (Err (Open e)) mark had has old new h = some (Exactly []) Anything old new (open_err_idle e old new h.0)
    tells_steps (Err (Attempt e)) mark had has old new h = opened_steps (Err (Attempt e)) mark had has old new h
    tells_steps (Err (Contended v)) mark had has old new h = opened_steps (Err (Contended v)) mark had has old new h
    tells_steps (Err (CommitUnknown v)) mark had has old new h = opened_steps (Err (CommitUnknown v)) mark had has old new h
