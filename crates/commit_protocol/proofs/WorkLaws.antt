-- What work on a table did, by the kind of its end.
use Rattle.std.proofs.Common.{◌≡◌, inl, inr, ℕ, ◌+◌, Bool, List, [], ◌∷◌, ◌++◌, Option, Result, Ok, Err, refl, sym, ap, ◌∙◌, subst, append-nil}
use Rattle.serde_json.specs.Data.{Data}
use Rattle.serde_json.specs.View.{view}
use Rattle.ice_store.specs.Places.{Parts}
use Rattle.ice_store.specs.History.{later}
use Rattle.ice_store.specs.Since.{Since}
use Rattle.ice_store.proofs.HistoryLaws.{later-later}
use Rattle.ice_store.proofs.SinceLaws.{since_turned}
use Rattle.ice_store.specs.declared.history.Event.{Event}
use Rattle.ice_store.specs.declared.history.Failure.{Failure}
use Rattle.ice_store.specs.declared.history.Past.{Past}
use Rattle.ice_store.specs.declared.history.Step.{Step}
use Rattle.ice_store.specs.declared.history.StoreCall.{StoreCall}
use Rattle.ice_store.specs.declared.history.StoreCall.TheVariants.{Look, Take}
use Rattle.ice_store.specs.declared.store.StoreErr.{StoreErr}
use Rattle.ice_store.specs.declared.store.StoreErr.TheVariants as causes
use Rattle.commit_history.specs.Readings.{Rules}
use Rattle.commit_history.specs.Runs.{Ran, ours}
use Rattle.commit_history.proofs.Running.{ours-append}
use Rattle.table_metadata.specs.Edits.{HasVersionLimit, next_version}
use Rattle.commit_publish.specs.Kinds as kinds
use Rattle.commit_publish.specs.Kinds.{Kind, Failing}
use Rattle.commit_publish.specs.Leaves.{PublishLeaves}
use Rattle.commit_publish.specs.Logs.{MarksBy, PublishMarks, left_by}
use Rattle.commit_publish.specs.Steps.{Exactly, StopsAt, step_of, publish_plan, lost_plan}
use Rattle.commit_publish.specs.declared.steps.PublishCall.{PublishCall}
use Rattle.commit_publish.specs.declared.steps.PublishCall.TheVariants as asked
use Rattle.commit_publish.specs.declared.steps.Route.{Route}
use Rattle.commit_publish.specs.declared.publish.PublishErr.{PublishErr}
use Rattle.commit_publish.specs.declared.publish.PublishErr.TheVariants as publishes
use Rattle.commit_versions.specs.Opening.{OpenMarks}
use Rattle.commit_protocol.specs.Ends.{Publish, IsPublished, IsBeaten, IsStopped, IsFailed, TookBy, Works, IsThat, PublishedWorks, draft_of, new_place, new_version}
use Rattle.commit_protocol.specs.Kinds.{End, commit_end, kind_of, error_kind, commit_kind}
use Rattle.commit_protocol.specs.Meanings.{LooksBy}
use Rattle.commit_protocol.specs.Written.{IsOn, IsWritten, commit_error_by, next_tree, stop_error, version_at}
use Rattle.commit_protocol.specs.declared.committing.Base.{Base}
use Rattle.commit_protocol.specs.declared.committing.Written.{Written}
use Rattle.commit_protocol.specs.declared.opening.At.{At}
use Rattle.commit_protocol.specs.declared.errors.CommitErr.{CommitErr}
use Rattle.commit_protocol.specs.declared.errors.Committed.TheVariants.{Published}
use Rattle.commit_protocol.proofs.EndLaws.{since_at}

-- where the marks tell so of the exit
pub looked : (kind : Kind) (before mark : Option Failure) (o a : Option Past) (R : Past → Past → Type 0) → OpenMarks kind before mark a → Since o a R → Since o a (λ old new. R old new × LooksBy (Failing mark new) kind)
looked kinds.Done before mark o a R m since = since_turned o a R (λ old new. R old new × Unit {0}) since (λ old new r. (r, tt))
looked kinds.Told before mark o a R m since = since_turned o a R (λ old new. R old new × Unit {0}) since (λ old new r. (r, tt))
looked (kinds.Fault place) before mark o a R m since = since_at o a R (λ new. Failing mark new (Look place)) since m
looked (kinds.Unknown version) before mark o a R m since = absurd m
looked (kinds.Lost version) before mark o a R m since = absurd m
looked kinds.Memory before mark o a R m since = since_turned o a R (λ old new. R old new × Unit {0}) since (λ old new r. (r, tt))

-- Which steps a publish took, by its answer, and that a failed call is marked.

abbrev pub MadeBy : Parts → Parts → List ℕ → Result (Unit {0}) PublishErr → List Step → Type 0
MadeBy draft target bytes (Ok u) steps = steps ≡ publish_plan draft target bytes
MadeBy draft target bytes (Err publishes.NameTaken) steps = steps ≡ []
MadeBy draft target bytes (Err publishes.Contended) steps = steps ≡ lost_plan draft bytes
MadeBy draft target bytes (Err (publishes.Stopped e)) steps = StopsAt draft target bytes e.call e.cause steps

abbrev pub StopFails : (StoreCall → Type 0) → Step → StoreErr → Type 0
StopFails Fails step causes.Failed = Fails (Take step)
StopFails Fails step causes.Memory = Unit {0}

abbrev pub FailsBy : (StoreCall → Type 0) → Parts → Parts → List ℕ → Result (Unit {0}) PublishErr → Type 0
FailsBy Fails draft target bytes (Ok u) = Unit {0}
FailsBy Fails draft target bytes (Err publishes.NameTaken) = Unit {0}
FailsBy Fails draft target bytes (Err publishes.Contended) = Unit {0}
FailsBy Fails draft target bytes (Err (publishes.Stopped e)) = StopFails Fails (step_of draft target bytes e.call) e.cause

-- between two moments
pub record Went (draft target : Parts) (bytes : List ℕ) (r : Result (Unit {0}) PublishErr) (mark : Option Failure) (old new : Past) : Type 0 where
  pub events : List Event
  pub is : new ≡ later old events
  pub made : MadeBy draft target bytes r (ours events)
  pub fails : FailsBy (Failing mark new) draft target bytes r

module _ (rules : Rules) (route : Route) (bytes : List ℕ) (before mark : Option Failure) (o a : Option Past) where
  abbrev pub Leaves : Result (Unit {0}) PublishErr → Past → Past → Type 0
  Leaves r = PublishLeaves rules route bytes r

  abbrev pub Gone : Result (Unit {0}) PublishErr → Past → Past → Type 0
  Gone r = Went route.draft route.target bytes r mark

  went_stopped : (call : PublishCall) (cause : StoreErr) → MarksBy cause (Take (step_of route.draft route.target bytes call)) before mark a
      → Since o a (Leaves (Err (publishes.Stopped (record { call = call; cause = cause })))) → Since o a (Gone (Err (publishes.Stopped (record { call = call; cause = cause }))))
  went_stopped call causes.Memory m since = since_turned o a (Leaves (Err (publishes.Stopped (record { call = call; cause = causes.Memory })))) (Gone (Err (publishes.Stopped (record { call = call; cause = causes.Memory })))) since
      (λ old new run. record { events = run.events; is = run.is; made = run.made; fails = tt })
  went_stopped call causes.Failed m since =
      let L = Leaves (Err (publishes.Stopped (record { call = call; cause = causes.Failed }))) in
      let C = λ (new : Past). Failing mark new (Take (step_of route.draft route.target bytes call)) in
      since_turned o a (λ old new. L old new × C new) (Gone (Err (publishes.Stopped (record { call = call; cause = causes.Failed })))) (since_at o a L C since m)
      (λ old new h. record { events = h.0.events; is = h.0.is; made = h.0.made; fails = h.1 })

  pub went : (r : Result (Unit {0}) PublishErr) → PublishMarks route.draft route.target bytes r before mark a → Since o a (Leaves r) → Since o a (Gone r)
  went (Ok u) m since = since_turned o a (Leaves (Ok u)) (Gone (Ok u)) since (λ old new run. record { events = run.events; is = run.is; made = run.made; fails = tt })
  went (Err publishes.NameTaken) m since = since_turned o a (Leaves (Err publishes.NameTaken)) (Gone (Err publishes.NameTaken)) since (λ old new run. record { events = run.events; is = run.is; made = run.made; fails = tt })
  went (Err publishes.Contended) m since = since_turned o a (Leaves (Err publishes.Contended)) (Gone (Err publishes.Contended)) since (λ old new run. record { events = run.events; is = run.is; made = run.made; fails = tt })
  went (Err (publishes.Stopped e)) m since = went_stopped e.call e.cause m since

module _ (successor : Data → Data → Type 0) (Drawn : ℕ → Type 0) (table : Parts) (now : ℕ) (IsBase : Parts → ℕ → List ℕ → Data → Type 0) where
  abbrev pub P : Type 0
  P = Publish successor Drawn table now IsBase

  abbrev pub Took : (StoreCall → Type 0) → Kind → List ℕ → List Step → List Parts → Type 0
  Took = TookBy successor Drawn table now IsBase

  abbrev pub Work : End → Option Failure → List Parts → List Parts → Past → Past → Type 0
  Work = Works successor Drawn table now IsBase

  -- nothing was done
  took_none : (Fails : StoreCall → Type 0) (kind : Kind) → LooksBy Fails kind → Took Fails kind [] [] []
  took_none Fails kinds.Done l = (refl, refl)
  took_none Fails kinds.Told l = (refl, (refl, refl))
  took_none Fails (kinds.Fault place) l = (refl, inl (l, (refl, refl)))
  took_none Fails (kinds.Unknown version) l = absurd l
  took_none Fails (kinds.Lost version) l = absurd l
  took_none Fails kinds.Memory l = (refl, inl (refl, refl))

  pub works_none : (rules : Rules) (K : Past → Type 0) (error : Option CommitErr) (mark : Option Failure) (had has : List Parts) (old new : Past) → has ≡ had → LooksBy (Failing mark new) (error_kind error)
      → Ran rules (Exactly []) K old new → Work (record { versions = []; error = error }) mark had has old new
  works_none rules K error mark had has old new same looks run = record {
    events = run.events;
    is = run.is;
    left = [];
    noted = same ∙ sym (append-nil had);
    took = subst (λ (l : List Step). Took (Failing mark new) (error_kind error) [] l []) (sym run.made) (took_none (Failing mark new) (error_kind error) looks);
  }

  -- behind calls that took no step
  pub works_behind : (rules : Rules) (K : Past → Type 0) (end : End) (mark : Option Failure) (had has : List Parts) (old mid new : Past) → Ran rules (Exactly []) K old mid → Work end mark had has mid new → Work end mark had has old new
  works_behind rules K end mark had has old mid new run w =
      let steps : ours w.events ≡ ours (run.events ++ w.events) = sym (ours-append run.events w.events ∙ ap (λ (l : List Step). l ++ ours w.events) run.made) in
      record {
        events = run.events ++ w.events;
        is = w.is ∙ ap (λ (p : Past). later p w.events) run.is ∙ later-later old run.events w.events;
        left = w.left;
        noted = w.noted;
        took = subst (λ (l : List Step). Took (Failing mark new) (kind_of end) end.versions l w.left) steps w.took;
      }

  -- A publish.
  module _ (p : P) (version : ℕ) (is : version ≡ new_version successor Drawn table now IsBase p) (Fails : StoreCall → Type 0) (steps : List Step) where
    abbrev pub at_draft : Parts
    at_draft = draft_of successor Drawn table now IsBase p

    abbrev pub at_target : Parts
    at_target = new_place successor Drawn table now IsBase p

    abbrev pub Made : Result (Unit {0}) PublishErr → Type 0
    Made r = MadeBy at_draft at_target p.bytes r steps

    abbrev pub Failed : Result (Unit {0}) PublishErr → Type 0
    Failed r = FailsBy Fails at_draft at_target p.bytes r

    took_published : Made (Ok tt) → Took Fails kinds.Done (version ∷ []) steps []
    took_published made = (refl, record { publish = p; version_is = is; steps_are = made }, refl)

    took_stopped : (call : PublishCall) (cause : StoreErr) → StopsAt at_draft at_target p.bytes call cause steps → StopFails Fails (step_of at_draft at_target p.bytes call) cause
        → Took Fails (commit_kind (stop_error call cause at_draft table version)) [] steps (left_by at_draft at_target (Err (publishes.Stopped (record { call = call; cause = cause }))))
    took_stopped call causes.Memory made fails = (refl, inr (p, call, record { steps_are = made; left_is = refl }))
    took_stopped asked.Create causes.Failed made fails = (refl, inr (p, record { call = asked.Create; kind = refl; failed = fails; stopped = record { steps_are = made; left_is = refl } }))
    took_stopped asked.Append causes.Failed made fails = (refl, inr (p, record { call = asked.Append; kind = refl; failed = fails; stopped = record { steps_are = made; left_is = refl } }))
    took_stopped asked.Seal causes.Failed made fails = (refl, inr (p, record { call = asked.Seal; kind = refl; failed = fails; stopped = record { steps_are = made; left_is = refl } }))
    took_stopped asked.SyncDraft causes.Failed made fails = (refl, inr (p, record { call = asked.SyncDraft; kind = refl; failed = fails; stopped = record { steps_are = made; left_is = refl } }))
    took_stopped asked.Rename causes.Failed made fails = (refl, (p, is, record { call = asked.Rename; kind = refl; failed = fails; stopped = record { steps_are = made; left_is = refl } }))
    took_stopped asked.SyncRename causes.Failed made fails = (refl, (p, is, record { call = asked.SyncRename; kind = refl; failed = fails; stopped = record { steps_are = made; left_is = refl } }))
    took_stopped asked.Remove causes.Failed made fails = (refl, inr (p, record { call = asked.Remove; kind = refl; failed = fails; stopped = record { steps_are = made; left_is = refl } }))
    took_stopped asked.SyncRemoval causes.Failed made fails = (refl, inr (p, record { call = asked.SyncRemoval; kind = refl; failed = fails; stopped = record { steps_are = made; left_is = refl } }))

    took_failed : (e : PublishErr) → Made (Err e) → Failed (Err e) → Took Fails (commit_kind (commit_error_by e at_draft table version)) [] steps (left_by at_draft at_target (Err e))
    took_failed publishes.NameTaken made fails = (refl, (made, refl))
    took_failed publishes.Contended made fails = (refl, record { publish = p; version_is = is; steps_are = made }, refl)
    took_failed (publishes.Stopped e) made fails = took_stopped e.call e.cause made fails

  module _ (p : P) (version : ℕ) (is : version ≡ new_version successor Drawn table now IsBase p) (mark : Option Failure) (had has : List Parts) (old new : Past) where
    abbrev pub Moved : Parts → Parts → Result (Unit {0}) PublishErr → Type 0
    Moved draft target r = Went draft target p.bytes r mark old new

    abbrev pub draft_ : Parts
    draft_ = draft_of successor Drawn table now IsBase p

    abbrev pub target_ : Parts
    target_ = new_place successor Drawn table now IsBase p

    pub works_published : (draft target : Parts) → draft ≡ draft_ → target ≡ target_ → has ≡ had → Moved draft target (Ok tt) → Work (commit_end (Ok (Published version))) mark had has old new
    works_published draft target draft_is target_is same w =
        let there = subst (λ (d : Parts). Moved d target_ (Ok tt)) draft_is (subst (λ (t : Parts). Moved draft t (Ok tt)) target_is w) in
        record { events = there.events; is = there.is; left = []; noted = same ∙ sym (append-nil had); took = took_published p version is (Failing mark new) (ours there.events) there.made }

    pub works_failed : (draft target : Parts) (e : PublishErr) → draft ≡ draft_ → target ≡ target_ → has ≡ had ++ left_by draft target (Err e) → Moved draft target (Err e) → Work (commit_end (Err (commit_error_by e draft table version))) mark had has old new
    works_failed draft target e draft_is target_is noted w =
        let there = subst (λ (d : Parts). Moved d target_ (Err e)) draft_is (subst (λ (t : Parts). Moved draft t (Err e)) target_is w) in
        let left = subst (λ (d : Parts). has ≡ had ++ left_by d target_ (Err e)) draft_is (subst (λ (t : Parts). has ≡ had ++ left_by draft t (Err e)) target_is noted) in
        let here : Work (commit_end (Err (commit_error_by e draft_ table version))) mark had has old new =
        record { events = there.events; is = there.is; left = left_by draft_ target_ (Err e); noted = left; took = took_failed p version is (Failing mark new) (ours there.events) e there.made there.fails } in
        subst (λ (d : Parts). Work (commit_end (Err (commit_error_by e d table version))) mark had has old new) (sym draft_is) here

-- A new metadata file that was drawn up, whose publish ended.
module _ (Drawn : ℕ → Type 0) (table : Parts) (now : ℕ) (base : Base) (built : Data) (id : ℕ) (drawn : Drawn id) (w : Written) (is : IsWritten table base built now id w) where
  abbrev pub Only : Data → Data → Type 0
  Only tree next = next ≡ built

  -- of an opened table
  abbrev pub publish_of : (at : At) → IsOn base at → HasVersionLimit (view at.meta) → Publish Only Drawn table now (IsThat at)
  publish_of at on limit = record {
    place = at.place;
    last = at.version;
    text = at.text;
    tree = view at.meta;
    base = record { place_is = refl; last_is = refl; text_is = refl; tree_is = refl };
    limit = limit;
    bytes = w.bytes;
    writes = record {
      next = next_tree base built now;
      is = record { built = built; changed = refl; is = ap (λ (p : List ℕ). next_version p now built) on.previous_is };
      written = is.written;
      spells = is.spells.spells;
    };
    short = is.short;
    id = id;
    drawn = drawn;
  }

  module _ (mark : Option Failure) (had has : List Parts) (old new : Past) where
    abbrev pub Ended : Result (Unit {0}) PublishErr → Type 0
    Ended r = Went w.route.draft w.route.target w.bytes r mark old new

    target_at : (at : At) → IsOn base at → w.route.target ≡ version_at table (at.version + 1)
    target_at at on = is.target_is ∙ ap (λ (v : ℕ). version_at table (v + 1)) on.version_is

    next_at : (at : At) → IsOn base at → base.version + 1 ≡ at.version + 1
    next_at at on = ap (λ (v : ℕ). v + 1) on.version_is

    pub built_published : has ≡ had → Ended (Ok tt) → PublishedWorks table Drawn now base built (Ok (Published (base.version + 1))) mark had has old new
    built_published same ended at on limit =
        works_published Only Drawn table now (IsThat at) (publish_of at on limit) (base.version + 1) (next_at at on) mark had has old new w.route.draft w.route.target is.draft_is (target_at at on) same ended

    pub built_failed : (e : PublishErr) → has ≡ had ++ left_by w.route.draft w.route.target (Err e) → Ended (Err e) → PublishedWorks table Drawn now base built (Err (commit_error_by e w.route.draft table (base.version + 1))) mark had has old new
    built_failed e noted ended at on limit =
        works_failed Only Drawn table now (IsThat at) (publish_of at on limit) (base.version + 1) (next_at at on) mark had has old new w.route.draft w.route.target e is.draft_is (target_at at on) noted ended

-- Other successors, of bases that are told otherwise.
module _ (S T : Data → Data → Type 0) (Drawn : ℕ → Type 0) (table : Parts) (now : ℕ) (A B : Parts → ℕ → List ℕ → Data → Type 0)
    (based : (place : Parts) (last : ℕ) (text : List ℕ) (tree : Data) → A place last text tree → B place last text tree)
    (made : (place : Parts) (last : ℕ) (text : List ℕ) (tree built : Data) → A place last text tree → S tree built → T tree built) where
  abbrev pub turned : Publish S Drawn table now A → Publish T Drawn table now B
  turned p = record {
    place = p.place;
    last = p.last;
    text = p.text;
    tree = p.tree;
    base = based p.place p.last p.text p.tree p.base;
    limit = p.limit;
    bytes = p.bytes;
    writes = record {
      next = p.writes.next;
      is = record { built = p.writes.is.built; changed = made p.place p.last p.text p.tree p.writes.is.built p.base p.writes.is.changed; is = p.writes.is.is };
      written = p.writes.written;
      spells = p.writes.spells;
    };
    short = p.short;
    id = p.id;
    drawn = p.drawn;
  }

  stopped_turned : (cause : StoreErr) (p : Publish S Drawn table now A) (call : PublishCall) (steps : List Step) (left : List Parts) → IsStopped S Drawn table now A cause p call steps left → IsStopped T Drawn table now B cause (turned p) call steps left
  stopped_turned cause p call steps left s = record { steps_are = s.steps_are; left_is = s.left_is }

  failed_turned : (Fails : StoreCall → Type 0) (renaming : Bool) (p : Publish S Drawn table now A) (steps : List Step) (left : List Parts) → IsFailed S Drawn table now A Fails renaming p steps left → IsFailed T Drawn table now B Fails renaming (turned p) steps left
  failed_turned Fails renaming p steps left f = record { call = f.call; kind = f.kind; failed = f.failed; stopped = stopped_turned causes.Failed p f.call steps left f.stopped }

  published_turned : (v : ℕ) (steps : List Step) → IsPublished S Drawn table now A v steps → IsPublished T Drawn table now B v steps
  published_turned v steps i = record { publish = turned i.publish; version_is = i.version_is; steps_are = i.steps_are }

  beaten_turned : (v : ℕ) (steps : List Step) → IsBeaten S Drawn table now A v steps → IsBeaten T Drawn table now B v steps
  beaten_turned v steps i = record { publish = turned i.publish; version_is = i.version_is; steps_are = i.steps_are }

  took_turned : (Fails : StoreCall → Type 0) (kind : Kind) (versions : List ℕ) (steps : List Step) (left : List Parts) → TookBy S Drawn table now A Fails kind versions steps left → TookBy T Drawn table now B Fails kind versions steps left
  took_turned Fails kinds.Done [] steps left t = t
  took_turned Fails kinds.Done (v ∷ versions) steps left t = (t.0, published_turned v steps t.1, t.2)
  took_turned Fails kinds.Told versions steps left t = t
  took_turned Fails (kinds.Fault place) versions steps left t = (
    t.0,
    elim t.1 [
      | inl look ↦ inl look
      | inr publish ↦ inr (turned publish.0, failed_turned Fails _ publish.0 steps left publish.1)
    ],
  )
  took_turned Fails (kinds.Unknown version) versions steps left t = (t.0, (turned t.1.0, t.1.1, failed_turned Fails _ t.1.0 steps left t.1.2))
  took_turned Fails (kinds.Lost version) versions steps left t = (t.0, beaten_turned version steps t.1, t.2)
  took_turned Fails kinds.Memory versions steps left t = (
    t.0,
    elim t.1 [
      | inl none ↦ inl none
      | inr publish ↦ inr (turned publish.0, publish.1, stopped_turned causes.Memory publish.0 publish.1 steps left publish.2)
    ],
  )

  pub works_turned : (end : End) (mark : Option Failure) (had has : List Parts) (old new : Past) → Works S Drawn table now A end mark had has old new → Works T Drawn table now B end mark had has old new
  works_turned end mark had has old new w =
      record { events = w.events; is = w.is; left = w.left; noted = w.noted; took = took_turned (Failing mark new) (kind_of end) end.versions (ours w.events) w.left w.took }
