-- Laws of an attempt: the change is asked, and what it built is published.
use Rattle.std.proofs.Common.{◌≡◌, inl, inr, ℕ, ◌+◌, ◌≤◌, List, [], ◌++◌, length, Option, Result, Ok, Err, codes, unwrap_or, option_and_then, refl, sym, ap, ◌∙◌, subst}
use Rattle.serde_json.specs.Data.{Data}
use Rattle.serde_json.specs.Find.{as_str}
use Rattle.serde_json.specs.View.{view}
use Rattle.ice_store.specs.Places.{Parts}
use Rattle.ice_store.specs.Since.{Since}
use Rattle.ice_store.specs.declared.history.Past.{Past}
use Rattle.ice_store.specs.declared.history.Step.{Step}
use Rattle.ice_store.specs.declared.faults.ReadErr.TheVariants.{Missing, Damaged, Unsupported, StoreFault, Memory}
use Rattle.table_metadata.specs.Edits.{HasVersionLimit, next_version, kept_versions, version_limit}
use Rattle.metadata_view.specs.View.{location_of}
use Rattle.table_metadata.proofs.EditLaws.{stays-next}
use Rattle.commit_history.specs.Mannered.{IsMannered}
use Rattle.commit_history.specs.Readings.{rules_of}
use Rattle.commit_history.specs.Runs.{Ran}
use Rattle.commit_history.specs.Versions.{number_in}
use Rattle.commit_history.proofs.Numbering.{numbering}
use Rattle.commit_history.proofs.Running.{ran_then, ran_turned, begins}
use Rattle.commit_publish.specs.Leaves.{PublishLeaves}
use Rattle.commit_publish.specs.Stages.{IsNarrow, IsNameTaken, IsLost, InState}
use Rattle.commit_publish.specs.Steps.{Exactly, Anything, StopsAt, publish_plan, lost_plan}
use Rattle.commit_publish.specs.declared.steps.PublishCall.{PublishCall}
use Rattle.commit_publish.specs.declared.steps.PublishCall.TheVariants as asked
use Rattle.ice_store.specs.declared.store.StoreErr.{StoreErr}
use Rattle.ice_store.specs.declared.store.StoreErr.TheVariants as causes
use Rattle.commit_publish.specs.declared.publish.PublishErr.{PublishErr}
use Rattle.commit_publish.specs.declared.publish.PublishErr.TheVariants as publishes
use Rattle.commit_publish.proofs.CallLaws as calls
use Rattle.commit_publish.proofs.CallLaws.{Work, RR}
use Rattle.commit_versions.specs.Names.{version_text_of}
use Rattle.commit_versions.specs.Opening.{OpenStage, file_limit}
use Rattle.commit_protocol.specs.Meanings.{Meanings, only_successor}
use Rattle.commit_protocol.specs.Metadata.{IsMetadata, IsAt, metadata_content, table_rules, metadata_local}
use Rattle.commit_protocol.specs.Attempts.{Drafted, RefusedBy, TellsLimit, AttemptLeaves, CommitLeaves, stopped_at}
use Rattle.commit_protocol.specs.Written.{IsOn, next_tree, IsWritten, IsUnwritten, commit_error_by, stop_error, PublishedLeaves, version_at}
use Rattle.commit_protocol.specs.declared.opening.At.{At}
use Rattle.commit_protocol.specs.declared.committing.Base.{Base}
use Rattle.commit_protocol.specs.declared.committing.Written.{Written}
use Rattle.commit_protocol.specs.declared.errors.AttemptErr.{AttemptErr}
use Rattle.commit_protocol.specs.declared.errors.AttemptErr.TheVariants as attempts
use Rattle.commit_protocol.specs.declared.errors.CommitErr.{CommitErr}
use Rattle.commit_protocol.specs.declared.errors.CommitErr.TheVariants.{Open, Attempt, Contended, CommitUnknown}
use Rattle.commit_protocol.specs.declared.errors.Committed.{Committed}
use Rattle.commit_protocol.specs.declared.errors.Committed.TheVariants.{Same, Published}

-- the next version's metadata is at the location of what was built
pub location_next : (previous : List ℕ) (now : ℕ) (built : Data) → location_of (next_version previous now built) ≡ location_of built
unfolding next_version
location_next previous now built = ap (λ (o : Option Data). unwrap_or (option_and_then as_str o) []) (stays-next previous (kept_versions (version_limit built)) now built (codes "location") (λ e. absurd (cc (e))) (λ e. absurd (cc (e))))

-- Calls that add no step before a publish.
module _ (x : Work) (K : Past → Type 0) (old mid new : Past) (idle : RR x (Exactly []) K old mid) where
  behind : (P : List Step → Type 0) (L : Past → Type 0) → RR x P L mid new → RR x P L old new
  behind P L run = ran_then x.rules (Exactly []) P P K L (λ l k e p. subst (λ z. P (z ++ k)) (sym e) p) old mid new idle run

  pub publish_after : (r : Result (Unit {0}) PublishErr) → PublishLeaves x.rules x.route x.bytes r mid new → PublishLeaves x.rules x.route x.bytes r old new
  publish_after (Ok u) run = calls.join_published x old mid new [] (publish_plan x.route.draft x.route.target x.bytes) K idle run
  publish_after (Err publishes.NameTaken) run = behind (Exactly []) (IsNameTaken x.route) run
  publish_after (Err publishes.Contended) run = behind (Exactly (lost_plan x.route.draft x.bytes)) (InState (IsLost x.route.target)) run
  publish_after (Err (publishes.Stopped e)) run = behind (StopsAt x.route.draft x.route.target x.bytes e.call e.cause) Anything run

-- metadata of the table may be published
pub metadata_narrow : (table : Parts) (bytes : List ℕ) (tree : Data) → IsMetadata table bytes tree → length bytes ≤ file_limit → IsNarrow (metadata_content table) bytes
metadata_narrow table bytes tree is short = record { good = λ sealed. ((tree, is), short); unreached = λ other sealed place r. absurd r }

module _ (table : Parts) (allows : Past → Step → Type 0) (mannered : IsMannered (table_rules table allows)) (now : ℕ) (Drawn : ℕ → Type 0) where
  abbrev pub Idle_ : (Past → Type 0) → Past → Past → Type 0
  Idle_ = Ran (table_rules table allows) (Exactly [])

  forget : (K : Past → Type 0) (old new : Past) → Idle_ K old new → Idle_ Anything old new
  forget K old new run = ran_turned (table_rules table allows) (Exactly []) (Exactly []) K Anything old new run (λ l e. e) (λ h. tt)

  idle_then : (K L : Past → Type 0) (old mid new : Past) → Idle_ K old mid → Idle_ L mid new → Idle_ L old new
  idle_then K L old mid new a b = ran_then (table_rules table allows) (Exactly []) (Exactly []) (Exactly []) K L (λ l k e f. ap (λ (z : List Step). z ++ k) e ∙ f) old mid new a b

  pub stays : (K : Past → Type 0) (old : Past) → K old → Idle_ K old old
  stays K old here = begins (table_rules table allows) (numbering table) (metadata_local table) K old here

  pub starts : (K : Past → Type 0) (old : Past) → K old → Idle_ Anything old old
  starts K old here = forget K old old (stays K old here)

  -- A file that was drawn up.

  module _ (base : Base) (built : Data) (id : ℕ) (drawn : Drawn id) where
    abbrev pub BuiltLeaves : Result Committed CommitErr → Past → Past → Type 0
    BuiltLeaves = PublishedLeaves table allows Drawn now base built

    -- as it is made of an opened table
    next_is : (at : At) → IsOn base at → next_tree base built now ≡ next_version (version_text_of (location_of (view at.meta)) at.version) now built
    next_is at on = ap (λ (p : List ℕ). next_version p now built) on.previous_is

    drafted : (w : Written) → IsWritten table base built now id w → (at : At) → IsOn base at → Drafted Drawn (only_successor built).successor table now at
    drafted w is at on = record {
      id = id;
      drawn = drawn;
      route = w.route;
      base_is = is.base_is ∙ on.place_is;
      text_is = is.text_is ∙ on.text_is;
      draft_is = is.draft_is;
      target_is = is.target_is ∙ ap (λ (v : ℕ). version_at table (v + 1)) on.version_is;
      aim = is.aim;
      bytes = w.bytes;
      writes = record { next = next_tree base built now; is = record { built = built; changed = refl; is = next_is at on }; written = is.written; spells = is.spells.spells };
      short = is.short;
    }

    -- the version that was aimed at is the one after the opened table's
    next_version_is : (at : At) → IsOn base at → base.version + 1 ≡ at.version + 1
    next_version_is at on = ap (λ (v : ℕ). v + 1) on.version_is

    module _ (w : Written) (is : IsWritten table base built now id w) (old new : Past) where
      abbrev pub Left : Result (Unit {0}) PublishErr → Type 0
      Left r = PublishLeaves (table_rules table allows) w.route w.bytes r old new

      pub published_ok : Left (Ok tt) → BuiltLeaves (Ok (Published (base.version + 1))) old new
      unfolding drafted
      published_ok left at on limit = (next_version_is at on, limit, tt, record { drafted = drafted w is at on; left = left })

      abbrev pub Stops : PublishCall → StoreErr → Type 0
      Stops call cause = Left (stopped_at call cause)

      abbrev pub Told : CommitErr → Type 0
      Told e = BuiltLeaves (Err e) old new

      abbrev pub StopTold : PublishCall → StoreErr → Type 0
      StopTold call cause = Told (stop_error call cause w.route.draft table (base.version + 1))

      lacked : (call : PublishCall) → Stops call causes.Memory → StopTold call causes.Memory
      unfolding drafted
      lacked call left at on limit = inr (record { call = call; limit = limit; published = record { drafted = drafted w is at on; left = left } })

      failed : (call : PublishCall) → Stops call causes.Failed → StopTold call causes.Failed
      unfolding drafted
      failed asked.Create left at on limit = inr (record { call = asked.Create; kind = refl; drafted = drafted w is at on; place_is = refl; left = left })
      failed asked.Append left at on limit = inr (record { call = asked.Append; kind = refl; drafted = drafted w is at on; place_is = refl; left = left })
      failed asked.Seal left at on limit = inr (record { call = asked.Seal; kind = refl; drafted = drafted w is at on; place_is = refl; left = left })
      failed asked.SyncDraft left at on limit = inr (record { call = asked.SyncDraft; kind = refl; drafted = drafted w is at on; place_is = refl; left = left })
      failed asked.Rename left at on limit = record { call = asked.Rename; kind = refl; version_is = next_version_is at on; limit = limit; published = record { drafted = drafted w is at on; left = left } }
      failed asked.SyncRename left at on limit = record { call = asked.SyncRename; kind = refl; version_is = next_version_is at on; limit = limit; published = record { drafted = drafted w is at on; left = left } }
      failed asked.Remove left at on limit = inr (record { call = asked.Remove; kind = refl; drafted = drafted w is at on; place_is = refl; left = left })
      failed asked.SyncRemoval left at on limit = inr (record { call = asked.SyncRemoval; kind = refl; drafted = drafted w is at on; place_is = refl; left = left })

      stopped : (call : PublishCall) (cause : StoreErr) → Stops call cause → StopTold call cause
      stopped call causes.Memory left = lacked call left
      stopped call causes.Failed left = failed call left

      pub published_err : (e : PublishErr) → Left (Err e) → BuiltLeaves (Err (commit_error_by e w.route.draft table (base.version + 1))) old new
      unfolding drafted
      published_err publishes.NameTaken left at on limit = inr (record { limit = limit; drafted = drafted w is at on; place_is = refl; left = left })
      published_err publishes.Contended left at on limit = (next_version_is at on, limit, record { drafted = drafted w is at on; left = left })
      published_err (publishes.Stopped e) left at on limit = stopped e.call e.cause left at on limit

    pub moved_in : (w : Written) (is : IsWritten table base built now id w) (o a : Option Past) (r : Result (Unit {0}) PublishErr)
        → Since o a (PublishLeaves (rules_of metadata_content w.route.table allows) w.route w.bytes r) → Since o a (PublishLeaves (table_rules table allows) w.route w.bytes r)
    moved_in w is o a r told = subst (λ (t : Parts). Since o a (PublishLeaves (table_rules t allows) w.route w.bytes r)) is.table_is told

    pub unwritten_err : (e : AttemptErr) (old new : Past) → IsUnwritten table base built now id e → Idle_ Anything old new → BuiltLeaves (Err (Attempt e)) old new
    unwritten_err (attempts.Refused refusal) old new is idle at on limit = absurd is
    unwritten_err (attempts.Conflict place other) old new is idle at on limit = absurd is
    unwritten_err (attempts.NameTaken place) old new is idle at on limit = absurd is
    unwritten_err (attempts.Read (Missing place)) old new is idle at on limit = absurd is
    unwritten_err (attempts.Read (Damaged place where_)) old new is idle at on limit = absurd is
    unwritten_err (attempts.Read (Unsupported place what)) old new is idle at on limit =
        inr (is.0, (limit, record { id = id; drawn = drawn; place_is = is.1; next = next_tree base built now; is = record { built = built; changed = refl; is = next_is at on }; long = is.2 }, idle))
    unwritten_err (attempts.Read (StoreFault place)) old new is idle at on limit = absurd is
    unwritten_err (attempts.Read Memory) old new is idle at on limit = inl idle

  -- The attempt.

  module _ (at : At) (meanings : Meanings) where
    abbrev pub Leaves_ : Result Committed CommitErr → Past → Past → Type 0
    Leaves_ = AttemptLeaves table allows meanings Drawn now at

    -- memory lacked before the change was asked
    pub memory_by : (K : Past → Type 0) (old : Past) → K old → Leaves_ (Err (Attempt (attempts.Read Memory))) old old
    memory_by K old here = inl (starts K old here)

    pub unlimited_by : (e : CommitErr) (K : Past → Type 0) (old : Past) → TellsLimit at.place e → (HasVersionLimit (view at.meta) → ⊥) → K old → Leaves_ (Err e) old old
    unlimited_by e K old (inl is) none here = subst (λ (x : CommitErr). Leaves_ (Err x) old old) (sym is) (inr (refl, (refl, none, starts K old here)))
    unlimited_by e K old (inr is) none here = subst (λ (x : CommitErr). Leaves_ (Err x) old old) (sym is) (inl (starts K old here))

  module _ (at : At) (base : Base) (on : IsOn base at) (meanings : Meanings) where
    abbrev pub Leaves : Result Committed CommitErr → Past → Past → Type 0
    Leaves = AttemptLeaves table allows meanings Drawn now at

    abbrev pub KO : Past → Type 0
    KO = InState (OpenStage (number_in table) base.place)

    pub same_by : (old new : Past) → HasVersionLimit (view at.meta) → meanings.same (view at.meta) → meanings.seen (view at.meta) → Idle_ KO old new → Leaves (Ok (Same base.version)) old new
    same_by old new limit is saw run = (on.version_is, limit, is, saw, forget KO old new run)

    pub refused_by : (e : AttemptErr) (old new : Past) → HasVersionLimit (view at.meta) → meanings.refuses (view at.meta) e → Idle_ KO old new → Leaves (Err (Attempt e)) old new
    refused_by e old new limit is run = by_err e is
      where
        by : (e : AttemptErr) → meanings.refuses (view at.meta) e → RefusedBy table allows meanings Drawn now at e old new
        by e is = record { limit = limit; refuses_it = is; idle = forget KO old new run }

        by_err : (e : AttemptErr) → meanings.refuses (view at.meta) e → Leaves (Err (Attempt e)) old new
        by_err (attempts.Refused refusal) is = by (attempts.Refused refusal) is
        by_err (attempts.Conflict place other) is = by (attempts.Conflict place other) is
        by_err (attempts.NameTaken place) is = inl (by (attempts.NameTaken place) is)
        by_err (attempts.Read (Missing place)) is = by (attempts.Read (Missing place)) is
        by_err (attempts.Read (Damaged place where_)) is = inl (by (attempts.Read (Damaged place where_)) is)
        by_err (attempts.Read (Unsupported place what)) is = inl (by (attempts.Read (Unsupported place what)) is)
        by_err (attempts.Read (StoreFault place)) is = inl (by (attempts.Read (StoreFault place)) is)
        by_err (attempts.Read Memory) is = inl (forget KO old new run)

    module _ (built : Data) (change_is : meanings.successor (view at.meta) built) (limit : HasVersionLimit (view at.meta)) (saw : meanings.seen (view at.meta)) (old mid new : Past) (run : Idle_ KO old mid) where
      turned : Drafted Drawn (only_successor built).successor table now at → Drafted Drawn meanings.successor table now at
      turned d = record {
        id = d.id;
        drawn = d.drawn;
        route = d.route;
        base_is = d.base_is;
        text_is = d.text_is;
        draft_is = d.draft_is;
        target_is = d.target_is;
        aim = d.aim;
        bytes = d.bytes;
        writes = record {
          next = d.writes.next;
          is = record { built = d.writes.is.built; changed = subst (λ (b : Data). meanings.successor (view at.meta) b) (sym d.writes.is.changed) change_is; is = d.writes.is.is };
          written = d.writes.written;
          spells = d.writes.spells;
        };
        short = d.short;
      }

      abbrev pub Drafts : Type 0
      Drafts = Drafted Drawn (only_successor built).successor table now at

      moved : (d : Drafts) (r : Result (Unit {0}) PublishErr) → PublishLeaves (table_rules table allows) d.route d.bytes r mid new → PublishLeaves (table_rules table allows) d.route d.bytes r old new
      moved d r left = publish_after (record { rules = table_rules table allows; ruled = numbering table; localized = metadata_local table; mannered = mannered; route = d.route; bytes = d.bytes; aim = d.aim }) KO old mid new run r left

      idle_on : Idle_ Anything mid new → Idle_ Anything old new
      idle_on idle = idle_then KO Anything old mid new run idle

      pub attempt_then : (r : Result Committed CommitErr) → AttemptLeaves table allows (only_successor built) Drawn now at r mid new → Leaves r old new
      unfolding turned
      attempt_then (Ok (Same version)) b = absurd b.2
      attempt_then (Ok (Published version)) b = (b.0, limit, saw, record { drafted = turned b.3.drafted; left = moved b.3.drafted (Ok tt) b.3.left })
      attempt_then (Err (Open e)) b = absurd b
      attempt_then (Err (Attempt (attempts.Refused refusal))) b = absurd b.refuses_it
      attempt_then (Err (Attempt (attempts.Conflict place other))) b = absurd b.refuses_it
      attempt_then (Err (Attempt (attempts.NameTaken place))) (inl b) = absurd b.refuses_it
      attempt_then (Err (Attempt (attempts.NameTaken place))) (inr b) = inr (record { limit = limit; drafted = turned b.drafted; place_is = b.place_is; left = moved b.drafted (Err publishes.NameTaken) b.left })
      attempt_then (Err (Attempt (attempts.Read (Missing place)))) b = absurd b.refuses_it
      attempt_then (Err (Attempt (attempts.Read (Damaged place where_)))) (inl b) = absurd b.refuses_it
      attempt_then (Err (Attempt (attempts.Read (Damaged place where_)))) (inr b) = absurd (b.1.1 limit)
      attempt_then (Err (Attempt (attempts.Read (Unsupported place what)))) (inl b) = absurd b.refuses_it
      attempt_then (Err (Attempt (attempts.Read (Unsupported place what)))) (inr b) =
          let t = b.1.1 in
          inr (b.0, (limit, record { id = t.id; drawn = t.drawn; place_is = t.place_is; next = t.next; is = record { built = t.is.built; changed = subst (λ (d : Data). meanings.successor (view at.meta) d) (sym t.is.changed) change_is; is = t.is.is }; long = t.long }, idle_on b.1.2))
      attempt_then (Err (Attempt (attempts.Read (StoreFault place)))) (inl b) = absurd b.refuses_it
      attempt_then (Err (Attempt (attempts.Read (StoreFault place)))) (inr b) = inr (record { call = b.call; kind = b.kind; drafted = turned b.drafted; place_is = b.place_is; left = moved b.drafted (stopped_at b.call causes.Failed) b.left })
      attempt_then (Err (Attempt (attempts.Read Memory))) (inl b) = inl (idle_on b)
      attempt_then (Err (Attempt (attempts.Read Memory))) (inr b) = inr (record { call = b.call; limit = limit; published = record { drafted = turned b.published.drafted; left = moved b.published.drafted (stopped_at b.call causes.Memory) b.published.left } })
      attempt_then (Err (Contended version)) b = (b.0, limit, record { drafted = turned b.2.drafted; left = moved b.2.drafted (Err publishes.Contended) b.2.left })
      attempt_then (Err (CommitUnknown version)) b = record { call = b.call; kind = b.kind; version_is = b.version_is; limit = limit; published = record { drafted = turned b.published.drafted; left = moved b.published.drafted (stopped_at b.call causes.Failed) b.published.left } }

-- A table was opened, and then attempted.
module _ (table : Parts) (allows : Past → Step → Type 0) (now : ℕ) (Drawn : ℕ → Type 0) (meanings : Meanings) where
  abbrev pub Commit : Result Committed CommitErr → Past → Past → Type 0
  Commit = CommitLeaves table allows meanings Drawn now

  pub committed_by : (at : At) (r : Result Committed CommitErr) (old mid new : Past) → IsAt table allows at old mid
      → AttemptLeaves table allows meanings Drawn now at r mid new → Commit r old new
  committed_by at (Ok c) old mid new opened then = record { at = at; mid = mid; opened = opened; then = then }
  committed_by at (Err (Open e)) old mid new opened then = absurd then
  committed_by at (Err (Attempt e)) old mid new opened then = record { at = at; mid = mid; opened = opened; then = then }
  committed_by at (Err (Contended version)) old mid new opened then = record { at = at; mid = mid; opened = opened; then = then }
  committed_by at (Err (CommitUnknown version)) old mid new opened then = record { at = at; mid = mid; opened = opened; then = then }
