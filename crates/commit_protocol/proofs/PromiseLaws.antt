-- What every stop of a commit leaves, and what a published version succeeds.
use Rattle.std.proofs.Common.{◌≡◌, inl, inr, ℕ, zero, suc, List, [], ◌∷◌, ◌++◌, take, Option, Some, Result, Ok, Err, ap, ◌∙◌, sym, subst}
use Rattle.serde_json.specs.Data.{Data}
use Rattle.serde_json.specs.View.{view}
use Rattle.table_metadata.specs.Edits.{next_version}
use Rattle.metadata_view.specs.View.{location_of}
use Rattle.commit_versions.specs.Names.{version_text_of}
use Rattle.ice_store.specs.declared.history.Failure.{Failure}
use Rattle.ice_store.specs.Places.{Parts}
use Rattle.ice_store.specs.History.{Disk, replay, later}
use Rattle.ice_store.proofs.HistoryLaws.{later-later}
use Rattle.ice_store.proofs.OthersLaws.{later-nil}
use Rattle.ice_store.specs.declared.history.NameChange.{NameChange}
use Rattle.ice_store.specs.declared.history.Event.{Event}
use Rattle.ice_store.specs.declared.history.Past.{Past}
use Rattle.ice_store.specs.declared.history.Step.{Step}
use Rattle.commit_history.specs.Versions.{number_in}
use Rattle.commit_history.specs.Commits.{standing, IsLast}
use Rattle.commit_history.specs.Steady.{IsSteady, Each, IsFreshChange}
use Rattle.commit_history.specs.Tables.{Whole, table as table_in, sealed_at}
use Rattle.commit_history.specs.Runs.{Ran, Along, IsSafe}
use Rattle.commit_history.proofs.Following.{standing_disk}
use Rattle.commit_history.proofs.Running.{along_last}
use Rattle.commit_publish.specs.Stages.{Holds}
use Rattle.commit_publish.specs.Steps.{Anything}
use Rattle.commit_protocol.specs.Metadata.{metadata_reading, table_rules}
use Rattle.commit_protocol.specs.Meanings.{Meanings}
use Rattle.commit_protocol.specs.Rounds.{BuiltBy, CommitTells, IsUnasked}
use Rattle.commit_protocol.specs.Withdraws.{lost_answer}
use Rattle.commit_protocol.specs.declared.errors.RemoveErr.{RemoveErr}
use Rattle.commit_protocol.specs.declared.errors.RemoveErr.TheVariants as removals
use Rattle.commit_protocol.specs.Promises.{IsWholeAt, AtEachStop, HasPrefix, HasFiles, StopsHavePrefix, StopsHaveFiles, Succeeds, Succession}
use Rattle.commit_protocol.specs.Verdicts.{IsNobody}
use Rattle.commit_protocol.specs.declared.errors.CommitErr.{CommitErr}
use Rattle.commit_protocol.specs.declared.errors.Committed.{Committed}
use Rattle.commit_protocol.specs.declared.errors.Committed.TheVariants.{Same, Published}
use Rattle.ice_store.specs.Since.{Since}
use Rattle.ice_store.proofs.SinceLaws.{since_turned}
use Rattle.commit_protocol.proofs.StepLaws.{tells_steps}
use Rattle.commit_protocol.proofs.VerdictLaws.{opening_answered}

-- Stops.

along_take : (K : Past → Type 0) (past : Past) (es : List Event) (n : ℕ) → Along K past es → K (later past (take n es))
along_take K past [] zero h = subst K (sym (later-nil past)) h
along_take K past [] (suc n) h = subst K (sym (later-nil past)) h
along_take K past (e ∷ es) zero h = subst K (sym (later-nil past)) h.0
along_take K past (e ∷ es) (suc n) h = subst K (later-later past (e ∷ []) (take n es)) (along_take K (later past (e ∷ [])) es n h.1)

module _ (table : Parts) (allows : Past → Step → Type 0) (Made : List Step → Type 0) where
  abbrev pub Steps : Past → Past → Type 0
  Steps = Ran (table_rules table allows) Made Anything

  module _ (old : Past) (whole : IsWholeAt table old) where
    on_disk : (K : Disk → Type 0) → K (replay old) → K (standing (number_in table) old).disk
    on_disk K here = subst K (sym (standing_disk (number_in table) old)) here

    steady : IsSteady (metadata_reading table) old
    steady = record {
      whole = on_disk (λ d. Whole (metadata_reading table) d.files) whole.whole;
      last = on_disk (λ d. IsLast ((standing (number_in table) old).acknowledged ++ (standing (number_in table) old).unacknowledged) (table_in (number_in table) d.files)) whole.last;
      form = inl (subst (λ (cs : List NameChange). Each (IsFreshChange (metadata_reading table) (standing (number_in table) old).disk.files) cs) (sym (on_disk (λ d. d.pending ≡ []) whole.at_rest)) tt);
    }

    along : (new : Past) → (run : Steps old new) → (n : ℕ) → IsSafe (metadata_reading table) (later old (take n run.events))
    along new run n = along_take (IsSafe (metadata_reading table)) old run.events n (run.safe steady)

    pub prefixes : (new : Past) → Steps old new → AtEachStop old new (HasPrefix table)
    prefixes new run = record {
      events = run.events;
      is = run.is;
      each = λ n files image. let r = (along new run n).images files image in record { count = r.count; last = r.last };
    }

    pub files : (new : Past) → Steps old new → AtEachStop old new (HasFiles table)
    files new run = record { events = run.events; is = run.is; each = λ n found image. ((along new run n).images found image).whole }

-- Successors.

module _ (table : Parts) (allows : Past → Step → Type 0) (nobody : IsNobody allows) (meanings : Meanings) (given given' : Option (List ℕ)) (now : ℕ) where
  pub succeeds : (r : Result Committed CommitErr) (mark : Option Failure) (had has : List Parts) (old new : Past) → CommitTells table allows meanings given given' now r mark had has old new → Succeeds meanings.successor table now r old new
  succeeds (Ok (Same v)) mark had has old new o = tt
  succeeds (Ok (Published v)) mark had has old new o = elim o.then [
    | inl (_, inl u) ↦ absurd (no_publish u.0)
    | inl (_, inr (inl a)) ↦ absurd a.answer
    | inl (_, inr (inr b)) ↦ published b
    | inr w ↦ absurd (never_lost w.version w.outcome w.answer)
  ]
    where
      never_lost : (version : ℕ) (removed : Result (Unit {0}) RemoveErr) → Ok (Published v) ≡ lost_answer version removed → ⊥
      never_lost version (Ok u) is = cc (is)
      never_lost version (Err (removals.StoreFault place)) is = cc (is)
      never_lost version (Err removals.Memory) is = cc (is)

      no_publish : IsUnasked table allows meanings given given' now o.at (Ok (Published v)) → ⊥
      no_publish (inl is) = absurd (cc (is))
      no_publish (inr is) = absurd (cc (is.0))

      published : BuiltBy table allows meanings given given' now o.at (Ok (Published v)) mark had has o.mid new → Succession meanings.successor table now v old new
      published b =
          let p = b.published.3 in
          let d = p.drafted in
          let opened = opening_answered table allows nobody (Ok o.at) old o.mid o.opened in
          let stage = p.left.stage in
          let on_base : sealed_at (replay o.mid).files o.at.place ≡ Some o.at.text → sealed_at (replay b.ready).files d.route.base ≡ Some d.route.text =
          λ e. subst (λ (q : Parts). sealed_at (replay b.ready).files q ≡ Some d.route.text) (sym d.base_is) (b.prepared.stays o.at.place o.at.text o.opened.opened.listed.positive e ∙ ap (λ (t : List ℕ). Some t) (sym d.text_is)) in
          record {
            place = o.at.place;
            last = o.at.version;
            text = o.at.text;
            tree = view o.at.meta;
            base = opened.1;
            version = b.published.0;
            bytes = d.bytes;
            next = d.writes.next;
            next_is = record { built = b.built; changed = b.is; is = d.writes.is.is ∙ ap (λ (x : Data). next_version (version_text_of (location_of (view o.at.meta)) o.at.version) now x) d.writes.is.changed };
            written = d.writes.written;
            spells = d.writes.spells;
            short = d.short;
            acknowledged = stage.0;
            behind = λ steady. subst (λ (t : List ℕ). Holds (standing (number_in table) new).acknowledged (Some t ∷ Some d.bytes ∷ [])) d.text_is
                (stage.1 (record { steady = ready_steady b (subst (λ (q : Past). IsSteady (metadata_reading table) q) (sym opened.0) steady); bytes = on_base (o.opened.opened.sealed steady) }));
          }
        where
          ready_steady : (b : BuiltBy table allows meanings given given' now o.at (Ok (Published v)) mark had has o.mid new) → IsSteady (metadata_reading table) o.mid → IsSteady (metadata_reading table) b.ready
          ready_steady b steady = subst (λ (q : Past). IsSteady (metadata_reading table) q) (sym b.prepared.is) (along_last (IsSafe (metadata_reading table)) o.mid b.prepared.events (b.prepared.safe steady)).steady
  succeeds (Err e) mark had has old new o = tt

-- Of a commit, where its history is told.

module _ (table : Parts) (allows : Past → Step → Type 0) (meanings : Meanings) (given given' : Option (List ℕ)) (now : ℕ) (r : Result Committed CommitErr) (mark : Option Failure) (had has : List Parts) (o a : Option Past) where
  abbrev pub Told : Past → Past → Type 0
  Told = CommitTells table allows meanings given given' now r mark had has

  steps : (old new : Past) → Told old new → Steps table allows (λ l. Unit {0}) old new
  steps old new h = tells_steps table allows meanings given given' now r mark had has old new h

  pub stops_have_prefix : Since o a Told → Since o a (StopsHavePrefix table)
  stops_have_prefix told = since_turned o a Told (StopsHavePrefix table) told (λ old new h whole. prefixes table allows (λ l. Unit {0}) old whole new (steps old new h))

  pub stops_have_files : Since o a Told → Since o a (StopsHaveFiles table)
  stops_have_files told = since_turned o a Told (StopsHaveFiles table) told (λ old new h whole. files table allows (λ l. Unit {0}) old whole new (steps old new h))

  pub each_succeeds : IsNobody allows → Since o a Told → Since o a (Succeeds meanings.successor table now r)
  each_succeeds nobody told = since_turned o a Told (Succeeds meanings.successor table now r) told (succeeds table allows nobody meanings given given' now r mark had has)
