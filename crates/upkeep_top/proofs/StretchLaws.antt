-- Which versions a run tells of, and which places it leaves.
use Rattle.std.proofs.Common.{◌≡◌, inl, inr, ℕ, suc, ◌+◌, List, [], ◌∷◌, ◌++◌, length, Option, Some, None, refl, sym, ap, ◌∙◌, subst, arith, append-nil, append_assoc, length-append}
use Rattle.ice_store.specs.Places.{Parts}
use Rattle.ice_store.specs.Calls.{Rose}
use Rattle.ice_store.specs.Given.{Gives}
use Rattle.ice_store.specs.History.{replay, later}
use Rattle.ice_store.proofs.HistoryLaws.{later-later}
use Rattle.ice_store.proofs.OthersLaws.{later-nil}
use Rattle.ice_store.specs.Since.{Since}
use Rattle.ice_store.proofs.SinceLaws.{since_turned, since_then, since_start}
use Rattle.ice_store.specs.declared.history.Event.{Event}
use Rattle.ice_store.specs.declared.history.Failure.{Failure}
use Rattle.ice_store.specs.declared.history.Held.{Held}
use Rattle.ice_store.specs.declared.history.Past.{Past}
use Rattle.ice_store.specs.declared.history.Step.{Step}
use Rattle.ice_store.specs.declared.history.StoreCall.{StoreCall}
use Rattle.commit_history.specs.Runs.{ours}
use Rattle.commit_history.specs.Versions.{number_in}
use Rattle.commit_history.proofs.Running.{ours-append}
use Rattle.commit_publish.specs.Kinds as kinds
use Rattle.commit_publish.specs.Kinds.{Kind, Counts, Failing}
use Rattle.commit_publish.specs.Left.{IsLeft, IsMore, made_by}
use Rattle.commit_publish.specs.Steps.{Anything}
use Rattle.commit_protocol.specs.Ends.{Works}
use Rattle.commit_protocol.specs.Kinds.{error_kind, kind_of}
use Rattle.commit_protocol.specs.Verdicts.{IsTable}
use Rattle.commit_protocol.specs.declared.errors.CommitErr.{CommitErr}
use Rattle.run_answers.specs.declared.status.Status.{Status}
use Rattle.run_answers.specs.declared.status.Status.TheVariants.{Done}
use Rattle.upkeep_top.specs.Chains.{Leads}
use Rattle.upkeep_top.specs.Points.{Point}
use Rattle.upkeep_top.specs.Promises.{Renamed, ToldBy, all_settled, all_renamed}
use Rattle.upkeep_top.specs.Runs.{IsDone, RunsBy, TellsVersions, LeavesPlaces}
use Rattle.upkeep_top.specs.Statements.{Ends}
use Rattle.upkeep_top.specs.Verdicts.{meanings_of, status_kind}
use Rattle.upkeep_top.specs.Words.{AreOf}
use Rattle.upkeep_top.specs.declared.task.Task.{Task}
use Rattle.upkeep_top.proofs.KindLaws.{TellsKind, done_kind, leads_kept, tells_kind}
use Rattle.upkeep_top.proofs.LeftLaws.{one_publish, took_left}
use Rattle.upkeep_top.proofs.StopLaws.{DidOf, asked_of, tables_are, told_any}
use Rattle.upkeep_top.proofs.VersionLaws.{IsTold, Took, done_told, renamed_append, the_draft, the_target, took_told}

-- an error tells no versions
pub told_of : (error : Option CommitErr) (versions : List ℕ) → ((e : CommitErr) → error ≡ Some e → versions ≡ []) → IsTold (error_kind error) versions
told_of None versions none = inl refl
told_of (Some e) versions none = inr (none e refl)

-- Statements that are Done: versions were added, to which their steps renamed files, with a sync behind each; of the places that the steps made none is left.
pub record Stretch (number : Parts → ℕ) (before after : List ℕ) (old new : Past) : Type 0 where
  pub events : List Event
  pub is : new ≡ later old events
  pub more : List ℕ
  pub added : after ≡ before ++ more
  pub settles : (vs : List ℕ) → all_renamed number (all_settled vs) (ours events) ≡ all_settled (vs ++ more)
  pub clears : (n : ℕ) (rest : List Step) → made_by (length more + n) [] (ours events ++ rest) ≡ made_by n [] rest

module _ (number : Parts → ℕ) where
  stretch_none : (committed : List ℕ) (old : Past) → Stretch number committed committed old old
  stretch_none committed old = record {
    events = [];
    is = sym (later-nil old);
    more = [];
    added = sym (append-nil committed);
    settles = λ vs. ap all_settled (sym (append-nil vs));
    clears = λ n rest. let e : length {A = ℕ} [] + n ≡ n = omega arith in ap (λ (k : ℕ). made_by k [] rest) e;
  }

  stretch_then : (before mid after : List ℕ) (old between new : Past) → Stretch number before mid old between → Stretch number mid after between new → Stretch number before after old new
  stretch_then before mid after old between new a b = record {
    events = a.events ++ b.events;
    is = b.is ∙ ap (λ (p : Past). later p b.events) a.is ∙ later-later old a.events b.events;
    more = a.more ++ b.more;
    added = b.added ∙ ap (λ (l : List ℕ). l ++ b.more) a.added ∙ append_assoc before a.more b.more;
    settles = λ vs.
        ap (all_renamed number (all_settled vs)) (ours-append a.events b.events)
        ∙ renamed_append number (all_settled vs) (ours a.events) (ours b.events)
        ∙ ap (λ (r : Renamed). all_renamed number r (ours b.events)) (a.settles vs)
        ∙ b.settles (vs ++ a.more)
        ∙ ap all_settled (append_assoc vs a.more b.more);
    clears = λ n rest.
        let steps : ours (a.events ++ b.events) ++ rest ≡ ours a.events ++ (ours b.events ++ rest) = ap (λ (l : List Step). l ++ rest) (ours-append a.events b.events) ∙ append_assoc (ours a.events) (ours b.events) rest in
        let all = length-append a.more b.more in
        let count : length (a.more ++ b.more) + n ≡ length a.more + (length b.more + n) = omega (arith, all) in
        ap (λ (l : List Step). made_by (length (a.more ++ b.more) + n) [] l) steps
        ∙ ap (λ (k : ℕ). made_by k [] (ours a.events ++ (ours b.events ++ rest))) count
        ∙ a.clears (length b.more + n) (ours b.events ++ rest)
        ∙ b.clears n rest;
  }

-- what a statement did, as work
abbrev pub WorkOf : (t : Task) (status : Status) (p q : Point) → Ends t status p q → Past → Past → Type 0
WorkOf t status p q e old new = Works (meanings_of t e.now).change.successor (Gives p.identifiers q.identifiers) t.table e.now (IsTable t.table (replay old).files) e.end q.halted p.left q.left old new

pub works_of : (t : Task) (status : Status) (p q : Point) (e : Ends t status p q) → Since p.past q.past (WorkOf t status p q e)
works_of t status p q e = since_turned p.past q.past (DidOf t status p q e) (WorkOf t status p q e) e.did (λ old new d. d.works)

-- the steps of work that is done leave no place
module _ (t : Task) (now : ℕ) (Drawn : ℕ → Type 0) (files : List Held) (Fails : StoreCall → Type 0) where
  abbrev TookOf : Kind → List ℕ → List Step → List Parts → Type 0
  TookOf = Took (meanings_of t now).change.successor Drawn t.table now files Fails

  cleared : (versions : List ℕ) (steps : List Step) (left : List Parts) → TookOf kinds.Done versions steps left → (n : ℕ) (rest : List Step) → made_by (length versions + n) [] (steps ++ rest) ≡ made_by n [] rest
  cleared [] steps left w n rest =
      let e : length {A = ℕ} [] + n ≡ n = omega arith in
      ap (λ (k : ℕ). made_by k [] (steps ++ rest)) e ∙ ap (λ (l : List Step). made_by n [] (l ++ rest)) w.0
  cleared (v ∷ versions) steps left w n rest =
      let b = w.1 in
      let one : length (v ∷ versions) ≡ suc 0 = ap (λ (l : List ℕ). length (v ∷ l)) w.0 in
      let e : length (v ∷ versions) + n ≡ suc n = omega (arith, one) in
      ap (λ (k : ℕ). made_by k [] (steps ++ rest)) e ∙ ap (λ (l : List Step). made_by (suc n) [] (l ++ rest)) b.steps_are ∙ one_publish (the_draft (meanings_of t now).change.successor Drawn t.table now files b.publish) (the_target (meanings_of t now).change.successor Drawn t.table now files b.publish) b.publish.bytes n rest

done_stretch : (t : Task) (p q : Point) (e : IsDone t p q) → (old new : Past) → WorkOf t Done p q e old new → Stretch (number_in t.table) p.committed q.committed old new
done_stretch t p q e old new w =
    let Drawn = Gives p.identifiers q.identifiers in
    let files = (replay old).files in
    let Fails = Failing q.halted new in
    let here = subst (λ (k : Kind). TookOf t e.now Drawn files Fails k e.end.versions (ours w.events) w.left) (done_kind t.word e.end.error e.answers) w.took in
    record {
      events = w.events;
      is = w.is;
      more = e.end.versions;
      added = e.committed;
      settles = λ vs. done_told (meanings_of t e.now).change.successor Drawn t.table e.now files Fails vs e.end.versions (ours w.events) w.left here;
      clears = cleared t e.now Drawn files Fails e.end.versions (ours w.events) w.left here;
    }

ends_stretch : (table : Parts) (t : Task) (p q : Point) → t.table ≡ table → IsDone t p q → Since p.past q.past (Stretch (number_in table) p.committed q.committed)
ends_stretch table t p q of_table e = subst (λ (x : Parts). Since p.past q.past (Stretch (number_in x) p.committed q.committed)) of_table
    (since_turned p.past q.past (WorkOf t Done p q e) (Stretch (number_in t.table) p.committed q.committed) (works_of t Done p q e) (done_stretch t p q e))

pub leads_stretch : (table : Parts) (ts : List Task) (p q : Point) → AreOf table ts → Leads IsDone ts p q → Since p.past q.past (Stretch (number_in table) p.committed q.committed)
leads_stretch table [] p q of_table h =
    subst (λ (x : Point). Since p.past x.past (Stretch (number_in table) p.committed x.committed)) (sym h)
    (since_start p.past Anything (Stretch (number_in table) p.committed p.committed) (told_any p.past) (λ old any. stretch_none (number_in table) p.committed old))
leads_stretch table (t ∷ ts) p q of_table h =
    since_then p.past h.0.past q.past (Stretch (number_in table) p.committed h.0.committed) (Stretch (number_in table) h.0.committed q.committed) (Stretch (number_in table) p.committed q.committed)
    (ends_stretch table t p h.0 of_table.0 h.1) (leads_stretch table ts h.0 q of_table.1 h.2) (stretch_then (number_in table) p.committed h.0.committed q.committed)

-- The last statement.

told_kind : (kind end : Kind) (versions : List ℕ) (r : Renamed) → TellsKind kind end → ToldBy end versions r → ToldBy kind versions r
told_kind kind end versions r (inl same) told = subst (λ (k : Kind). ToldBy k versions r) (sym same) told
told_kind kind end versions r (inr m) told =
    let done : ToldBy kinds.Done versions r = subst (λ (k : Kind). ToldBy k versions r) m.0 told in
    subst (λ (k : Kind). ToldBy k versions r) (sym m.1) (inl done)

-- of a table: the versions to which its steps rename files from a beginning on at which these were settled
abbrev pub LastTold : (Parts → ℕ) → Kind → List ℕ → List ℕ → Past → Past → Type 0
LastTold number kind before after old new = (events : List Event) × (new ≡ later old events) × ToldBy kind after (all_renamed number (all_settled before) (ours events))

module _ (t : Task) (status : Status) (p q : Point) (e : Ends t status p q) where
  told : IsTold (kind_of e.end) e.end.versions
  told = told_of e.end.error e.end.versions e.none

  last_told : (old new : Past) → WorkOf t status p q e old new → LastTold (number_in t.table) (status_kind status) p.committed q.committed old new
  last_told old new w =
      let steps = ours w.events in
      let renamed = all_renamed (number_in t.table) (all_settled p.committed) steps in
      let by_end = took_told (meanings_of t e.now).change.successor (Gives p.identifiers q.identifiers) t.table e.now (replay old).files (Failing q.halted new) p.committed (kind_of e.end) e.end.versions steps w.left told w.took in
      let by_status = told_kind (status_kind status) (kind_of e.end) (p.committed ++ e.end.versions) renamed (tells_kind t.word e.end.error status e.answers) by_end in
      (w.events, w.is, subst (λ (vs : List ℕ). ToldBy (status_kind status) vs renamed) (sym e.committed) by_status)

  abbrev pub LastLeft : Past → Past → Type 0
  LastLeft old new = (events : List Event) × (new ≡ later old events) × ((left : List Parts) × (q.left ≡ p.left ++ left) × IsLeft (Rose p.faults q.faults) q.halted (length e.end.versions) [] (ours events) left)

  last_left : (old new : Past) → WorkOf t status p q e old new → LastLeft old new
  last_left old new w =
      (w.events, w.is, (w.left, w.noted, took_left (meanings_of t e.now).change.successor (Gives p.identifiers q.identifiers) t.table e.now (replay old).files p.faults q.faults q.halted new (kind_of e.end) e.end.versions (ours w.events) w.left told e.faults w.took))

-- Of a run.

module _ (words : List (List ℕ)) (status : Status) (p q : Point) where
  pub versions_by : p.committed ≡ [] → RunsBy words status p q → Since p.past q.past (TellsVersions words (status_kind status) q.committed)
  versions_by empty (inl r) =
      subst (λ (x : Point). Since p.past x.past (TellsVersions words (status_kind status) x.committed)) (sym r.1)
      (since_start p.past Anything (TellsVersions words (status_kind status) p.committed) (told_any p.past) (λ old any. inl (refl, empty)))
  versions_by empty (inr r) =
      let e = r.ended in
      let parts = tables_are words status p q r in
      let number = number_in r.table in
      let last : Since e.from.past q.past (LastTold number (status_kind status) e.from.committed q.committed) =
      subst (λ (x : Parts). Since e.from.past q.past (LastTold (number_in x) (status_kind status) e.from.committed q.committed)) parts.1
      (since_turned e.from.past q.past (WorkOf e.task status e.from q e.ends) (LastTold (number_in e.task.table) (status_kind status) e.from.committed q.committed) (works_of e.task status e.from q e.ends) (last_told e.task status e.from q e.ends)) in
      since_then p.past e.from.past q.past (Stretch number p.committed e.from.committed) (LastTold number (status_kind status) e.from.committed q.committed) (TellsVersions words (status_kind status) q.committed)
      (leads_stretch r.table e.before p e.from parts.0 e.led) last
      (λ old mid new s l.
      let first : all_renamed number (all_settled []) (ours s.events) ≡ all_settled e.from.committed = s.settles [] ∙ ap all_settled (sym (s.added ∙ ap (λ (x : List ℕ). x ++ s.more) empty)) in
      let all : all_renamed number (all_settled []) (ours (s.events ++ l.0)) ≡ all_renamed number (all_settled e.from.committed) (ours l.0) =
      ap (all_renamed number (all_settled [])) (ours-append s.events l.0) ∙ renamed_append number (all_settled []) (ours s.events) (ours l.0) ∙ ap (λ (x : Renamed). all_renamed number x (ours l.0)) first in
      inr (
        r.table,
        asked_of words status p q r,
        (
          all_renamed number (all_settled e.from.committed) (ours l.0),
          record { events = s.events ++ l.0; is = l.1 ∙ ap (λ (x : Past). later x l.0) s.is ∙ later-later old s.events l.0; renamed_is = sym all },
          l.2,
        ),
      ))

  nothing_done : (committed : List ℕ) (left : List Parts) (Risen : Type 0) (mark : Option Failure) (old : Past) → committed ≡ [] → left ≡ [] → LeavesPlaces committed left Risen mark old old
  nothing_done committed left Risen mark old none empty = record { events = []; is = sym (later-nil old); places = record { more = []; is = empty; cause = inl refl } }

  pub places_by : p.committed ≡ [] → p.left ≡ [] → RunsBy words status p q → Since p.past q.past (LeavesPlaces q.committed q.left (Rose p.faults q.faults) q.halted)
  places_by none empty (inl r) =
      subst (λ (x : Point). Since p.past x.past (LeavesPlaces x.committed x.left (Rose p.faults x.faults) x.halted)) (sym r.1)
      (since_start p.past Anything (LeavesPlaces p.committed p.left (Rose p.faults p.faults) p.halted) (told_any p.past) (λ old any. nothing_done p.committed p.left (Rose p.faults p.faults) p.halted old none empty))
  places_by none empty (inr r) =
      let e = r.ended in
      let parts = tables_are words status p q r in
      let kept = leads_kept e.before p e.from e.led in
      let versions = e.ends.end.versions in
      since_then p.past e.from.past q.past (Stretch (number_in r.table) p.committed e.from.committed) (LastLeft e.task status e.from q e.ends) (LeavesPlaces q.committed q.left (Rose p.faults q.faults) q.halted)
      (leads_stretch r.table e.before p e.from parts.0 e.led)
      (since_turned e.from.past q.past (WorkOf e.task status e.from q e.ends) (LastLeft e.task status e.from q e.ends) (works_of e.task status e.from q e.ends) (last_left e.task status e.from q e.ends))
      (λ old mid new s l.
      let places = l.2.2 in
      let has : e.from.committed ≡ s.more = s.added ∙ ap (λ (x : List ℕ). x ++ s.more) none in
      let count : length q.committed ≡ length s.more + length versions = ap length (e.ends.committed ∙ ap (λ (x : List ℕ). x ++ versions) has) ∙ length-append s.more versions in
      let made : made_by (length q.committed) [] (ours (s.events ++ l.0)) ≡ made_by (length versions) [] (ours l.0) =
      ap (λ (k : ℕ). made_by k [] (ours (s.events ++ l.0))) count
      ∙ ap (λ (x : List Step). made_by (length s.more + length versions) [] x) (ours-append s.events l.0)
      ∙ s.clears (length versions) (ours l.0) in
      let left : q.left ≡ l.2.0 = l.2.1 ∙ ap (λ (x : List Parts). x ++ l.2.0) (kept.left ∙ empty) in
      record {
        events = s.events ++ l.0;
        is = l.1 ∙ ap (λ (x : Past). later x l.0) s.is ∙ later-later old s.events l.0;
        places = record {
          more = places.more;
          is = left ∙ places.is ∙ ap (λ (x : List Parts). x ++ places.more) (sym made);
          cause = subst (λ (n : ℕ). IsMore (Rose n q.faults) q.halted places.more) kept.faults places.cause;
        };
      })
