-- Each version that a run tells of is a successor of the one before it.
use Rattle.std.proofs.Common.{◌≡◌, inl, inr, ℕ, List, [], ◌∷◌, ◌++◌, Contains, refl, sym, ap, ◌∙◌, subst, arith, append-nil, append_assoc}
use Rattle.std.proofs.lemmas.List.Elements.{Contains-append_left, Contains-append_right}
use Rattle.ice_store.specs.Places.{Parts}
use Rattle.ice_store.specs.History.{later}
use Rattle.ice_store.proofs.HistoryLaws.{later-later}
use Rattle.ice_store.proofs.OthersLaws.{later-nil}
use Rattle.ice_store.specs.Since.{Since}
use Rattle.ice_store.proofs.SinceLaws.{since_turned, since_then, since_start}
use Rattle.ice_store.specs.declared.history.Event.{Event}
use Rattle.ice_store.specs.declared.history.Past.{Past}
use Rattle.commit_publish.specs.Steps.{Anything}
use Rattle.commit_protocol.specs.Promises.{Succession}
use Rattle.run_answers.specs.declared.status.Status.{Status}
use Rattle.run_answers.specs.declared.status.Status.TheVariants.{Done}
use Rattle.upkeep_top.specs.Points.{Point}
use Rattle.upkeep_top.specs.Chains.{Leads}
use Rattle.upkeep_top.specs.Promises.{AllSucceed}
use Rattle.upkeep_top.specs.Runs.{IsDone, Ended, RunsBy, PublishedBy, EachSucceeds}
use Rattle.upkeep_top.specs.Statements.{Ends}
use Rattle.upkeep_top.specs.Verdicts.{meanings_of}
use Rattle.upkeep_top.specs.Words.{AreOf, Ask}
use Rattle.upkeep_top.specs.declared.task.Task.{Task}
use Rattle.upkeep_top.proofs.StopLaws.{DidOf, front_of, told_any}

-- a task among others
pub among : (before : List Task) (t : Task) (after : List Task) → Contains (before ++ t ∷ after) t
among before t after = let here : Contains (t ∷ after) t = (0, omega arith, refl) in Contains-append_right before (t ∷ after) t here

abbrev pub Later : Past → Past → Type 0
Later old now = (events : List Event) × (now ≡ later old events)

later_none : (old : Past) → Later old old
later_none old = ([], sym (later-nil old))

later_then : (old mid new : Past) → Later old mid → Later mid new → Later old new
later_then old mid new a b = (a.0 ++ b.0, b.1 ∙ ap (λ (p : Past). later p b.0) a.1 ∙ later-later old a.0 b.0)

module _ (words : List (List ℕ)) where
  one_right : (v : ℕ) (old mid new : Past) → PublishedBy words v old mid → Later mid new → PublishedBy words v old new
  one_right v old mid new r e = record {
    table = r.table;
    tasks = r.tasks;
    ask = r.ask;
    task = r.task;
    among = r.among;
    now = r.now;
    begun = r.begun;
    ended = r.ended;
    earlier = r.earlier;
    begun_is = r.begun_is;
    events = r.events;
    ended_is = r.ended_is;
    rest = r.rest ++ e.0;
    rest_is = e.1 ∙ ap (λ (p : Past). later p e.0) r.rest_is ∙ later-later r.ended r.rest e.0;
    succeeds = r.succeeds;
  }

  one_left : (v : ℕ) (old mid new : Past) → Later old mid → PublishedBy words v mid new → PublishedBy words v old new
  one_left v old mid new e r = record {
    table = r.table;
    tasks = r.tasks;
    ask = r.ask;
    task = r.task;
    among = r.among;
    now = r.now;
    begun = r.begun;
    ended = r.ended;
    earlier = e.0 ++ r.earlier;
    begun_is = r.begun_is ∙ ap (λ (p : Past). later p r.earlier) e.1 ∙ later-later old e.0 r.earlier;
    events = r.events;
    ended_is = r.ended_is;
    rest = r.rest;
    rest_is = r.rest_is;
    succeeds = r.succeeds;
  }

  each_right : (vs : List ℕ) (old mid new : Past) → EachSucceeds words vs old mid → Later mid new → EachSucceeds words vs old new
  each_right [] old mid new h e = tt
  each_right (v ∷ vs) old mid new h e = (one_right v old mid new h.0 e, each_right vs old mid new h.1 e)

  each_left : (vs : List ℕ) (old mid new : Past) → Later old mid → EachSucceeds words vs mid new → EachSucceeds words vs old new
  each_left [] old mid new e h = tt
  each_left (v ∷ vs) old mid new e h = (one_left v old mid new e h.0, each_left vs old mid new e h.1)

  each_append : (vs ws : List ℕ) (old new : Past) → EachSucceeds words vs old new → EachSucceeds words ws old new → EachSucceeds words (vs ++ ws) old new
  each_append [] ws old new a b = b
  each_append (v ∷ vs) ws old new a b = (a.0, each_append vs ws old new a.1 b)

  -- the versions that were added, each a successor
  pub record Added (before after : List ℕ) (old now : Past) : Type 0 where
    pub then : Later old now
    pub versions : List ℕ
    pub is : after ≡ before ++ versions
    pub each : EachSucceeds words versions old now

  added_then : (before mid after : List ℕ) (old between new : Past) → Added before mid old between → Added mid after between new → Added before after old new
  added_then before mid after old between new a b = record {
    then = later_then old between new a.then b.then;
    versions = a.versions ++ b.versions;
    is = b.is ∙ ap (λ (l : List ℕ). l ++ b.versions) a.is ∙ append_assoc before a.versions b.versions;
    each = each_append a.versions b.versions old new (each_right a.versions old between new a.each b.then) (each_left b.versions old between new a.then b.each);
  }

  module _ (table : Parts) (tasks : List Task) (ask : Ask words table tasks) where
    each_of : (t : Task) (now : ℕ) (vs : List ℕ) (old new : Past) → Contains tasks t → t.table ≡ table → Later old new → AllSucceed (meanings_of t now).change.successor t.table now vs old new → EachSucceeds words vs old new
    each_of t now [] old new among of_table then all = tt
    each_of t now (v ∷ vs) old new among of_table then all = (
      record {
        table = table;
        tasks = tasks;
        ask = ask;
        task = t;
        among = among;
        now = now;
        begun = old;
        ended = new;
        earlier = [];
        begun_is = sym (later-nil old);
        events = then.0;
        ended_is = then.1;
        rest = [];
        rest_is = sym (later-nil new);
        succeeds = subst (λ (x : Parts). Succession (meanings_of t now).change.successor x now v old new) of_table all.0;
      },
      each_of t now vs old new among of_table then all.1,
    )

    ends_added : (t : Task) (status : Status) (p q : Point) → Contains tasks t → t.table ≡ table → Ends t status p q → Since p.past q.past (Added p.committed q.committed)
    ends_added t status p q among of_table e = since_turned p.past q.past (DidOf t status p q e) (Added p.committed q.committed) e.did
        (λ old now d. record {
          then = (d.safe.events, d.safe.is);
          versions = e.end.versions;
          is = e.committed;
          each = each_of t e.now e.end.versions old now among of_table (d.safe.events, d.safe.is) d.succeed;
        })

    none_added : (committed : List ℕ) (old : Past) → Added committed committed old old
    none_added committed old = record { then = later_none old; versions = []; is = sym (append-nil committed); each = tt }

    leads_added : (ts : List Task) (p q : Point) → ((t : Task) → Contains ts t → Contains tasks t) → AreOf table ts → Leads IsDone ts p q → Since p.past q.past (Added p.committed q.committed)
    leads_added [] p q within of_table h =
        subst (λ (x : Point). Since p.past x.past (Added p.committed x.committed)) (sym h)
        (since_start p.past Anything (Added p.committed p.committed) (told_any p.past) (λ old any. none_added p.committed old))
    leads_added (t ∷ ts) p q within of_table h =
        since_then p.past h.0.past q.past (Added p.committed h.0.committed) (Added h.0.committed q.committed) (Added p.committed q.committed)
        (ends_added t Done p h.0 (within t (among [] t ts)) of_table.0 h.1) (leads_added ts h.0 q (λ u c. within u (Contains-append_right (t ∷ []) ts u c)) of_table.1 h.2) (added_then p.committed h.0.committed q.committed)

    ended_added : (status : Status) (p q : Point) → Ended tasks status p q → Since p.past q.past (Added p.committed q.committed)
    ended_added status p q e =
        let parts = front_of table e.before e.task e.after (subst (λ (l : List Task). AreOf table l) e.is ask.of_table) in
        since_then p.past e.from.past q.past (Added p.committed e.from.committed) (Added e.from.committed q.committed) (Added p.committed q.committed)
        (leads_added e.before p e.from (λ t c. subst (λ (l : List Task). Contains l t) (sym e.is) (Contains-append_left e.before (e.task ∷ e.after) t c)) parts.0 e.led)
        (ends_added e.task status e.from q (subst (λ (l : List Task). Contains l e.task) (sym e.is) (among e.before e.task e.after)) parts.1 e.ends) (added_then p.committed e.from.committed q.committed)

  pub each_succeeds : (status : Status) (p q : Point) → p.committed ≡ [] → RunsBy words status p q → Since p.past q.past (EachSucceeds words q.committed)
  each_succeeds status p q empty (inl r) =
      subst (λ (x : Point). Since p.past x.past (EachSucceeds words x.committed)) (sym r.1)
      (since_start p.past Anything (EachSucceeds words p.committed) (told_any p.past) (λ old any. subst (λ (vs : List ℕ). EachSucceeds words vs old old) (sym empty) tt))
  each_succeeds status p q empty (inr r) =
      since_turned p.past q.past (Added p.committed q.committed) (EachSucceeds words q.committed) (ended_added r.table r.tasks r.ask status p q r.ended)
      (λ old now a. subst (λ (vs : List ℕ). EachSucceeds words vs old now) (sym (a.is ∙ ap (λ (l : List ℕ). l ++ a.versions) empty)) a.each)
