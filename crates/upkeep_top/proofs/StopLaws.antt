-- What every stop of a run leaves.
use Rattle.std.proofs.Common.{◌≡◌, inl, inr, ℕ, List, [], ◌∷◌, ◌++◌, Option, Some, None, refl, sym, subst}
use Rattle.ice_store.specs.Given.{Gives}
use Rattle.ice_store.specs.Places.{Parts}
use Rattle.ice_store.specs.Others.{WhereTold}
use Rattle.ice_store.specs.Since.{Since}
use Rattle.ice_store.proofs.SinceLaws.{since_turned, since_then, since_start}
use Rattle.ice_store.specs.declared.history.Past.{Past}
use Rattle.commit_history.proofs.Running.{ran_then}
use Rattle.commit_publish.specs.Steps.{Anything}
use Rattle.commit_protocol.specs.Metadata.{table_rules}
use Rattle.run_answers.specs.declared.status.Status.{Status}
use Rattle.run_answers.specs.declared.status.Status.TheVariants.{Done}
use Rattle.upkeep_top.specs.Points.{Point}
use Rattle.upkeep_top.specs.Chains.{Leads}
use Rattle.upkeep_top.specs.Runs.{IsDone, Ended, RunsBy, RanAsked, AskOf, IsSafeRun}
use Rattle.upkeep_top.specs.Statements.{Nobody, Any, IsSafeFor, Ends, Did}
use Rattle.upkeep_top.specs.Words.{AreOf}
use Rattle.upkeep_top.specs.declared.task.Task.{Task}
use Rattle.upkeep_top.proofs.StepLaws.{safe_none}

pub told_any : (o : Option Past) → WhereTold o Anything
told_any None = tt
told_any (Some past) = tt

-- what a statement did, where its history is told
abbrev pub DidOf : (t : Task) (status : Status) (p q : Point) → Ends t status p q → Past → Past → Type 0
DidOf t status p q e = Did t e.now (Gives p.identifiers q.identifiers) e.end q.halted p.left q.left

safe_then : (table : Parts) (old mid new : Past) → IsSafeFor table old mid → IsSafeFor table mid new → IsSafeFor table old new
safe_then table old mid new a b = ran_then (table_rules table Nobody) Any Any Any Anything Anything (λ l k m n. tt) old mid new a b

module _ (table : Parts) where
  ends_safe : (t : Task) (status : Status) (p q : Point) → t.table ≡ table → Ends t status p q → Since p.past q.past (IsSafeFor table)
  ends_safe t status p q of_table e = since_turned p.past q.past (DidOf t status p q e) (IsSafeFor table) e.did (λ old now d. subst (λ (x : Parts). IsSafeFor x old now) of_table d.safe)

  leads_safe : (ts : List Task) (p q : Point) → AreOf table ts → Leads IsDone ts p q → Since p.past q.past (IsSafeFor table)
  leads_safe [] p q of_table h = subst (λ (x : Point). Since p.past x.past (IsSafeFor table)) (sym h) (since_start p.past Anything (IsSafeFor table) (told_any p.past) (λ old any. safe_none table old))
  leads_safe (t ∷ ts) p q of_table h = since_then p.past h.0.past q.past (IsSafeFor table) (IsSafeFor table) (IsSafeFor table) (ends_safe t Done p h.0 of_table.0 h.1) (leads_safe ts h.0 q of_table.1 h.2) (safe_then table)

  pub front_of : (before : List Task) (t : Task) (after : List Task) → AreOf table (before ++ t ∷ after) → AreOf table before × (t.table ≡ table)
  front_of [] t after h = (tt, h.0)
  front_of (b ∷ before) t after h = let rest = front_of before t after h.1 in ((h.0, rest.0), rest.1)

  pub ended_safe : (tasks : List Task) (status : Status) (p q : Point) → AreOf table tasks → Ended tasks status p q → Since p.past q.past (IsSafeFor table)
  ended_safe tasks status p q of_table e =
      let parts = front_of e.before e.task e.after (subst (λ (l : List Task). AreOf table l) e.is of_table) in
      since_then p.past e.from.past q.past (IsSafeFor table) (IsSafeFor table) (IsSafeFor table) (leads_safe e.before p e.from parts.0 e.led) (ends_safe e.task status e.from q parts.1 e.ends) (safe_then table)

pub safe_run : (words : List (List ℕ)) (status : Status) (p q : Point) → RunsBy words status p q → Since p.past q.past (IsSafeRun words)
safe_run words status p q (inl r) = subst (λ (x : Point). Since p.past x.past (IsSafeRun words)) (sym r.1) (since_start p.past Anything (IsSafeRun words) (told_any p.past) (λ old any. inl refl))
safe_run words status p q (inr r) = since_turned p.past q.past (IsSafeFor r.table) (IsSafeRun words) (ended_safe r.table r.tasks status p q r.ask.of_table r.ended) (λ old now safe. inr (r.table, (r.tasks, r.ask), safe))

-- Of a run that was asked.

module _ (words : List (List ℕ)) (status : Status) (p q : Point) (r : RanAsked words status p q) where
  pub asked_of : AskOf words r.table
  asked_of = (r.tasks, r.ask)

  -- its statements are of its table
  pub tables_are : AreOf r.table r.ended.before × (r.ended.task.table ≡ r.table)
  tables_are = front_of r.table r.ended.before r.ended.task r.ended.after (subst (λ (l : List Task). AreOf r.table l) r.ended.is r.ask.of_table)
