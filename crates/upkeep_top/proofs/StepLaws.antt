-- Stretches in which nothing was done, and steps that leave no name change pending.
use Rattle.std.proofs.Common.{◌≡◌, Bool, true, false, List, [], ◌∷◌, refl, sym, ap, ◌∙◌, subst}
use Rattle.ice_store.specs.Places.{Parts}
use Rattle.ice_store.specs.History.{Disk, replay, later, pending_by}
use Rattle.ice_store.proofs.HistoryLaws.{replay-later, later-later}
use Rattle.ice_store.specs.declared.history.Event.{Event}
use Rattle.ice_store.specs.declared.history.Past.{Past}
use Rattle.ice_store.specs.declared.history.Step.{Step}
use Rattle.ice_store.specs.declared.history.Step.TheVariants.{Create, Append, Seal, Rename, Remove, SyncNames}
use Rattle.ice_store.specs.declared.history.Who.{Who}
use Rattle.ice_store.specs.declared.history.Who.TheVariants.{Us, Them}
use Rattle.commit_history.specs.Commits.{is_sync}
use Rattle.commit_history.specs.Runs.{AllProper, IsProperBy, Ran, ours, ours_by}
use Rattle.commit_history.specs.Readings.{Reading, Rules}
use Rattle.commit_history.proofs.Numbering.{numbering}
use Rattle.commit_history.proofs.Running.{ran_turned, begins}
use Rattle.commit_publish.specs.Steps.{Anything, Exactly}
use Rattle.commit_protocol.specs.Metadata.{metadata_local, table_rules}
use Rattle.upkeep_top.specs.Statements.{Nobody, Any, IsSafeFor}

-- Nothing done.

pub ran_none : (table : Parts) (old : Past) → Ran (table_rules table Nobody) (Exactly []) Anything old old
ran_none table old = begins (table_rules table Nobody) (numbering table) (metadata_local table) Anything old tt

-- a stretch in which nothing was done is safe
pub safe_none : (table : Parts) (old : Past) → IsSafeFor table old old
safe_none table old = ran_turned (table_rules table Nobody) (Exactly []) Any Anything Anything old old (ran_none table old) (λ l e. tt) (λ h. tt)

-- Pending name changes.

-- the last step is a sync
abbrev pub ends_in_sync : List Step → Bool
ends_in_sync [] = false
ends_in_sync (step ∷ []) = is_sync step
ends_in_sync (step ∷ other ∷ steps) = ends_in_sync (other ∷ steps)

sync_settles : (who : Who) (d : Disk) (step : Step) → is_sync step ≡ true → pending_by who d step ≡ []
sync_settles Them d step e = refl
sync_settles Us d (Create place) e = absurd (cc (e))
sync_settles Us d (Append place more) e = absurd (cc (e))
sync_settles Us d (Seal place) e = absurd (cc (e))
sync_settles Us d (Rename from to) e = absurd (cc (e))
sync_settles Us d (Remove place) e = absurd (cc (e))
sync_settles Us d SyncNames e = refl

-- where nobody else acts
abbrev pub alone : Reading → Rules
alone reading = record { reading = reading; allows = Nobody }

module _ (reading : Reading) where
  by_us : (past : Past) (who : Who) (step : Step) → IsProperBy (alone reading) who step past → who ≡ Us
  by_us past Us step proper = refl
  by_us past Them step proper = absurd proper

  ours_us : (e : Event) (es : List Event) → e.who ≡ Us → ours (e ∷ es) ≡ e.step ∷ ours es
  ours_us e es h = ap (λ (w : Who). ours_by w e.step (ours es)) h

  pub settled : (past : Past) (es : List Event) → AllProper (alone reading) past es → ends_in_sync (ours es) ≡ true → (replay (later past es)).pending ≡ []
  settled past [] proper ends = absurd (cc (ends))
  settled past (e ∷ []) proper ends =
      let here : is_sync e.step ≡ true = subst (λ (l : List Step). ends_in_sync l ≡ true) (ours_us e [] (by_us past e.who e.step proper.0)) ends in
      ap (λ (d : Disk). d.pending) (replay-later past (e ∷ [])) ∙ sync_settles e.who (replay past) e.step here
  settled past (e ∷ f ∷ es) proper ends =
      let next = later past (e ∷ []) in
      let one = ours_us e (f ∷ es) (by_us past e.who e.step proper.0) in
      let two = ours_us f es (by_us next f.who f.step proper.1.0) in
      let both : ends_in_sync (e.step ∷ f.step ∷ ours es) ≡ true = subst (λ (l : List Step). ends_in_sync (e.step ∷ l) ≡ true) two (subst (λ (l : List Step). ends_in_sync l ≡ true) one ends) in
      let rest : ends_in_sync (ours (f ∷ es)) ≡ true = subst (λ (l : List Step). ends_in_sync l ≡ true) (sym two) both in
      subst (λ (p : Past). (replay p).pending ≡ []) (later-later past (e ∷ []) (f ∷ es)) (settled next (f ∷ es) proper.1 rest)
