-- The files that an attempt made stand while a publish that lost the race runs, since its steps are on its draft alone.
use Rattle.std.proofs.Common.{◌≡◌, inl, inr, ℕ, List, [], ◌∷◌, Option, Some, Err, is_some, refl, sym, ap, ◌∙◌, subst}
use Rattle.ice_store.specs.Files.{find, is_named}
use Rattle.ice_store.specs.History.{Disk, replay, later, files_after, new_file, appended, sealed}
use Rattle.ice_store.specs.Places.{Parts}
use Rattle.ice_store.specs.declared.history.Event.{Event}
use Rattle.ice_store.specs.declared.history.Failure.{Failure}
use Rattle.ice_store.specs.declared.history.Held.{Held}
use Rattle.ice_store.specs.declared.history.Past.{Past}
use Rattle.ice_store.specs.declared.history.Step.{Step}
use Rattle.ice_store.specs.declared.history.Step.TheVariants.{Create, Append, Seal, Rename, Remove, SyncNames}
use Rattle.ice_store.specs.declared.history.Who.{Who}
use Rattle.ice_store.specs.declared.history.Who.TheVariants.{Us, Them}
use Rattle.ice_store.proofs.FileLaws.{find_changed_other, find_put_other, find_without_other}
use Rattle.ice_store.proofs.HistoryLaws.{later-later, replay-later}
use Rattle.ice_store.proofs.OthersLaws.{later-nil}
use Rattle.commit_history.specs.Mannered.{IsMannered, files_of}
use Rattle.commit_history.specs.Readings.{Rules}
use Rattle.commit_history.specs.Runs.{AllProper, IsProperBy, IsProperStep, Ran, ours, ours_by}
use Rattle.commit_publish.specs.Steps.{Exactly, lost_plan}
use Rattle.commit_protocol.specs.Metadata.{table_rules}
use Rattle.commit_protocol.specs.Meanings.{Meanings}
use Rattle.commit_protocol.specs.Rounds.{AttemptTells}
use Rattle.commit_protocol.specs.Withdraws.{HasMade, MadeStand}
use Rattle.commit_protocol.specs.declared.errors.CommitErr.TheVariants.{Contended}
use Rattle.commit_protocol.specs.declared.opening.At.{At}
use Rattle.commit_protocol.proofs.RoundLaws.{no_unasked}

module _ (draft : Parts) where
  -- a step on the draft, or a sync of names
  abbrev pub IsOnDraft : Step → Type 0
  IsOnDraft (Create place) = place ≡ draft
  IsOnDraft (Append place more) = place ≡ draft
  IsOnDraft (Seal place) = place ≡ draft
  IsOnDraft (Rename from to) = ⊥
  IsOnDraft (Remove place) = place ≡ draft
  IsOnDraft SyncNames = Unit {0}

  abbrev pub AllOnDraft : List Step → Type 0
  AllOnDraft [] = Unit {0}
  AllOnDraft (step ∷ steps) = IsOnDraft step × AllOnDraft steps

  module _ (rules : Rules) (mannered : IsMannered rules) (q : Parts) (h : Held) (own : h.maker ≡ Some Us) where
    abbrev pub StandsIn : List Held → Type 0
    StandsIn files = find files q ≡ Some h

    -- a step of ours on the draft leaves another file
    on_draft : (files : List Held) (step : Step) (t : ℕ) → (draft ≡ q → ⊥) → IsOnDraft step → StandsIn files → StandsIn (files_after files step Us t)
    on_draft files (Create place) t other on at = find_put_other (new_file place Us t) files q (λ e. other (sym on ∙ e)) ∙ at
    on_draft files (Append place more) t other on at = find_changed_other (appended more t) (λ k. refl) files place q (λ e. other (sym on ∙ e)) ∙ at
    on_draft files (Seal place) t other on at = find_changed_other sealed (λ k. refl) files place q (λ e. other (sym on ∙ e)) ∙ at
    on_draft files (Rename from to) t other on at = absurd on
    on_draft files (Remove place) t other on at = find_without_other files place q (λ e. other (sym on ∙ e)) ∙ at
    on_draft files SyncNames t other on at = at

    -- and others leave a file of ours
    one_event : (past : Past) (who : Who) (step : Step) (t : ℕ) (rest : List Step) → (draft ≡ q → ⊥) → IsProperBy rules who step past → AllOnDraft (ours_by who step rest) → StandsIn (files_of past)
        → StandsIn (files_after (files_of past) step who t) × AllOnDraft rest
    one_event past Us step t rest other proper on at = (on_draft (files_of past) step t other on.0 at, on.1)
    one_event past Them step t rest other proper on at = (mannered.spares past step t q h proper at own, on)

    after_event : (past : Past) (e : Event) → StandsIn (files_after (files_of past) e.step e.who e.ms) → StandsIn (files_of (later past (e ∷ [])))
    after_event past e at = ap (λ (d : Disk). find d.files q) (replay-later past (e ∷ [])) ∙ at

    stays : (past : Past) (es : List Event) → (draft ≡ q → ⊥) → AllProper rules past es → AllOnDraft (ours es) → StandsIn (files_of past) → StandsIn (files_of (later past es))
    stays past [] other proper on at = subst (λ (p : Past). StandsIn (files_of p)) (sym (later-nil past)) at
    stays past (e ∷ es) other proper on at =
        let next = one_event past e.who e.step e.ms (ours es) other proper.0 on at in
        subst (λ (p : Past). StandsIn (files_of p)) (later-later past (e ∷ []) es) (stays (later past (e ∷ [])) es other proper.1 next.1 (after_event past e next.0))

    -- the draft is made under a free name, so it is another file
    free_elsewhere : (past : Past) → IsProperStep rules.reading.number (Create draft) (replay past) → StandsIn (files_of past) → draft ≡ q → ⊥
    free_elsewhere past proper at same = absurd (cc (proper.0, ap is_some at, ap (λ (p : Parts). is_named (files_of past) p) same))

    first_is : (past : Past) (step : Step) (steps rest : List Step) → IsProperStep rules.reading.number step (replay past) → step ∷ steps ≡ Create draft ∷ rest → IsProperStep rules.reading.number (Create draft) (replay past)
    first_is past step steps rest proper is =
        let it : step ≡ Create draft = cc (is) in
        subst (λ (s : Step). IsProperStep rules.reading.number s (replay past)) it proper

    elsewhere : (rest : List Step) (past : Past) (es : List Event) → AllProper rules past es → ours es ≡ Create draft ∷ rest → StandsIn (files_of past) → draft ≡ q → ⊥
    elsewhere rest past [] proper is at = absurd (cc (is))
    elsewhere rest past (e ∷ es) proper is at =
        elim e.who as (λ w. w ≡ e.who → IsProperBy rules w e.step past → ours_by w e.step (ours es) ≡ Create draft ∷ rest → draft ≡ q → ⊥) [
          | Us ↦ λ who may first. free_elsewhere past (first_is past e.step (ours es) rest may first) at
          | Them ↦ λ who may first. elsewhere rest (later past (e ∷ [])) es proper.1 first
              (after_event past e (subst (λ (w : Who). StandsIn (files_after (files_of past) e.step w e.ms)) who (mannered.spares past e.step e.ms q h may at own)))
        ] refl proper.0 is

  -- so do all of them
  all_stay : (rules : Rules) (mannered : IsMannered rules) (made : List Parts) (rest : List Step) (past : Past) (es : List Event) → AllProper rules past es → ours es ≡ Create draft ∷ rest → AllOnDraft rest
      → HasMade rules.reading.number made (files_of past) → HasMade rules.reading.number made (files_of (later past es))
  all_stay rules mannered [] rest past es proper is on has = tt
  all_stay rules mannered (place ∷ places) rest past es proper is on has =
      let one = has.0 in
      let other = elsewhere rules mannered place one.file one.ours rest past es proper is one.stands in
      let on_all : AllOnDraft (ours es) = subst AllOnDraft (sym is) (refl, on) in (
        record { file = one.file; stands = stays rules mannered place one.file one.ours past es other proper on_all one.stands; ours = one.ours; sealed_is = one.sealed_is; plain = one.plain },
        has.1,
        all_stay rules mannered places rest past es proper is on has.2,
      )

  -- over a whole publish that lost the race
  pub lost_publish : (rules : Rules) → IsMannered rules → (bytes : List ℕ) (K : Past → Type 0) (made : List Parts) (old new : Past) → Ran rules (Exactly (lost_plan draft bytes)) K old new
      → HasMade rules.reading.number made (files_of old) → HasMade rules.reading.number made (files_of new)
  lost_publish rules mannered bytes K made old new run has =
      subst (λ (p : Past). HasMade rules.reading.number made (files_of p)) (sym run.is)
      (all_stay rules mannered made (Append draft bytes ∷ Seal draft ∷ SyncNames ∷ Remove draft ∷ SyncNames ∷ []) old run.events run.proper run.made (refl, (refl, (tt, (refl, (tt, tt))))) has)

-- the files of a change whose publish lost the race
module _ (table : Parts) (allows : Past → Step → Type 0) (meanings : Meanings) (given given' : Option (List ℕ)) (now : ℕ) (mannered : IsMannered (table_rules table allows)) where
  pub beaten_stand : (at : At) (version : ℕ) (mark : Option Failure) (had has : List Parts) (old new : Past) → AttemptTells table allows meanings given given' now at (Err (Contended version)) mark had has old new → MadeStand table meanings.made new
  beaten_stand at version mark had has old new (inl u) = absurd (no_unasked table allows meanings given given' now at version u.0)
  beaten_stand at version mark had has old new (inr (inl a)) = absurd a.answer
  beaten_stand at version mark had has old new (inr (inr b)) =
      let p = b.published.2 in
      lost_publish p.drafted.route.draft (table_rules table allows) mannered p.drafted.bytes _ meanings.made b.ready new p.left b.stand
