-- To which versions the steps of work rename files, and which of them have a sync behind.
use Rattle.std.proofs.Common.{◌≡◌, ◌⊎◌, inl, inr, ℕ, suc, ◌+◌, ◌<◌, false, true, List, [], ◌∷◌, ◌++◌, refl, sym, ap, ◌∙◌, subst, arith, append-nil, append_assoc}
use Rattle.serde_json.specs.Data.{Data}
use Rattle.ice_store.specs.Places.{Parts}
use Rattle.ice_store.specs.declared.history.Held.{Held}
use Rattle.ice_store.specs.declared.history.Step.{Step}
use Rattle.ice_store.specs.declared.history.Step.TheVariants.{Create, SyncNames}
use Rattle.ice_store.specs.declared.history.StoreCall.{StoreCall}
use Rattle.commit_history.specs.Versions.{folder, number_in}
use Rattle.commit_publish.specs.Kinds as kinds
use Rattle.commit_publish.specs.Kinds.{Kind}
use Rattle.commit_publish.specs.Steps.{IsTakenOf, step_of, steps_before, publish_plan, lost_plan}
use Rattle.commit_publish.specs.declared.steps.PublishCall.{PublishCall}
use Rattle.commit_publish.specs.declared.steps.PublishCall.TheVariants as asked
use Rattle.commit_versions.specs.Names.{version_name}
use Rattle.commit_versions.specs.Opening.{version_limit}
use Rattle.commit_versions.proofs.NameLaws.{name_number-version}
use Rattle.commit_versions.proofs.NumberLaws.{number_in-named}
use Rattle.commit_protocol.specs.Ends.{Publish, TookBy, draft_of, new_place, new_version}
use Rattle.commit_protocol.specs.Kinds.{is_renaming}
use Rattle.commit_protocol.specs.Verdicts.{IsTable}
use Rattle.commit_protocol.specs.Written.{version_at}
use Rattle.upkeep_top.specs.Promises.{Renamed, ToldBy, all_settled, last_open, renamed_after, all_renamed, renamed_to}

-- the place of a version has its number
pub version_number : (table : Parts) (last : ℕ) → last < version_limit → number_in table (version_at table (last + 1)) ≡ last + 1
version_number table last below =
    number_in-named table (table ++ folder ∷ []) (version_at table (last + 1)) (version_name (last + 1)) refl (sym (append_assoc table (folder ∷ []) (version_name (last + 1) ∷ [])))
    ∙ name_number-version (last + 1) (omega arith) (omega (arith, below))

-- Steps one after another.

pub renamed_append : (number : Parts → ℕ) (r : Renamed) (steps more : List Step) → all_renamed number r (steps ++ more) ≡ all_renamed number (all_renamed number r steps) more
renamed_append number r [] more = refl
renamed_append number r (step ∷ steps) more = renamed_append number (renamed_after number r step) steps more

-- Steps of one publish.

module _ (number : Parts → ℕ) (draft target : Parts) (bytes : List ℕ) (versions : List ℕ) where
  abbrev pub behind : List Step → Renamed
  behind steps = all_renamed number (all_settled versions) steps

  once : versions ++ [] ≡ versions
  once = append-nil versions

  twice : (versions ++ []) ++ [] ≡ versions
  twice = append-nil (versions ++ []) ∙ once

  -- one that met a taken target
  pub lost_behind : behind (lost_plan draft bytes) ≡ all_settled versions
  lost_behind = ap all_settled twice

  -- a call that isn't one of the renaming failed
  pub failed_behind : (call : PublishCall) (taken : List Step) → is_renaming call ≡ false → IsTakenOf (step_of draft target bytes call) taken → behind (steps_before draft target bytes call ++ taken) ≡ all_settled versions
  failed_behind asked.Create taken other (inl e) = ap behind e
  failed_behind asked.Create taken other (inr e) = ap behind e
  failed_behind asked.Append taken other (inl e) = ap (λ (l : List Step). behind (Create draft ∷ l)) e
  failed_behind asked.Append taken other (inr e) = ap (λ (l : List Step). behind (Create draft ∷ l)) e.1
  failed_behind asked.Seal taken other (inl e) = ap (λ (l : List Step). behind (steps_before draft target bytes asked.Seal ++ l)) e
  failed_behind asked.Seal taken other (inr e) = ap (λ (l : List Step). behind (steps_before draft target bytes asked.Seal ++ l)) e
  failed_behind asked.SyncDraft taken other (inl e) = ap (λ (l : List Step). behind (steps_before draft target bytes asked.SyncDraft ++ l)) e
  failed_behind asked.SyncDraft taken other (inr e) = ap (λ (l : List Step). behind (steps_before draft target bytes asked.SyncDraft ++ l)) e ∙ ap all_settled once
  failed_behind asked.Rename taken other e = absurd (cc (other))
  failed_behind asked.SyncRename taken other e = absurd (cc (other))
  failed_behind asked.Remove taken other (inl e) = ap (λ (l : List Step). behind (steps_before draft target bytes asked.Remove ++ l)) e ∙ ap all_settled once
  failed_behind asked.Remove taken other (inr e) = ap (λ (l : List Step). behind (steps_before draft target bytes asked.Remove ++ l)) e ∙ ap all_settled once
  failed_behind asked.SyncRemoval taken other (inl e) = ap (λ (l : List Step). behind (steps_before draft target bytes asked.SyncRemoval ++ l)) e ∙ ap all_settled once
  failed_behind asked.SyncRemoval taken other (inr e) = ap (λ (l : List Step). behind (steps_before draft target bytes asked.SyncRemoval ++ l)) e ∙ ap all_settled twice

  module _ (version : ℕ) (is : number target ≡ suc version) where
    -- behind the draft's sync, and its rename
    renamed : List ℕ → ℕ → Renamed
    renamed vs n = renamed_to n (record { settled = vs; open_ones = [] })

    opened : renamed (versions ++ []) (number target) ≡ last_open versions (suc version)
    unfolding renamed
    opened = ap (renamed (versions ++ [])) is ∙ ap (λ (vs : List ℕ). last_open vs (suc version)) once

    synced : renamed_after number (renamed (versions ++ []) (number target)) SyncNames ≡ all_settled (versions ++ suc version ∷ [])
    unfolding renamed
    synced = ap (λ (r : Renamed). renamed_after number r SyncNames) opened

    -- it ran to its end
    pub plan_behind : behind (publish_plan draft target bytes) ≡ all_settled (versions ++ suc version ∷ [])
    unfolding renamed
    plan_behind = synced

    -- a call of the renaming failed
    pub open_behind : (call : PublishCall) (taken : List Step) → is_renaming call ≡ true → IsTakenOf (step_of draft target bytes call) taken → ToldBy (kinds.Unknown (suc version)) versions (behind (steps_before draft target bytes call ++ taken))
    unfolding renamed
    open_behind asked.Create taken other e = absurd (cc (other))
    open_behind asked.Append taken other e = absurd (cc (other))
    open_behind asked.Seal taken other e = absurd (cc (other))
    open_behind asked.SyncDraft taken other e = absurd (cc (other))
    open_behind asked.Rename taken other (inl e) = inl (ap (λ (l : List Step). behind (steps_before draft target bytes asked.Rename ++ l)) e ∙ ap all_settled once)
    open_behind asked.Rename taken other (inr e) = inr (inl (ap (λ (l : List Step). behind (steps_before draft target bytes asked.Rename ++ l)) e ∙ opened))
    open_behind asked.SyncRename taken other (inl e) = inr (inl (ap (λ (l : List Step). behind (steps_before draft target bytes asked.SyncRename ++ l)) e ∙ opened))
    open_behind asked.SyncRename taken other (inr e) = inr (inr (ap (λ (l : List Step). behind (steps_before draft target bytes asked.SyncRename ++ l)) e ∙ synced))
    open_behind asked.Remove taken other e = absurd (cc (other))
    open_behind asked.SyncRemoval taken other e = absurd (cc (other))

    -- memory lacked for a call
    pub unmade_behind : (call : PublishCall) → ToldBy kinds.Memory versions (behind (steps_before draft target bytes call))
    unfolding renamed
    unmade_behind asked.Create = inl refl
    unmade_behind asked.Append = inl refl
    unmade_behind asked.Seal = inl refl
    unmade_behind asked.SyncDraft = inl refl
    unmade_behind asked.Rename = inl (ap all_settled once)
    unmade_behind asked.SyncRename = inr (suc version, opened)
    unmade_behind asked.Remove = inl (ap all_settled once)
    unmade_behind asked.SyncRemoval = inl (ap all_settled once)

-- Steps of work.

-- only work that is done tells versions
abbrev pub IsTold : Kind → List ℕ → Type 0
IsTold kind versions = (kind ≡ kinds.Done) ⊎ (versions ≡ [])

module _ (successor : Data → Data → Type 0) (Drawn : ℕ → Type 0) (table : Parts) (now : ℕ) (files : List Held) where
  abbrev pub ThePublish : Type 0
  ThePublish = Publish successor Drawn table now (IsTable table files)

  abbrev pub the_draft : ThePublish → Parts
  the_draft p = draft_of successor Drawn table now (IsTable table files) p

  abbrev pub the_target : ThePublish → Parts
  the_target p = new_place successor Drawn table now (IsTable table files) p

  abbrev pub the_number : ThePublish → ℕ
  the_number p = new_version successor Drawn table now (IsTable table files) p

  abbrev pub Took : (StoreCall → Type 0) → Kind → List ℕ → List Step → List Parts → Type 0
  Took = TookBy successor Drawn table now (IsTable table files)

  number_is : (p : ThePublish) → number_in table (the_target p) ≡ suc p.last
  number_is p = version_number table p.last p.base.file.numbers.below ∙ (let e : p.last + 1 ≡ suc p.last = omega arith in e)

  as_suc : (p : ThePublish) → suc p.last ≡ the_number p
  as_suc p = let e : suc p.last ≡ p.last + 1 = omega arith in e

  module _ (Fails : StoreCall → Type 0) (committed : List ℕ) where
    abbrev after : List Step → Renamed
    after steps = all_renamed (number_in table) (all_settled committed) steps

    -- where no version is told
    kind_told : (kind : Kind) (steps : List Step) (left : List Parts) → Took Fails kind [] steps left → ToldBy kind committed (after steps)
    kind_told kinds.Done steps left t = ap after t.0
    kind_told kinds.Told steps left t = ap after t.1.0
    kind_told (kinds.Fault place) steps left (none, inl t) = ap after t.1.0
    kind_told (kinds.Fault place) steps left (none, inr t) =
        let f = t.1 in
        let stop = f.stopped.steps_are in
        ap after stop.2 ∙ failed_behind (number_in table) (the_draft t.0) (the_target t.0) t.0.bytes committed f.call stop.0 f.kind stop.1
    kind_told (kinds.Unknown version) steps left (none, t) =
        let f = t.2 in
        let stop = f.stopped.steps_are in
        let told = open_behind (number_in table) (the_draft t.0) (the_target t.0) t.0.bytes committed t.0.last (number_is t.0) f.call stop.0 f.kind stop.1 in
        subst (λ (v : ℕ). ToldBy (kinds.Unknown v) committed (after steps)) (as_suc t.0 ∙ sym t.1)
        (subst (λ (l : List Step). ToldBy (kinds.Unknown (suc t.0.last)) committed (after l)) (sym stop.2) told)
    kind_told (kinds.Lost version) steps left t =
        let b = t.1 in
        ap after b.steps_are ∙ lost_behind (number_in table) (the_draft b.publish) (the_target b.publish) b.publish.bytes committed
    kind_told kinds.Memory steps left (none, inl t) = inl (ap after t.0)
    kind_told kinds.Memory steps left (none, inr t) =
        let told = unmade_behind (number_in table) (the_draft t.0) (the_target t.0) t.0.bytes committed t.0.last (number_is t.0) t.1 in
        subst (λ (l : List Step). ToldBy kinds.Memory committed (after l)) (sym t.2.steps_are) told

    -- where work is done
    pub done_told : (versions : List ℕ) (steps : List Step) (left : List Parts) → Took Fails kinds.Done versions steps left → after steps ≡ all_settled (committed ++ versions)
    done_told [] steps left t = ap after t.0 ∙ ap all_settled (sym (append-nil committed))
    done_told (v ∷ versions) steps left t =
        let b = t.1 in
        let p = b.publish in
        let number : suc p.last ≡ v = as_suc p ∙ sym b.version_is in
        let told = plan_behind (number_in table) (the_draft p) (the_target p) p.bytes committed p.last (number_is p) in
        ap after b.steps_are ∙ told ∙ ap (λ (n : ℕ). all_settled (committed ++ n ∷ [])) number ∙ ap (λ (l : List ℕ). all_settled (committed ++ v ∷ l)) (sym t.0)

    pub took_told : (kind : Kind) (versions : List ℕ) (steps : List Step) (left : List Parts) → IsTold kind versions → Took Fails kind versions steps left → ToldBy kind (committed ++ versions) (after steps)
    took_told kind versions steps left (inl done) t =
        let here : Took Fails kinds.Done versions steps left = subst (λ (k : Kind). Took Fails k versions steps left) done t in
        let told : ToldBy kinds.Done (committed ++ versions) (after steps) = done_told versions steps left here in
        subst (λ (k : Kind). ToldBy k (committed ++ versions) (after steps)) (sym done) told
    took_told kind versions steps left (inr none) t =
        let here : Took Fails kind [] steps left = subst (λ (vs : List ℕ). Took Fails kind vs steps left) none t in
        subst (λ (vs : List ℕ). ToldBy kind vs (after steps)) (sym (append-nil committed) ∙ ap (λ (l : List ℕ). committed ++ l) (sym none)) (kind_told kind steps left here)
