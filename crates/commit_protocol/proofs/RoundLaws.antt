-- Laws of what a commit tells: the change is asked, and what it built is published.
use Rattle.std.proofs.Common.{◌≡◌, inl, inr, ℕ, Bool, true, false, List, [], ◌∷◌, ◌++◌, take, drop, length, Option, Some, None, Result, Ok, Err, refl, sym, ap, ◌∙◌, subst, append_assoc, append-nil}
use Rattle.std.specs.Prelude.{IfErr, OnOk}
use Rattle.std.proofs.lemmas.List.{append_cancel_left, append_cancel_right}
use Rattle.serde_json.specs.Data.{Data}
use Rattle.serde_json.specs.View.{view}
use Rattle.ice_store.specs.Given.{Gives}
use Rattle.ice_store.specs.Others.{WhereTold}
use Rattle.ice_store.specs.Places.{Parts}
use Rattle.ice_store.specs.Since.{Since}
use Rattle.ice_store.proofs.SinceLaws.{since_start, since_then, since_turned}
use Rattle.ice_store.specs.declared.faults.ReadErr.TheVariants.{Missing, Damaged, Unsupported, StoreFault, Memory}
use Rattle.ice_store.specs.declared.history.Failure.{Failure}
use Rattle.ice_store.specs.declared.history.Past.{Past}
use Rattle.ice_store.specs.declared.history.Step.{Step}
use Rattle.table_metadata.specs.Edits.{HasVersionLimit}
use Rattle.commit_publish.specs.Kinds as kinds
use Rattle.commit_publish.specs.Kinds.{Counts, Kind, Failing, Marks}
use Rattle.commit_publish.specs.Stages.{AtRest, InState}
use Rattle.commit_publish.specs.Steps.{Exactly}
use Rattle.commit_versions.specs.Opening.{OpenStage}
use Rattle.commit_history.specs.Versions.{number_in}
use Rattle.commit_history.proofs.Numbering.{numbering}
use Rattle.commit_history.proofs.Running.{begins, ran_turned}
use Rattle.ice_store.specs.declared.history.StoreCall.{StoreCall}
use Rattle.commit_protocol.specs.Attempts.{TellsLimit}
use Rattle.commit_protocol.specs.Ends.{AddsPlaces, DrawsAlso, DrawsBy, DrawsOf, DrawsOne, IsDraft, IsDraftOrBoth, IsPublishFault, LeavesAtError, LeavesBy, LeavesOf, LeavesPublished, may_be_unasked, may_draw}
use Rattle.commit_protocol.specs.Kinds.{attempt_kind, attempted_kind, commit_end, kind_of}
use Rattle.commit_protocol.specs.Meanings.{LooksBy, Meanings, looking}
use Rattle.commit_protocol.specs.Prepares.{GivesAll, GivesLast, IsSpareEnd, MoreBy, Prepared, Prepares}
use Rattle.commit_protocol.specs.Withdraws.{LeavesUnmade, MadeNone, MadeStand, WithdrawStage, Withdrawn, Withdraws, lost_answer, lost_version, withdraw_kind}
use Rattle.commit_protocol.specs.Rounds.{AttemptTells, CommitTells, IsUnasked, RoundTells, WithdrewBy, left_after}
use Rattle.commit_protocol.specs.Verdicts.{IsOneDrawn}
use Rattle.commit_protocol.specs.Metadata.{IsAt, metadata_local, table_rules}
use Rattle.commit_protocol.specs.declared.opening.At.{At}
use Rattle.commit_protocol.specs.declared.errors.AttemptErr.{AttemptErr}
use Rattle.commit_protocol.specs.declared.errors.AttemptErr.TheVariants as attempts
use Rattle.commit_protocol.specs.declared.errors.Refusal.{Refusal}
use Rattle.commit_protocol.specs.declared.errors.RemoveErr.{RemoveErr}
use Rattle.commit_protocol.specs.declared.errors.RemoveErr.TheVariants as removals
use Rattle.commit_versions.specs.declared.types.OpenErr.{OpenErr}
use Rattle.commit_protocol.specs.declared.errors.CommitErr.{CommitErr}
use Rattle.commit_protocol.specs.declared.errors.CommitErr.TheVariants.{Open, Attempt, Contended, CommitUnknown}
use Rattle.commit_protocol.specs.declared.errors.Committed.{Committed}
use Rattle.commit_protocol.specs.declared.errors.Committed.TheVariants.{Same, Published}
use Rattle.commit_protocol.proofs.UniqueLaws.{one_given}

-- two facts of one stretch
pub since_both : (o a : Option Past) (P Q : Past → Past → Type 0) → Since o a P → Since o a Q → Since o a (λ x y. P x y × Q x y)
since_both None a P Q s t = s
since_both (Some old) a P Q s t =
    let somes : ◌≡◌ {A = Option Past} (Some t.now) (Some s.now) = sym t.is ∙ s.is in
    let same : t.now ≡ s.now = cc (somes) in
    record { now = s.now; is = s.is; holds = (s.holds, subst (λ (x : Past). Q old x) same t.holds) }

-- Identifiers.

-- behind those of a change one more is drawn
pub gives_last : (ids : List ℕ) (a b c : Option (List ℕ)) (id : ℕ) → GivesAll ids a b → Gives b c id → GivesLast ids a c id
gives_last [] a b c id all one = subst (λ (x : Option (List ℕ)). Gives x c id) all one
gives_last (i ∷ ids) a b None id all one = tt
gives_last (i ∷ ids) a b (Some values) id all one =
    let there = subst (λ (x : Option (List ℕ)). WhereTold x (λ vs. (given : List ℕ) × (a ≡ Some given) × (vs ≡ given ++ i ∷ ids))) one.1 all in
    (there.0, there.1, one.2 ∙ ap (λ (l : List ℕ). l ++ id ∷ []) there.2 ∙ append_assoc there.0 (i ∷ ids) (id ∷ []))

-- where the source tells, the last one is determined
pub one_last : (ids : List ℕ) (before : Option (List ℕ)) (values : List ℕ) → IsOneDrawn (GivesLast ids before (Some values))
one_last [] before values = one_given before values
one_last (i ∷ ids) before values = λ a b x y.
    let same : x.0 ≡ y.0 = cc (x.1, y.1) in
    let ends : x.0 ++ (i ∷ ids ++ a ∷ []) ≡ x.0 ++ (i ∷ ids ++ b ∷ []) = sym x.2 ∙ y.2 ∙ ap (λ (l : List ℕ). l ++ (i ∷ ids ++ b ∷ [])) (sym same) in
    let lasts : a ∷ [] ≡ b ∷ [] = append_cancel_left (i ∷ ids) (a ∷ []) (b ∷ []) (append_cancel_left x.0 (i ∷ ids ++ a ∷ []) (i ∷ ids ++ b ∷ []) ends) in
    cc (lasts)

module _ (ids : List ℕ) (a b c : Option (List ℕ)) (all : GivesAll ids a b) where
  also_one : (one : Bool) → DrawsOne one b c → DrawsAlso ids one a c
  also_one false same = subst (λ (x : Option (List ℕ)). GivesAll ids a x) (sym same) all
  also_one true one = (one.0, gives_last ids a b c one.0 all one.1)

  pub draws_of : (r : Result Committed CommitErr) → DrawsBy (commit_end r).versions (commit_end r).error b c → DrawsOf ids (commit_end r).versions (commit_end r).error a c
  draws_of (Ok (Same v)) d = also_one false d
  draws_of (Ok (Published v)) d = also_one true d
  draws_of (Err e) (inl d) = inr (inl (also_one false d))
  draws_of (Err e) (inr d) = inr (inr (also_one (may_draw e) d))

-- Places.

take_front : (l k : List Parts) → take (length l) (l ++ k) ≡ l
take_front [] k = refl
take_front (p ∷ l) k = ap (λ (x : List Parts). p ∷ x) (take_front l k)

module _ (Drawn Drawn' : ℕ → Type 0) (gives : (id : ℕ) → Drawn id → Drawn' id) (table : Parts) where
  draft_given : (left : List Parts) → IsDraft Drawn table left → IsDraft Drawn' table left
  draft_given left d = (d.0, gives d.0 d.1, d.2)

  adds_given : (had has : List Parts) → AddsPlaces (IsDraft Drawn table) had has → AddsPlaces (IsDraft Drawn' table) had has
  adds_given had has a = (a.0, a.1, draft_given a.0 a.2)

  both_given : (version : ℕ) (left : List Parts) → IsDraftOrBoth Drawn table version left → IsDraftOrBoth Drawn' table version left
  both_given version left (inl d) = inl (draft_given left d)
  both_given version left (inr d) = inr (d.0, gives d.0 d.1, d.2)

  pub leaves_given : (kind : Kind) (had has : List Parts) → LeavesBy Drawn table kind had has → LeavesBy Drawn' table kind had has
  leaves_given kinds.Done had has l = l
  leaves_given kinds.Told had has l = l
  leaves_given (kinds.Fault place) had has (inl l) = inl l
  leaves_given (kinds.Fault place) had has (inr l) = inr (adds_given had has l)
  leaves_given (kinds.Unknown version) had has l = (l.0, l.1, both_given version l.0 l.2)
  leaves_given (kinds.Lost version) had has l = l
  leaves_given kinds.Memory had has (inl l) = inl l
  leaves_given kinds.Memory had has (inr l) = inr (adds_given had has l)

  pub fault_given : (place : Parts) → IsPublishFault Drawn table place → IsPublishFault Drawn' table place
  fault_given place (inl there) = inl there
  fault_given place (inr d) = inr (d.0, gives d.0 d.1, d.2)

module _ (Drawn : ℕ → Type 0) (table : Parts) where
  -- once a publish ended, where it published, the log has what it had
  pub settled_left : (r : Result Committed CommitErr) (made had has : List Parts) → LeavesBy Drawn table (kind_of (commit_end r)) (had ++ made) has
      → LeavesPublished made Drawn table (commit_end r).versions (commit_end r).error had (left_after r (length had) has)
  settled_left (Ok (Same v)) made had has l = l
  settled_left (Ok (Published v)) made had has l = ap (λ (x : List Parts). take (length had) x) l ∙ take_front had made
  settled_left (Err e) made had has l = inr l

  -- an attempt that refused or failed leaves the change's files
  pub attempt_left : (e : AttemptErr) (l has : List Parts) → has ≡ l → LeavesBy Drawn table (attempt_kind e) l has
  attempt_left (attempts.Refused refusal) l has same = same
  attempt_left (attempts.Conflict place other) l has same = same
  attempt_left (attempts.NameTaken place) l has same = same
  attempt_left (attempts.Read (Missing place)) l has same = same
  attempt_left (attempts.Read (Damaged place at)) l has same = same
  attempt_left (attempts.Read (Unsupported place what)) l has same = same
  attempt_left (attempts.Read (StoreFault place)) l has same = inl same
  attempt_left (attempts.Read Memory) l has same = inl same

-- Before the change is asked.

pub limit_unasked : (place : Parts) (e : CommitErr) → TellsLimit place e → may_be_unasked e ≡ true
limit_unasked place e (inl is) = ap may_be_unasked is
limit_unasked place e (inr is) = ap may_be_unasked is

module _ (table : Parts) (allows : Past → Step → Type 0) (meanings : Meanings) (given given' : Option (List ℕ)) (now : ℕ) where
  pub unasked_by : (at : At) (e : CommitErr) → TellsLimit at.place e → (HasVersionLimit (view at.meta) → ⊥) → IsUnasked table allows meanings given given' now at (Err e)
  unasked_by at e (inl is) none = inr (ap (λ (x : CommitErr). Err x) is, none)
  unasked_by at e (inr is) none = inl (ap (λ (x : CommitErr). Err x) is)

  -- on the base that was opened
  pub prepares_at : (tree tree' : Data) (place place' : Parts) (kind : Kind) (mark : Option Failure) (old new : Past) → tree ≡ tree' → place ≡ place'
      → Prepares table allows meanings tree kind place mark old new → Prepares table allows meanings tree' kind place' mark old new
  prepares_at tree tree' place place' kind mark old new trees places p =
      subst (λ (d : Data). Prepares table allows meanings d kind place' mark old new) trees (subst (λ (q : Parts). Prepares table allows meanings tree kind q mark old new) places p)

  -- the table was opened, and the attempt told this
  pub tells_by : (at : At) (r : Result Committed CommitErr) (mark : Option Failure) (had has : List Parts) (old mid new : Past) → ((e : _) → r ≡ Err (Open e) → ⊥) → IsAt table allows at old mid
      → RoundTells table allows meanings given given' now at r mark had has mid new → CommitTells table allows meanings given given' now r mark had has old new
  tells_by at (Ok c) mark had has old mid new never opened then = record { at = at; mid = mid; opened = opened; then = then }
  tells_by at (Err (Open e)) mark had has old mid new never opened then = absurd (never e refl)
  tells_by at (Err (Attempt e)) mark had has old mid new never opened then = record { at = at; mid = mid; opened = opened; then = then }
  tells_by at (Err (Contended version)) mark had has old mid new never opened then = record { at = at; mid = mid; opened = opened; then = then }
  tells_by at (Err (CommitUnknown version)) mark had has old mid new never opened then = record { at = at; mid = mid; opened = opened; then = then }

-- An attempt that only looks.

nothing_more : (Fails : StoreCall → Type 0) (kind : Kind) → MoreBy Fails kind []
nothing_more Fails kinds.Done = refl
nothing_more Fails kinds.Told = refl
nothing_more Fails (kinds.Fault place) = inl refl
nothing_more Fails (kinds.Unknown version) = refl
nothing_more Fails (kinds.Lost version) = refl
nothing_more Fails kinds.Memory = refl

module _ (table : Parts) (allows : Past → Step → Type 0) (S : Data → Data → Type 0) (T : Data → Type 0) (R : Data → AttemptErr → Type 0) (N : Data → Type 0) where
  abbrev pub only_looks : Meanings
  only_looks = looking S T R N

  nothing_made : (Fails : StoreCall → Type 0) (tree : Data) (kind : Kind) → LooksBy Fails kind → Prepared Fails only_looks tree kind []
  nothing_made Fails tree kind looks = record { takes = (refl, looks); only = tt; more = []; noted = refl; cause = nothing_more Fails kind }

  -- it leaves all as it was
  pub prepares_nothing : (tree : Data) (kind : Kind) (base : Parts) (mark : Option Failure) (old : Past) → LooksBy (Failing mark old) kind → InState (OpenStage (number_in table) base) old → Prepares table allows only_looks tree kind base mark old old
  prepares_nothing tree kind base mark old looks here =
      let K = InState (OpenStage (number_in table) base) in
      ran_turned (table_rules table allows) (Exactly []) (Prepared (Failing mark old) only_looks tree kind) K K old old (begins (table_rules table allows) (numbering table) (metadata_local table) K old here)
      (λ steps none. subst (λ (l : List Step). Prepared (Failing mark old) only_looks tree kind l) (sym none) (nothing_made (Failing mark old) tree kind looks)) (λ h. h)

  -- so it tells
  pub told_nothing : (tree : Data) (kind : Kind) (base : Parts) (mark : Option Failure) (o : Option Past) → ((Fails : StoreCall → Type 0) → LooksBy Fails kind) → WhereTold o (InState (OpenStage (number_in table) base)) → Since o o (Prepares table allows only_looks tree kind base mark)
  told_nothing tree kind base mark o looks here = since_start o (InState (OpenStage (number_in table) base)) (Prepares table allows only_looks tree kind base mark) here (λ old there. prepares_nothing tree kind base mark old (looks (Failing mark old)) there)

-- where no failed call is answered, none has to be a look
pub looks_plainly : (e : AttemptErr) → ((place : Parts) → e ≡ attempts.Read (StoreFault place) → ⊥) → (Fails : StoreCall → Type 0) → LooksBy Fails (attempt_kind e)
looks_plainly (attempts.Refused refusal) plain Fails = tt
looks_plainly (attempts.Conflict place other) plain Fails = tt
looks_plainly (attempts.NameTaken place) plain Fails = tt
looks_plainly (attempts.Read (Missing place)) plain Fails = tt
looks_plainly (attempts.Read (Damaged place at)) plain Fails = tt
looks_plainly (attempts.Read (Unsupported place what)) plain Fails = tt
looks_plainly (attempts.Read (StoreFault place)) plain Fails = absurd (plain place refl)
looks_plainly (attempts.Read Memory) plain Fails = tt

-- so of an answer, which refuses so where it does
pub looks_by : {T : Type 0} (R : AttemptErr → Type 0) → ((place : Parts) → R (attempts.Read (StoreFault place)) → ⊥) → (r : Result T AttemptErr) → IfErr r R → (Fails : StoreCall → Type 0) → LooksBy Fails (attempted_kind r)
looks_by R plain (Ok x) refused Fails = tt
looks_by R plain (Err e) refused Fails = looks_plainly e (λ place is. plain place (subst R is refused)) Fails

-- what is nothing is met
pub met_nothing : (o : Option Past) → Since o o (λ old new. Unit {0})
met_nothing None = refl
met_nothing (Some old) = record { now = old; is = refl; holds = tt }

-- A lost race.

-- its version, and no other's
pub lost_is : (r : Result Committed CommitErr) (version : ℕ) → lost_version r ≡ Some version → r ≡ Err (Contended version)
lost_is (Ok c) version is = absurd (cc (is))
lost_is (Err (Open e)) version is = absurd (cc (is))
lost_is (Err (Attempt e)) version is = absurd (cc (is))
lost_is (Err (Contended v)) version is =
    let same : v ≡ version = cc (is) in
    ap (λ (n : ℕ). Err (Contended n)) same
lost_is (Err (CommitUnknown v)) version is = absurd (cc (is))

-- where there was none, what the attempt tells is all
pub unlost : (r : Result Committed CommitErr) (made : List Parts) → lost_version r ≡ None → MadeNone (lost_version r) made
unlost r made is = subst (λ (v : Option ℕ). MadeNone v made) (sym is) tt

-- the kinds of its answers
pub lost_kind : (version : ℕ) (removed : Result (Unit {0}) RemoveErr) (before now : ℕ) → Counts (withdraw_kind removed) before now → Counts (kind_of (commit_end (lost_answer version removed))) before now
lost_kind version (Ok u) before now c = c
lost_kind version (Err (removals.StoreFault place)) before now c = c
lost_kind version (Err removals.Memory) before now c = c

pub lost_marks : (table : Parts) (version : ℕ) (removed : Result (Unit {0}) RemoveErr) (before now : Option Failure) (told : Option Past) → Marks table (withdraw_kind removed) before now told
    → Marks table (kind_of (commit_end (lost_answer version removed))) before now told
lost_marks table version (Ok u) before now told m = m
lost_marks table version (Err (removals.StoreFault place)) before now told m = m
lost_marks table version (Err removals.Memory) before now told m = m

-- it acknowledges no version
pub lost_versions : (version : ℕ) (removed : Result (Unit {0}) RemoveErr) → (commit_end (lost_answer version removed)).versions ≡ []
lost_versions version (Ok u) = refl
lost_versions version (Err (removals.StoreFault place)) = refl
lost_versions version (Err removals.Memory) = refl

-- the identifiers are those of the attempt
pub lost_draws : (ids : List ℕ) (version : ℕ) (removed : Result (Unit {0}) RemoveErr) (a b : Option (List ℕ)) → DrawsOf ids [] (Some (Contended version)) a b
    → DrawsOf ids (commit_end (lost_answer version removed)).versions (commit_end (lost_answer version removed)).error a b
lost_draws ids version removed a b (inl d) = absurd (cc (d.0))
lost_draws ids version (Ok u) a b (inr d) = inr d
lost_draws ids version (Err (removals.StoreFault place)) a b (inr d) = inr d
lost_draws ids version (Err removals.Memory) a b (inr d) = inr d

-- it spares nothing, refuses nothing, and isn't of an opening
pub lost_unspared : (version : ℕ) (removed : Result (Unit {0}) RemoveErr) → IsSpareEnd (lost_answer version removed) → ⊥
lost_unspared version (Ok u) spare = spare
lost_unspared version (Err (removals.StoreFault place)) spare = spare
lost_unspared version (Err removals.Memory) spare = spare

pub lost_refuses : (version : ℕ) (removed : Result (Unit {0}) RemoveErr) (refusal : Refusal) → lost_answer version removed ≡ Err (Attempt (attempts.Refused refusal)) → ⊥
lost_refuses version (Ok u) refusal is = cc (is)
lost_refuses version (Err (removals.StoreFault place)) refusal is = cc (is)
lost_refuses version (Err removals.Memory) refusal is = cc (is)

pub lost_opens : (version : ℕ) (removed : Result (Unit {0}) RemoveErr) (e : OpenErr) → lost_answer version removed ≡ Err (Open e) → ⊥
lost_opens version (Ok u) e is = cc (is)
lost_opens version (Err (removals.StoreFault place)) e is = cc (is)
lost_opens version (Err removals.Memory) e is = cc (is)

-- a fault is that of the removal
pub lost_fault : (version : ℕ) (removed : Result (Unit {0}) RemoveErr) (place : Parts) → lost_answer version removed ≡ Err (Attempt (attempts.Read (StoreFault place))) → removed ≡ Err (removals.StoreFault place)
lost_fault version (Ok u) place is = absurd (cc (is))
lost_fault version (Err (removals.StoreFault p)) place is =
    let same : p ≡ place = cc (is) in
    ap (λ (q : Parts). Err (removals.StoreFault q)) same
lost_fault version (Err removals.Memory) place is = absurd (cc (is))

-- the log once an attempt lost the race
pub beaten_left : (made : List Parts) (Drawn : ℕ → Type 0) (table : Parts) (version : ℕ) (had has : List Parts) → LeavesPublished made Drawn table [] (Some (Contended version)) had has → has ≡ had ++ made
beaten_left made Drawn table version had has (inl l) = absurd (cc (l.0))
beaten_left made Drawn table version had has (inr l) = l

module _ (made : List Parts) (Drawn : ℕ → Type 0) (table : Parts) (version : ℕ) (had kept has : List Parts) (beaten : kept ≡ had ++ made) where
  others_are : (others : List Parts) → kept ≡ others ++ made → others ≡ had
  others_are others is = append_cancel_right others had made (sym is ∙ beaten)

  some_left : (l : (others : List Parts) × (count : ℕ) × (kept ≡ others ++ made) × (has ≡ others ++ drop count made)) → (count : ℕ) × (has ≡ had ++ drop count made)
  some_left l = (l.1, l.3 ∙ ap (λ (x : List Parts). x ++ drop l.1 made) (others_are l.0 l.2))

  pub lost_left : (removed : Result (Unit {0}) RemoveErr) → LeavesUnmade made removed kept has
      → LeavesOf made Drawn table (commit_end (lost_answer version removed)).versions (commit_end (lost_answer version removed)).error had has
  lost_left (Ok u) l = others_are has l
  lost_left (Err (removals.StoreFault place)) l = inr (some_left l)
  lost_left (Err removals.Memory) l = inr (some_left l)

-- what no lost race ended leaves what its publish left
pub unlost_left : (made : List Parts) (Drawn : ℕ → Type 0) (table : Parts) (r : Result Committed CommitErr) (had has : List Parts) → lost_version r ≡ None → LeavesPublished made Drawn table (commit_end r).versions (commit_end r).error had has
    → LeavesOf made Drawn table (commit_end r).versions (commit_end r).error had has
unlost_left made Drawn table (Ok (Same v)) had has none l = l
unlost_left made Drawn table (Ok (Published v)) had has none l = l
unlost_left made Drawn table (Err (Open e)) had has none l = l
unlost_left made Drawn table (Err (Attempt e)) had has none l = inl l
unlost_left made Drawn table (Err (Contended v)) had has none l = absurd (cc (none))
unlost_left made Drawn table (Err (CommitUnknown v)) had has none l = l

-- once the draft of a lost race is removed, nothing is pending
module _ (table : Parts) (allows : Past → Step → Type 0) (meanings : Meanings) (given given' : Option (List ℕ)) (now : ℕ) where
  pub no_unasked : (at : At) (version : ℕ) → IsUnasked table allows meanings given given' now at (Err (Contended version)) → ⊥
  no_unasked at version (inl is) = cc (is)
  no_unasked at version (inr is) = cc (is.0)

  pub rests : (at : At) (version : ℕ) (mark : Option Failure) (had has : List Parts) (old new : Past) → AttemptTells table allows meanings given given' now at (Err (Contended version)) mark had has old new → InState (λ d. AtRest d.pending) new
  rests at version mark had has old new (inl u) = absurd (no_unasked at version u.0)
  rests at version mark had has old new (inr (inl a)) = absurd a.answer
  rests at version mark had has old new (inr (inr b)) = b.published.2.left.stage.at_rest

  module _ (at : At) (version : ℕ) (p0 p1 p2 : Option Past) (before mark : Option Failure) (had kept has : List Parts) (removed : Result (Unit {0}) RemoveErr) where
    abbrev pub Tried : Past → Past → Type 0
    Tried = AttemptTells table allows meanings given given' now at (Err (Contended version)) before had kept

    abbrev pub Whole : Result Committed CommitErr → Option Failure → List Parts → Past → Past → Type 0
    Whole r m l = RoundTells table allows meanings given given' now at r m had l

    -- of the files that it made, whichever they are
    pub round_by : (made : List Parts) → meanings.made ≡ made → Since p0 p1 Tried → kept ≡ had ++ meanings.made → Since p1 p2 (Withdrawn table allows meanings.made mark removed kept has)
        → (meanings.made ≡ [] → p2 ≡ p1) → (meanings.made ≡ [] → removed ≡ Ok tt) → Marks table (withdraw_kind removed) before mark p2 → LeavesUnmade meanings.made removed kept has
        → Since p0 p2 (Whole (lost_answer version removed) mark has)
    round_by [] none tried beaten withdrawn still done marks left =
        let over : Since p0 p2 Tried = subst (λ (p : Option Past). Since p0 p Tried) (sym (still none)) tried in
        let ended = done none in
        let marked : mark ≡ before = subst (λ (r : Result (Unit {0}) RemoveErr). Marks table (withdraw_kind r) before mark p2) ended marks in
        let there : kept ≡ has ++ meanings.made = subst (λ (r : Result (Unit {0}) RemoveErr). LeavesUnmade meanings.made r kept has) ended left in
        let same : has ≡ kept = sym (there ∙ ap (λ (l : List Parts). has ++ l) none ∙ append-nil has) in
        let turned = since_turned p0 p2 Tried (Whole (Err (Contended version)) before kept) over (λ old new t. inl (none, t)) in
        let marked_so = subst (λ (m : Option Failure). Since p0 p2 (Whole (Err (Contended version)) m kept)) (sym marked) turned in
        let left_so = subst (λ (l : List Parts). Since p0 p2 (Whole (Err (Contended version)) mark l)) (sym same) marked_so in
        subst (λ (r : Result (Unit {0}) RemoveErr). Since p0 p2 (Whole (lost_answer version r) mark has)) (sym ended) left_so
    round_by (p ∷ made) some tried beaten withdrawn still done marks left =
        since_then p0 p1 p2 Tried (Withdrawn table allows meanings.made mark removed kept has) (Whole (lost_answer version removed) mark has) tried withdrawn
        (λ old mid new t w. inr (record {
          version = version;
          before = before;
          beaten = mid;
          tried = subst (λ (l : List Parts). AttemptTells table allows meanings given given' now at (Err (Contended version)) before had l old mid) beaten t;
          some = λ none. cc (sym some ∙ none);
          outcome = removed;
          answer = refl;
          withdrawn = subst (λ (l : List Parts). Withdrawn table allows meanings.made mark removed l has mid new) beaten w;
        }))

-- A change that made no file withdraws none.

abbrev pub no_file : List Parts
no_file = []

-- all of none stand
pub none_stand : (table : Parts) (o : Option Past) → WhereTold o (MadeStand table no_file)
none_stand table None = tt
none_stand table (Some past) = tt

pub none_stand_on : {T E : Type 0} (r : Result T E) (table : Parts) (o : Option Past) → OnOk r (WhereTold o (MadeStand table no_file))
none_stand_on (Ok x) table o = none_stand table o
none_stand_on (Err e) table o = tt

withdraws_none : (Fails : StoreCall → Type 0) (table : Parts) (had : List Parts) → Withdraws Fails table no_file (Ok tt) had had []
withdraws_none Fails table had = record { count = 0; taken = []; steps_are = refl; ends = refl; others = had; had_is = sym (append-nil had); has_is = sym (append-nil had) }

module _ (table : Parts) (allows : Past → Step → Type 0) (mark : Option Failure) (had : List Parts) where
  abbrev pub rests_on : Past → Type 0
  rests_on = InState (λ d. AtRest d.pending)

  withdrawn_none : (old : Past) → rests_on old → Withdrawn table allows no_file mark (Ok tt) had had old old
  withdrawn_none old here =
      ran_turned (table_rules table allows) (Exactly []) (Withdraws (Failing mark old) table no_file (Ok tt) had had) rests_on rests_on old old
      (begins (table_rules table allows) (numbering table) (metadata_local table) rests_on old here)
      (λ steps none. subst (λ (l : List Step). Withdraws (Failing mark old) table no_file (Ok tt) had had l) (sym none) (withdraws_none (Failing mark old) table had)) (λ h. h)

  -- so it tells
  pub told_withdrawn : (o : Option Past) → WhereTold o rests_on → Since o o (Withdrawn table allows no_file mark (Ok tt) had had)
  told_withdrawn o here = since_start o rests_on (Withdrawn table allows no_file mark (Ok tt) had had) here withdrawn_none
