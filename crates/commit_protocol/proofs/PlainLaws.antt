-- A change that only looks at the table: what a commit of it tells is what the opening and one publish tell.
use Rattle.std.proofs.Common.{◌≡◌, inl, inr, ℕ, ◌+◌, Bool, true, false, List, [], ◌∷◌, ◌++◌, take, drop, length, Option, Some, None, Result, Ok, Err, refl, sym, ap, ◌∙◌, subst, append-nil, arith}
use Rattle.serde_json.specs.Data.{Data}
use Rattle.serde_json.specs.View.{view}
use Rattle.ice_store.specs.Given.{Gives}
use Rattle.ice_store.specs.Places.{Parts}
use Rattle.ice_store.specs.declared.history.Failure.{Failure}
use Rattle.ice_store.specs.declared.history.Past.{Past}
use Rattle.ice_store.specs.declared.history.Step.{Step}
use Rattle.ice_store.specs.declared.faults.Where.TheVariants.{Path}
use Rattle.ice_store.specs.declared.faults.ReadErr.{ReadErr}
use Rattle.ice_store.specs.declared.faults.ReadErr.TheVariants.{Missing, Damaged, Unsupported, StoreFault, Memory}
use Rattle.table_metadata.specs.Edits.{HasVersionLimit}
use Rattle.metadata_view.specs.View.{location_of}
use Rattle.commit_history.specs.Mannered.{IsMannered}
use Rattle.commit_history.specs.Runs.{Ran}
use Rattle.commit_history.specs.Versions.{number_in}
use Rattle.commit_history.proofs.Running.{ran_turned}
use Rattle.commit_publish.specs.Kinds as kinds
use Rattle.commit_publish.specs.Kinds.{Kind, Failing, read_kind}
use Rattle.commit_publish.specs.Stages.{InState}
use Rattle.commit_publish.specs.Steps.{Anything, Exactly}
use Rattle.commit_versions.specs.Names.{version_text_of}
use Rattle.commit_versions.specs.Opening.{OpenStage}
use Rattle.commit_protocol.specs.Attempts.{AttemptLeaves, CommitLeaves, limit_path}
use Rattle.commit_protocol.specs.Ends.{CommitWorks, DrawsAlso, DrawsBy, DrawsOf, DrawsOne, IsThat, LeavesBy, LeavesOf, LeavesPublished, LeavesSome, WasOpened, Works, may_be_unasked, may_draw}
use Rattle.commit_protocol.specs.Kinds.{attempt_kind, commit_end, commit_kind, error_kind, kind_of}
use Rattle.commit_protocol.specs.Meanings.{LooksBy, Meanings, looking, only_successor}
use Rattle.commit_protocol.specs.Metadata.{IsAt, table_rules}
use Rattle.commit_protocol.specs.Prepares.{Prepared, Prepares}
use Rattle.commit_protocol.specs.Rounds.{AnswersSo, AttemptTells, BuiltBy, CommitTells, IsUnasked, OpenedFirst, RoundTells, left_after}
use Rattle.commit_protocol.specs.Written.{IsOn}
use Rattle.commit_protocol.specs.declared.committing.Base.{Base}
use Rattle.commit_protocol.specs.declared.opening.At.{At}
use Rattle.commit_protocol.specs.declared.errors.AttemptErr.{AttemptErr}
use Rattle.commit_protocol.specs.declared.errors.AttemptErr.TheVariants as attempts
use Rattle.commit_protocol.specs.declared.errors.CommitErr.{CommitErr}
use Rattle.commit_protocol.specs.declared.errors.CommitErr.TheVariants.{Open, Attempt, Contended, CommitUnknown}
use Rattle.commit_versions.specs.declared.types.OpenErr.{OpenErr}
use Rattle.commit_versions.specs.declared.types.OpenErr.TheVariants as opens
use Rattle.commit_protocol.specs.declared.errors.Committed.{Committed}
use Rattle.commit_protocol.specs.declared.errors.Committed.TheVariants.{Same, Published}
use Rattle.commit_protocol.proofs.CommitLaws as laws
use Rattle.commit_protocol.proofs.StepLaws.{opened_idle}
use Rattle.commit_protocol.proofs.WorkLaws as works

-- Its log and its identifiers.

module _ (Drawn : ℕ → Type 0) (table : Parts) (had has : List Parts) (same : has ≡ had) where
  read_left : (e : ReadErr) → LeavesBy Drawn table (read_kind e) had has
  read_left (Missing place) = same
  read_left (Damaged place at) = same
  read_left (Unsupported place what) = same
  read_left (StoreFault place) = inl same
  read_left Memory = inl same

  -- an error before the change is asked leaves nothing
  unasked_left : (e : CommitErr) → may_be_unasked e ≡ true → LeavesBy Drawn table (commit_kind e) had has
  unasked_left (Open (opens.NoTable place)) may = same
  unasked_left (Open (opens.LocationDiffers place location)) may = same
  unasked_left (Open (opens.Read e)) may = read_left e
  unasked_left (Attempt (attempts.Refused refusal)) may = same
  unasked_left (Attempt (attempts.Conflict place other)) may = same
  unasked_left (Attempt (attempts.NameTaken place)) may = same
  unasked_left (Attempt (attempts.Read e)) may = read_left e
  unasked_left (Contended v) may = absurd (cc (may))
  unasked_left (CommitUnknown v) may = absurd (cc (may))

module _ (table : Parts) (had has : List Parts) where
  published_left : (Drawn : ℕ → Type 0) (e : CommitErr) → LeavesPublished [] Drawn table [] (Some e) had has → LeavesBy Drawn table (commit_kind e) had has
  published_left Drawn e (inl l) = unasked_left Drawn table had has l.1 e l.0
  published_left Drawn e (inr l) = subst (λ (x : List Parts). LeavesBy Drawn table (commit_kind e) x has) (append-nil had) l

  drop_none : (count : ℕ) → drop {A = Parts} count [] ≡ []
  drop_none count = grind arith

  none_left : (some : (count : ℕ) × (has ≡ had ++ drop count [])) → has ≡ had
  none_left some = some.1 ∙ ap (λ (l : List Parts). had ++ l) (drop_none some.0) ∙ append-nil had

  some_left : (Drawn : ℕ → Type 0) (kind : Kind) → LeavesSome [] kind had has → LeavesBy Drawn table kind had has
  some_left Drawn kinds.Done l = absurd l
  some_left Drawn kinds.Told l = absurd l
  some_left Drawn (kinds.Fault place) l = inl (none_left l)
  some_left Drawn (kinds.Unknown v) l = absurd l
  some_left Drawn (kinds.Lost v) l = absurd l
  some_left Drawn kinds.Memory l = inl (none_left l)

  pub plain_left : (Drawn : ℕ → Type 0) (r : Result Committed CommitErr) → LeavesOf [] Drawn table (commit_end r).versions (commit_end r).error had has → LeavesBy Drawn table (kind_of (commit_end r)) had has
  plain_left Drawn (Ok (Same v)) l = l ∙ append-nil had
  plain_left Drawn (Ok (Published v)) l = l
  plain_left Drawn (Err (Open e)) l = published_left Drawn (Open e) l
  plain_left Drawn (Err (Attempt e)) (inl l) = published_left Drawn (Attempt e) l
  plain_left Drawn (Err (Attempt e)) (inr l) = some_left Drawn (attempt_kind e) l
  plain_left Drawn (Err (Contended v)) l = l
  plain_left Drawn (Err (CommitUnknown v)) l = published_left Drawn (CommitUnknown v) l

pub plain_draws : (a b : Option (List ℕ)) (r : Result Committed CommitErr) → DrawsOf [] (commit_end r).versions (commit_end r).error a b → DrawsBy (commit_end r).versions (commit_end r).error a b
plain_draws a b (Ok (Same v)) d = d
plain_draws a b (Ok (Published v)) d = d
plain_draws a b (Err e) (inl d) = inl d.1
plain_draws a b (Err e) (inr (inl d)) = inl d
plain_draws a b (Err e) (inr (inr d)) = inr (also (may_draw e) d)
  where
    also : (one : Bool) → DrawsAlso [] one a b → DrawsOne one a b
    also false d = d
    also true d = d

take_whole : (l : List Parts) → take (length l) l ≡ l
take_whole [] = refl
take_whole (p ∷ l) = ap (λ (x : List Parts). p ∷ x) (take_whole l)

-- What is told.

module _ (table : Parts) (allows : Past → Step → Type 0) (mannered : IsMannered (table_rules table allows)) (S : Data → Data → Type 0) (T : Data → Type 0) (R : Data → AttemptErr → Type 0) (N : Data → Type 0)
    (given given' : Option (List ℕ)) (now : ℕ) where
  abbrev pub meanings : Meanings
  meanings = looking S T R N

  abbrev pub Drawn : ℕ → Type 0
  Drawn = Gives given given'

  module _ (at : At) (r : Result Committed CommitErr) (mark : Option Failure) (had has : List Parts) where
    abbrev pub K : Past → Type 0
    K = InState (OpenStage (number_in table) at.place)

    abbrev pub Idle : Past → Past → Type 0
    Idle = Ran (table_rules table allows) (Exactly []) K

    abbrev pub Leaves : Result Committed CommitErr → Past → Past → Type 0
    Leaves x = AttemptLeaves table allows meanings Drawn now at x

    abbrev pub Does : Result Committed CommitErr → List Parts → Past → Past → Type 0
    Does x l = Works S Drawn table now (IsThat at) (commit_end x) mark had l

    abbrev pub base_of : Base
    base_of = record { version = at.version; place = at.place; text = at.text; previous = version_text_of (location_of (view at.meta)) at.version }

    abbrev pub on_of : IsOn base_of at
    on_of = record { place_is = refl; version_is = refl; text_is = refl; previous_is = refl }

    idle_of : (kind : Kind) (before : Option Failure) (old new : Past) → Prepares table allows meanings (view at.meta) kind at.place before old new → Idle old new
    idle_of kind before old new run = ran_turned (table_rules table allows) (Prepared (Failing before new) meanings (view at.meta) kind) (Exactly []) K K old new run (λ l p. p.takes.0) (λ h. h)

    forget : (old new : Past) → Idle old new → Ran (table_rules table allows) (Exactly []) Anything old new
    forget old new run = ran_turned (table_rules table allows) (Exactly []) (Exactly []) K Anything old new run (λ l e. e) (λ h. tt)

    -- The change isn't asked.

    unasked_leaves : (x : Result Committed CommitErr) (old new : Past) → IsUnasked table allows meanings given given' now at x → Ran (table_rules table allows) (Exactly []) Anything old new → Leaves x old new
    unasked_leaves x old new (inl is) idle = subst (λ (y : Result Committed CommitErr). Leaves y old new) (sym is) (inl idle)
    unasked_leaves x old new (inr u) idle = subst (λ (y : Result Committed CommitErr). Leaves y old new) (sym u.0) (inr (refl, (refl, u.1, idle)))

    none_does : (error : Option CommitErr) (K' : Past → Type 0) (old new : Past) → has ≡ had → LooksBy (Failing mark new) (error_kind error) → Ran (table_rules table allows) (Exactly []) K' old new
        → Works S Drawn table now (IsThat at) (record { versions = []; error = error }) mark had has old new
    none_does error K' old new same looks run = works.works_none S Drawn table now (IsThat at) (table_rules table allows) K' error mark had has old new same looks run

    unasked_does : (x : Result Committed CommitErr) (old new : Past) → IsUnasked table allows meanings given given' now at x → has ≡ had → Ran (table_rules table allows) (Exactly []) Anything old new → Does x has old new
    unasked_does x old new (inl is) same idle = subst (λ (y : Result Committed CommitErr). Does y has old new) (sym is) (none_does (Some (Attempt (attempts.Read Memory))) Anything old new same tt idle)
    unasked_does x old new (inr u) same idle = subst (λ (y : Result Committed CommitErr). Does y has old new) (sym u.0) (none_does (Some (Attempt (attempts.Read (Damaged at.place (Path limit_path))))) Anything old new same tt idle)

    -- It answers itself.

    answered_leaves : (x : Result Committed CommitErr) (old new : Past) → HasVersionLimit (view at.meta) → AnswersSo table allows meanings given given' now at x → Idle old new → Leaves x old new
    answered_leaves (Ok (Same v)) old new limit a run = (a.0, limit, a.1, a.2, forget old new run)
    answered_leaves (Ok (Published v)) old new limit a run = absurd a
    answered_leaves (Err (Open e)) old new limit a run = absurd a
    answered_leaves (Err (Attempt e)) old new limit a run = laws.refused_by table allows mannered now Drawn at base_of on_of meanings e old new limit a run
    answered_leaves (Err (Contended v)) old new limit a run = absurd a
    answered_leaves (Err (CommitUnknown v)) old new limit a run = absurd a

    answered_does : (x : Result Committed CommitErr) (old new : Past) → AnswersSo table allows meanings given given' now at x → has ≡ had → LooksBy (Failing mark new) (kind_of (commit_end x)) → Idle old new → Does x has old new
    answered_does (Ok (Same v)) old new a same looks run = none_does None K old new same tt run
    answered_does (Ok (Published v)) old new a same looks run = absurd a
    answered_does (Err (Open e)) old new a same looks run = absurd a
    answered_does (Err (Attempt e)) old new a same looks run = none_does (Some (Attempt e)) K old new same looks run
    answered_does (Err (Contended v)) old new a same looks run = absurd a
    answered_does (Err (CommitUnknown v)) old new a same looks run = absurd a

    -- It built a successor.

    built_leaves : (old new : Past) → BuiltBy table allows meanings given given' now at r mark had has old new → Leaves r old new
    built_leaves old new b =
        let by_ids = subst (λ (i : Option (List ℕ)). AttemptLeaves table allows (only_successor b.built) (Gives i given') now at r b.ready new) b.drawn b.published in
        laws.attempt_then table allows mannered now Drawn at base_of on_of meanings b.built b.is b.limit b.saw old b.ready new (idle_of kinds.Done b.before old b.ready b.prepared) r by_ids

    settled : (x : Result Committed CommitErr) (left : List Parts) (old new : Past) → Does x left old new → Does x (left_after x (length had) left) old new
    settled (Ok (Same v)) left old new w = w
    settled (Ok (Published v)) left old new w =
        let same : had ++ w.left ≡ had = ap (λ (l : List Parts). had ++ l) w.took.2 ∙ append-nil had in
        let noted : take (length had) left ≡ had ++ w.left = ap (λ (l : List Parts). take (length had) l) (w.noted ∙ same) ∙ take_whole had ∙ sym same in
        record { events = w.events; is = w.is; left = w.left; noted = noted; took = w.took }
    settled (Err e) left old new w = w

    built_does : (old new : Past) → BuiltBy table allows meanings given given' now at r mark had has old new → Does r has old new
    built_does old new b =
        let Only = (only_successor b.built).successor in
        let by_ids = subst (λ (i : Option (List ℕ)). Works Only (Gives i given') table now (IsThat at) (commit_end r) mark (had ++ []) b.left b.ready new) b.drawn b.worked in
        let by_log = subst (λ (l : List Parts). Works Only Drawn table now (IsThat at) (commit_end r) mark l b.left b.ready new) (append-nil had) by_ids in
        let turned : Does r b.left b.ready new = works.works_turned Only S Drawn table now (IsThat at) (IsThat at) (λ place last text tree that. that)
        (λ place last text tree next that is. subst (λ (d : Data). S d next) (sym that.tree_is) (subst (λ (d : Data). S (view at.meta) d) (sym is) b.is)) (commit_end r) mark had b.left b.ready new by_log in
        let here : Does r has b.ready new = subst (λ (l : List Parts). Does r l b.ready new) (sym b.noted) (settled r b.left b.ready new turned) in
        works.works_behind S Drawn table now (IsThat at) (table_rules table allows) K (commit_end r) mark had has old b.ready new (idle_of kinds.Done b.before old b.ready b.prepared) here

    attempt_plain : (old new : Past) → AttemptTells table allows meanings given given' now at r mark had has old new → Leaves r old new × Does r has old new
    attempt_plain old new (inl u) = (unasked_leaves r old new u.0 u.3, unasked_does r old new u.0 u.1 u.3)
    attempt_plain old new (inr (inl a)) =
        let run = idle_of (kind_of (commit_end r)) mark old new a.prepared in
        (answered_leaves r old new a.limit a.answer run, answered_does r old new a.answer (a.noted ∙ append-nil had) a.prepared.made.takes.1 run)
    attempt_plain old new (inr (inr b)) = (built_leaves old new b, built_does old new b)

  module _ (r : Result Committed CommitErr) (mark : Option Failure) (had has : List Parts) (old new : Past) where
    abbrev pub Both : Result Committed CommitErr → Type 0
    Both x = CommitLeaves table allows meanings Drawn now x old new × CommitWorks table allows meanings Drawn now x mark had has old new

    -- it made no file, so none is withdrawn
    alone_told : (at : At) (mid : Past) → RoundTells table allows meanings given given' now at r mark had has mid new → AttemptTells table allows meanings given given' now at r mark had has mid new
    alone_told at mid (inl t) = t.1
    alone_told at mid (inr w) = absurd (w.some refl)

    opened_plain : OpenedFirst table allows meanings given given' now r mark had has old new → Both r
    opened_plain o =
        let at = o.at in
        let mid = o.mid in
        let p = attempt_plain at r mark had has mid new (alone_told at mid o.then) in
        let turned = works.works_turned S S Drawn table now (IsThat at) (WasOpened table allows old) (λ place last text tree that. record { at = at; mid = mid; opened = o.opened; that = that }) (λ place last text tree next that is. is) (commit_end r) mark had has mid new p.1 in (
          laws.committed_by table allows now Drawn meanings at r old mid new o.opened p.0,
          works.works_behind S Drawn table now (WasOpened table allows old) (table_rules table allows) Anything (commit_end r) mark had has old mid new (opened_idle table allows at.place at.text old mid o.opened.opened) turned,
        )

  pub commit_plain : (r : Result Committed CommitErr) (mark : Option Failure) (had has : List Parts) (old new : Past) → CommitTells table allows meanings given given' now r mark had has old new
      → CommitLeaves table allows meanings Drawn now r old new × CommitWorks table allows meanings Drawn now r mark had has old new
  commit_plain (Ok c) mark had has old new h = opened_plain (Ok c) mark had has old new h
  commit_plain (Err (Open e)) mark had has old new h = (h.0, h.2)
  commit_plain (Err (Attempt e)) mark had has old new h = opened_plain (Err (Attempt e)) mark had has old new h
  commit_plain (Err (Contended v)) mark had has old new h = opened_plain (Err (Contended v)) mark had has old new h
  commit_plain (Err (CommitUnknown v)) mark had has old new h = opened_plain (Err (CommitUnknown v)) mark had has old new h
