-- Where nobody else acts, what a call tells by its answer is the answer's exact cause in the files at the entry.
use Rattle.std.proofs.Common.{◌≡◌, inl, inr, ℕ, ◌+◌, ◌<◌, ◌≤◌, Bool, true, false, List, [], ◌∷◌, ◌++◌, length, Option, Result, Ok, Err, refl, sym, ap, ◌∙◌, subst, arith, append-nil}
use Rattle.serde_json.specs.Data.{Data}
use Rattle.serde_json.specs.View.{view}
use Rattle.ice_store.specs.Places.{Parts}
use Rattle.ice_store.specs.Files.{is_named}
use Rattle.ice_store.specs.Given.{Gives}
use Rattle.ice_store.specs.History.{replay}
use Rattle.ice_store.specs.declared.history.Held.{Held}
use Rattle.ice_store.specs.declared.history.Past.{Past}
use Rattle.ice_store.specs.declared.history.Step.{Step}
use Rattle.ice_store.specs.declared.history.Failure.{Failure}
use Rattle.ice_store.specs.declared.history.Step.TheVariants.{Create, Append, Seal, Rename, Remove, SyncNames}
use Rattle.ice_store.specs.declared.faults.What.{What}
use Rattle.ice_store.specs.declared.faults.What.TheVariants.{Codec, FormatVersion, Transform, SchemaSize, BlockBytes, ItemCount, FileBytes, GroupBytes, NoManifestList, VersionNumber, Sequence}
use Rattle.ice_store.specs.declared.faults.ReadErr.TheVariants.{Missing, Damaged, Unsupported, StoreFault, Memory}
use Rattle.commit_history.specs.Tables.{version}
use Rattle.commit_history.specs.Versions.{number_in}
use Rattle.commit_history.specs.Runs.{Ran, ours}
use Rattle.commit_publish.specs.Left.{made_by}
use Rattle.table_metadata.specs.Edits.{HasVersionLimit}
use Rattle.commit_publish.specs.Stages.{IsLost, IsNameTaken, InState}
use Rattle.commit_publish.specs.Steps.{Exactly, Anything, draft_plan, move_plan, lost_plan}
use Rattle.commit_versions.specs.Opening.{OpenStage, FileIs, IsLong, IsBeyond, IsOpened, Listed, ReadErrLeaves, file_limit}
use Rattle.commit_versions.specs.declared.types.OpenErr.{OpenErr}
use Rattle.commit_versions.specs.declared.types.OpenErr.TheVariants.{NoTable, LocationDiffers, Read}
use Rattle.commit_protocol.specs.Meanings.{Meanings, only_successor}
use Rattle.commit_protocol.specs.Prepares.{GivesLast, OnlyMakes, named_beside}
use Rattle.commit_protocol.specs.Rounds.{AnswersSo, AttemptTells, BuiltBy, CommitTells, IsUnasked, OpenedFirst}
use Rattle.commit_protocol.specs.Metadata.{table_rules, HasOpened, IsAt, TableLeaves, OpenErrLeaves}
use Rattle.commit_protocol.specs.Attempts.{Drafted, AttemptLeaves, IsNextOf}
use Rattle.commit_protocol.specs.Verdicts.{IsNobody, IsLastFile, HasLast, IsOverlong, IsTable, LimitVerdict, OpenVerdict, OnBase, IsUnfit, IsShort, DrawsUp, CommitVerdict}
use Rattle.commit_protocol.specs.declared.opening.At.{At}
use Rattle.commit_protocol.specs.declared.errors.AttemptErr.{AttemptErr}
use Rattle.commit_protocol.specs.declared.errors.AttemptErr.TheVariants as attempts
use Rattle.commit_protocol.specs.declared.errors.CommitErr.{CommitErr}
use Rattle.commit_protocol.specs.declared.errors.CommitErr.TheVariants.{Open, Attempt, Contended, CommitUnknown}
use Rattle.commit_protocol.specs.declared.errors.Committed.{Committed}
use Rattle.commit_protocol.specs.declared.errors.Committed.TheVariants.{Same, Published}
use Rattle.commit_protocol.proofs.NameLaws.{named_after}
use Rattle.commit_protocol.proofs.RoundLaws.{gives_last}
use Rattle.commit_protocol.proofs.QuietLaws.{unmoved, stands, first_created, still_free, no_place, PlainSteps}

module _ (table : Parts) (allows : Past → Step → Type 0) (nobody : IsNobody allows) where
  abbrev pub number : Parts → ℕ
  number = number_in table

  abbrev pub Idle : (Past → Type 0) → Past → Past → Type 0
  Idle = Ran (table_rules table allows) (Exactly [])

  same : (K : Past → Type 0) (old now : Past) → Idle K old now → now ≡ old
  same K old now run = unmoved (table_rules table allows) nobody K old now run

  held : (K : Past → Type 0) (old now : Past) → Idle K old now → K old
  held K old now run = stands (table_rules table allows) nobody K old now run

  -- An opening.

  module _ (base : Parts) (K : Past → Type 0) (old now : Past) (l : Listed (table_rules table allows) base K old now) where
    same_listing : l.listed ≡ old
    same_listing = same Anything old l.listed l.listing

    last_is : version number (replay old).files ≡ number base
    last_is = subst (λ (p : Past). version number (replay p).files ≡ number base) same_listing l.last

    named_is : is_named (replay old).files base ≡ true
    named_is = subst (λ (p : Past). is_named (replay p).files base ≡ true) same_listing l.named

    last_file : (bytes : List ℕ) → FileIs base bytes (replay old).files → IsLastFile table (replay old).files base (number base) bytes
    last_file bytes file = record { is_last = last_is; numbers = record { is = refl; positive = l.positive; below = l.below }; file = file }

    missing : (K now → is_named (replay now).files base ≡ false) → ⊥
    missing gone =
        let e : is_named (replay old).files base ≡ false = subst (λ (p : Past). is_named (replay p).files base ≡ false) (same K old now l.run) (gone l.run.stage) in
        absurd (cc (e, named_is))

  module _ (base : Parts) (text : List ℕ) (old now : Past) (o : IsOpened (table_rules table allows) base text old now) where
    abbrev pub KO : Past → Type 0
    KO = InState (OpenStage number base)

    pub still_open : now ≡ old
    still_open = same KO old now o.listed.run

    opened_file : IsLastFile table (replay old).files base (number base) text
    opened_file = last_file base KO old now o.listed text (subst (λ (p : Past). FileIs base text (replay p).files) still_open o.file)

  has_last : (base : Parts) (P : List ℕ → Type 0) (old now : Past) → HasOpened table allows base P old now → HasLast table (replay old).files (λ p bytes. (base ≡ p) × P bytes)
  has_last base P old now h = record { place = base; last = number base; bytes = h.text; file = opened_file base h.text old now h.opened; short = h.opened.short; holds = (refl, h.holds) }

  table_at : (at : At) (old now : Past) → IsAt table allows at old now → IsTable table (replay old).files at.place at.version at.text (view at.meta)
  table_at at old now a =
      let file = opened_file at.place at.text old now a.opened in
      record { file = record { is_last = file.is_last ∙ a.numbers.is; numbers = a.numbers; file = file.file }; short = a.opened.short; metadata = a.metadata }

  overlong : (place : Parts) (old now : Past) → Listed (table_rules table allows) place (InState (λ d. IsLong place d.files)) old now → IsOverlong table (replay old).files place
  overlong place old now l =
      let it = held (InState (λ d. IsLong place d.files)) old now l.run in
      record { last = number place; bytes = it.file.bytes; file = last_file place (InState (λ d. IsLong place d.files)) old now l it.file.bytes (record { file = it.file; stands = it.stands; bytes_is = refl }); long = it.long }

  -- nothing moved, and the answer has its cause
  abbrev pub Answered : Result At OpenErr → Past → Past → Type 0
  Answered r old now = (now ≡ old) × OpenVerdict table (replay old).files r

  limit_answered : (place : Parts) (what : What) (old now : Past) → ReadErrLeaves (table_rules table allows) (Unsupported place what) old now → (now ≡ old) × LimitVerdict table (replay old).files place what
  limit_answered place VersionNumber old now r = let K = InState (λ d. IsBeyond number place d.files) in (same K old now r, held K old now r)
  limit_answered place FileBytes old now r = (same (InState (λ d. IsLong place d.files)) old now r.run, overlong place old now r)
  limit_answered place Codec old now r = absurd r
  limit_answered place FormatVersion old now r = absurd r
  limit_answered place Transform old now r = absurd r
  limit_answered place SchemaSize old now r = absurd r
  limit_answered place BlockBytes old now r = absurd r
  limit_answered place ItemCount old now r = absurd r
  limit_answered place GroupBytes old now r = absurd r
  limit_answered place NoManifestList old now r = absurd r
  limit_answered place Sequence old now r = absurd r

  err_answered : (e : OpenErr) (old now : Past) → OpenErrLeaves table allows e old now → Answered (Err e) old now
  err_answered (NoTable place) old now r = let K = InState (λ d. version number d.files ≡ 0) in (same K old now r.1, (r.0, held K old now r.1))
  err_answered (LocationDiffers place location) old now r =
      let h = r.1.1 in
      (still_open r.1.0 h.text old now h.opened, (r.0, record { place = r.1.0; last = number r.1.0; bytes = h.text; file = opened_file r.1.0 h.text old now h.opened; short = h.opened.short; holds = h.holds }))
  err_answered (Read (Missing place)) old now r = absurd (missing place (InState (λ d. is_named d.files place ≡ false)) old now r (λ k. k))
  err_answered (Read (Damaged place at)) old now r = (still_open place r.text old now r.opened, has_last place _ old now r)
  err_answered (Read (Unsupported place what)) old now (inl r) = let a = limit_answered place what old now r in (a.0, inl a.1)
  err_answered (Read (Unsupported place what)) old now (inr r) = (still_open place r.text old now r.opened, inr (has_last place _ old now r))
  err_answered (Read (StoreFault place)) old now r = (same Anything old now r, tt)
  err_answered (Read Memory) old now r = (same Anything old now r, tt)

  pub opening_answered : (r : Result At OpenErr) (old now : Past) → TableLeaves table allows r old now → Answered r old now
  opening_answered (Ok at) old now a = (still_open at.place at.text old now a.opened, table_at at old now a)
  opening_answered (Err e) old now a = err_answered e old now a

  -- A commit.

  module _ (meanings : Meanings) (given given' : Option (List ℕ)) (now_ms : ℕ) where
    abbrev pub Drawn : ℕ → Type 0
    Drawn = GivesLast meanings.draws given given'

    abbrev pub Verdict : List Held → Result Committed CommitErr → Type 0
    Verdict = CommitVerdict HasVersionLimit meanings Drawn table now_ms

    abbrev pub Draws : (ℕ → Type 0) → ℕ → Data → Parts → Type 0
    Draws = DrawsUp meanings.successor Drawn table now_ms

    module _ (at : At) (old mid : Past) (opened : IsAt table allows at old mid) where
      same_mid : mid ≡ old
      same_mid = still_open at.place at.text old mid opened.opened

      on_base : (P : ℕ → Data → Type 0) → HasVersionLimit (view at.meta) → P at.version (view at.meta) → OnBase HasVersionLimit table (replay old).files P
      on_base P limit holds = record { place = at.place; last = at.version; bytes = at.text; tree = view at.meta; is = table_at at old mid opened; has = limit; holds = holds }

      abbrev pub Ends : Result Committed CommitErr → Type 0
      Ends r = Verdict (replay old).files r

      -- The change isn't asked.

      unasked_ends : (r : Result Committed CommitErr) → IsUnasked table allows meanings given given' now_ms at r → Ends r
      unasked_ends r (inl is) = subst (λ (x : Result Committed CommitErr). Ends x) (sym is) tt
      unasked_ends r (inr u) =
          let unfit : IsUnfit HasVersionLimit table (replay old).files at.place = record { last = at.version; bytes = at.text; tree = view at.meta; is = table_at at old mid opened; lacks = u.1 } in
          subst (λ (x : Result Committed CommitErr). Ends x) (sym u.0) (inr (refl, unfit))

      -- It answers itself.

      answered_ends : (r : Result Committed CommitErr) → HasVersionLimit (view at.meta) → AnswersSo table allows meanings given given' now_ms at r → Ends r
      answered_ends (Ok (Same v)) limit a = on_base (λ last tree. (v ≡ last) × meanings.same tree) limit (a.0, a.1)
      answered_ends (Ok (Published v)) limit a = absurd a
      answered_ends (Err (Open e)) limit a = absurd a
      answered_ends (Err (Attempt (attempts.Refused refusal))) limit a = on_base (λ last tree. meanings.refuses tree (attempts.Refused refusal)) limit a
      answered_ends (Err (Attempt (attempts.Conflict place other))) limit a = on_base (λ last tree. meanings.refuses tree (attempts.Conflict place other)) limit a
      answered_ends (Err (Attempt (attempts.NameTaken place))) limit a = on_base _ limit (inl a)
      answered_ends (Err (Attempt (attempts.Read (Missing place)))) limit a = on_base (λ last tree. meanings.refuses tree (attempts.Read (Missing place))) limit a
      answered_ends (Err (Attempt (attempts.Read (Damaged place where_)))) limit a = inl (on_base (λ last tree. meanings.refuses tree (attempts.Read (Damaged place where_))) limit a)
      answered_ends (Err (Attempt (attempts.Read (Unsupported place what)))) limit a = on_base _ limit (inl a)
      answered_ends (Err (Attempt (attempts.Read (StoreFault place)))) limit a = tt
      answered_ends (Err (Attempt (attempts.Read Memory))) limit a = tt
      answered_ends (Err (Contended v)) limit a = absurd a
      answered_ends (Err (CommitUnknown v)) limit a = absurd a

      -- It built a successor: the names are those at the entry and those of the files that it made, and a free version place stays free.

      module _ (built : Data) (is_built : meanings.successor (view at.meta) built) (limit : HasVersionLimit (view at.meta)) (asked : Option (List ℕ)) (gives : (id : ℕ) → Gives asked given' id → Drawn id) (ready new : Past)
          (names : (place : Parts) → is_named (replay ready).files place ≡ named_beside meanings.made (replay old).files place)
          (room : (place : Parts) → 0 < number place → is_named (replay mid).files place ≡ false → is_named (replay ready).files place ≡ false) where
        abbrev pub Only : Data → Data → Type 0
        Only = (only_successor built).successor

        next_of : (next : Data) → IsNextOf Only at.version now_ms (view at.meta) next → IsNextOf meanings.successor at.version now_ms (view at.meta) next
        next_of next n = record { built = n.built; changed = subst (λ (b : Data). meanings.successor (view at.meta) b) (sym n.changed) is_built; is = n.is }

        draws : (d : Drafted (Gives asked given') Only table now_ms at) → Draws IsShort at.version (view at.meta) d.route.draft
        draws d = record {
          id = d.id;
          drawn = gives d.id d.drawn;
          place = d.draft_is;
          next = d.writes.next;
          is = next_of d.writes.next d.writes.is;
          length_is = subst (λ (b : List ℕ). length b ≤ file_limit) d.writes.written d.short;
        }

        -- the first step of a publish met a free name
        free : (draft : Parts) (bytes : List ℕ) (rest : List Step) (K : Past → Type 0) → Ran (table_rules table allows) (Exactly (draft_plan draft bytes ++ rest)) K ready new → named_beside meanings.made (replay old).files draft ≡ false
        free draft bytes rest K run = sym (names draft) ∙ first_created (table_rules table allows) nobody ready run.events draft (Append draft bytes ∷ Seal draft ∷ SyncNames ∷ rest) run.proper run.made

        not_named : (place : Parts) (b : Bool) → is_named (replay mid).files place ≡ b → (is_named (replay mid).files place ≡ true → ⊥) → is_named (replay mid).files place ≡ false
        not_named place true e never = absurd (never e)
        not_named place false e never = e

        -- the target of a publish can't be taken
        lost : (d : Drafted (Gives asked given') Only table now_ms at) → Ran (table_rules table allows) (Exactly (lost_plan d.route.draft d.bytes)) (InState (IsLost d.route.target)) ready new → ⊥
        lost d run =
            let file = opened_file at.place at.text old mid opened.opened in
            let target = d.route.target in
            let next : number target ≡ number at.place + 1 = subst (λ (p : Parts). number target ≡ number p + 1) d.base_is d.aim.next in
            let above : version number (replay mid).files < number target = subst (λ (p : Past). version number (replay p).files < number target) (sym same_mid) (omega (arith, file.is_last, next)) in
            let pos : 0 < number target = omega (arith, next) in
            let free_at_first = not_named target (is_named (replay mid).files target) refl (no_place number (replay mid).files target above) in
            let plain = still_free (table_rules table allows) nobody target pos ready run.events run.proper (subst (λ (l : List Step). PlainSteps l) (sym run.made) (tt, (tt, (tt, (tt, (tt, (tt, tt))))))) (room target pos free_at_first) in
            let there : is_named (replay new).files target ≡ false = subst (λ (p : Past). is_named (replay p).files target ≡ false) (sym run.is) plain in
            absurd (cc (there, run.stage.taken))

        abbrev pub Leaves : Result Committed CommitErr → Type 0
        Leaves r = AttemptLeaves table allows (only_successor built) (Gives asked given') now_ms at r ready new

        pub built_ends : (r : Result Committed CommitErr) → Leaves r → Ends r
        built_ends (Ok (Same v)) a = absurd a.2
        built_ends (Ok (Published v)) a =
            let d = a.3.drafted in
            on_base _ limit (a.0, record { draft = d.route.draft; drawn_up = draws d; free = free d.route.draft d.bytes (move_plan d.route.draft d.route.target) _ a.3.left })
        built_ends (Err (Open e)) a = absurd a
        built_ends (Err (Attempt (attempts.Refused refusal))) a = absurd a.refuses_it
        built_ends (Err (Attempt (attempts.Conflict place other))) a = absurd a.refuses_it
        built_ends (Err (Attempt (attempts.NameTaken place))) (inl a) = absurd a.refuses_it
        built_ends (Err (Attempt (attempts.NameTaken place))) (inr a) =
            let d = a.drafted in
            let named : named_beside meanings.made (replay old).files d.route.draft ≡ true = sym (names d.route.draft) ∙ held (IsNameTaken d.route) ready new a.left in
            let draws_place = subst (λ (p : Parts). Draws IsShort at.version (view at.meta) p) (sym a.place_is) (draws d) in
            on_base _ limit (inr (draws_place, subst (λ (p : Parts). named_beside meanings.made (replay old).files p ≡ true) (sym a.place_is) named))
        built_ends (Err (Attempt (attempts.Read (Missing place)))) a = absurd a.refuses_it
        built_ends (Err (Attempt (attempts.Read (Damaged place where_)))) (inl a) = absurd a.refuses_it
        built_ends (Err (Attempt (attempts.Read (Damaged place where_)))) (inr a) = absurd (a.1.1 limit)
        built_ends (Err (Attempt (attempts.Read (Unsupported place what)))) (inl a) = absurd a.refuses_it
        built_ends (Err (Attempt (attempts.Read (Unsupported place what)))) (inr a) =
            let t = a.1.1 in
            on_base _ limit (inr (a.0, record { id = t.id; drawn = gives t.id t.drawn; place = t.place_is; next = t.next; is = next_of t.next t.is; length_is = t.long }))
        built_ends (Err (Attempt (attempts.Read (StoreFault place)))) a = tt
        built_ends (Err (Attempt (attempts.Read Memory))) a = tt
        built_ends (Err (Contended v)) a = absurd (lost a.2.drafted a.2.left)
        built_ends (Err (CommitUnknown v)) a = tt

      plain_of : (steps : List Step) → OnlyMakes steps → PlainSteps steps
      plain_of [] only = tt
      plain_of (Create place ∷ steps) only = (tt, plain_of steps only.1)
      plain_of (Append place more ∷ steps) only = (tt, plain_of steps only.1)
      plain_of (Seal place ∷ steps) only = (tt, plain_of steps only.1)
      plain_of (Rename from to ∷ steps) only = absurd only.0
      plain_of (Remove place ∷ steps) only = absurd only.0
      plain_of (SyncNames ∷ steps) only = absurd only.0

      module _ (mark : Option Failure) (had has : List Parts) (new : Past) where
        by_built : (r : Result Committed CommitErr) → BuiltBy table allows meanings given given' now_ms at r mark had has mid new → Ends r
        by_built r b =
            let run = b.prepared in
            let made_so = run.made.noted ∙ ap (λ (l : List Parts). made_by 0 [] (ours run.events) ++ l) run.made.cause ∙ append-nil (made_by 0 [] (ours run.events)) in
            let names : (place : Parts) → is_named (replay b.ready).files place ≡ named_beside meanings.made (replay old).files place =
            λ place. ap (λ (p : Past). is_named (replay p).files place) run.is ∙ named_after (table_rules table allows) nobody place mid run.events meanings.made run.proper run.made.only made_so
            ∙ ap (λ (p : Past). named_beside meanings.made (replay p).files place) same_mid in
            let room : (place : Parts) → 0 < number place → is_named (replay mid).files place ≡ false → is_named (replay b.ready).files place ≡ false =
            λ place pos at_first. ap (λ (p : Past). is_named (replay p).files place) run.is ∙ still_free (table_rules table allows) nobody place pos mid run.events run.proper (plain_of (ours run.events) run.made.only) at_first in
            built_ends b.built b.is b.limit b.asked (λ id one. gives_last meanings.draws given b.asked given' id b.drawn one) b.ready new names room r b.published

        attempt_ends : (r : Result Committed CommitErr) → AttemptTells table allows meanings given given' now_ms at r mark had has mid new → Ends r
        attempt_ends r (inl u) = unasked_ends r u.0
        attempt_ends r (inr (inl a)) = answered_ends r a.limit a.answer
        attempt_ends r (inr (inr b)) = by_built r b

    module _ (mark : Option Failure) (had has : List Parts) (old new : Past) where
      opened_ends : (r : Result Committed CommitErr) → OpenedFirst table allows meanings given given' now_ms r mark had has old new → Verdict (replay old).files r
      opened_ends r o = elim o.then [
        | inl t ↦ attempt_ends o.at old o.mid o.opened mark had has new r t.1
        | inr w ↦ absurd (attempt_ends o.at old o.mid o.opened w.before had (had ++ meanings.made) w.beaten (Err (Contended w.version)) w.tried)
      ]

    pub commit_ends : (r : Result Committed CommitErr) (mark : Option Failure) (had has : List Parts) (old new : Past) → CommitTells table allows meanings given given' now_ms r mark had has old new → Verdict (replay old).files r
    commit_ends (Ok c) mark had has old new h = opened_ends mark had has old new (Ok c) h
    commit_ends (Err (Open e)) mark had has old new h = (err_answered e old new h.0).1
    commit_ends (Err (Attempt e)) mark had has old new h = opened_ends mark had has old new (Err (Attempt e)) h
    commit_ends (Err (Contended v)) mark had has old new h = opened_ends mark had has old new (Err (Contended v)) h
    commit_ends (Err (CommitUnknown v)) mark had has old new h = opened_ends mark had has old new (Err (CommitUnknown v)) h
