use Rattle.std.proofs.Common.{◌≡◌, inl, inr, ℕ, List, ◌++◌, length, Ok, Err, refl, sym, ap, ◌∙◌, subst, append-nil, arith, true≢false}
use Rattle.ice_store.specs.Given.{Gives}
use Rattle.ice_store.specs.Others.{WhereTold}
use Rattle.ice_store.specs.Places.{Parts, place_in}
use Rattle.ice_store.specs.Since.{Since}
use Rattle.ice_store.specs.declared.faults.ReadErr.TheVariants.{StoreFault, Memory}
use Rattle.ice_store.proofs.SinceLaws.{since_start, since_then, since_turned}
use Rattle.serde_json.specs.Data.{Data}
use Rattle.serde_json.specs.View.{view}
use Rattle.table_metadata.specs.Edits.{HasVersionLimit}
use Rattle.metadata_view.specs.View.{location_of}
use Rattle.commit_history.specs.Versions.{number_in}
use Rattle.commit_publish.specs.Kinds as kinds
use Rattle.ice_store.specs.declared.history.Past.{Past}
use Rattle.commit_publish.specs.Stages.{InState}
use Rattle.commit_versions.specs.Latest.{IsBaseNumber}
use Rattle.commit_versions.specs.Opening.{OpenStage, FileIs}
use Rattle.commit_protocol.specs.Attempts.{MakesOf}
use Rattle.commit_protocol.specs.Ends.{LeavesBy, LeavesPublished, PublishedWorks}
use Rattle.commit_protocol.specs.Kinds.{attempt_kind, commit_end, kind_of, commit_kind}
use Rattle.commit_protocol.specs.Prepares.{GivesLast, Prepares, SparesAll}
use Rattle.commit_protocol.specs.Rounds.{AttemptTells, left_after}
use Rattle.commit_protocol.specs.Metadata.{HasMetadataAt}
use Rattle.commit_protocol.specs.Withdraws.{MadeStand}
use Rattle.commit_protocol.specs.Written.{PublishedLeaves}
use Rattle.commit_protocol.specs.declared.change.Built.{Built}
use Rattle.commit_protocol.specs.declared.change.Built.TheVariants.{Same as Unchanged, Next}
use Rattle.commit_protocol.specs.declared.errors.AttemptErr.{AttemptErr}
use Rattle.commit_protocol.specs.declared.errors.AttemptErr.TheVariants as attempts
use Rattle.commit_protocol.specs.declared.errors.CommitErr.{CommitErr}
use Rattle.commit_protocol.specs.declared.errors.CommitErr.TheVariants.{Open, Attempt}
use Rattle.commit_protocol.specs.declared.errors.Committed.TheVariants.{Same}
use Rattle.commit_protocol.proofs.CommitLaws as laws
use Rattle.commit_protocol.proofs.EndLaws as ends
use Rattle.commit_protocol.proofs.RoundLaws as rounds
use Rattle.commit_protocol.proofs.committing.ask_and_publish.Goals as goal

pub returns-then-not-has_version_limit-clause-told : goal.returns-then-not-has_version_limit-clause-told
returns-then-not-has_version_limit-clause-told g c =
    let t = c.args.table.now in
    let allows = g.M.Manners.allows (g.S.Store.manners c.args.store.now) in
    let at = c.args.at in
    let p0 = g.S.Store.past c.args.store.now in
    let had = c.args.log.now.left.items in
    let meanings = g.X.Change.meanings c.args.change.now c.args.change.now in
    let given = g.I.Ids.given c.args.ids.now in
    let mark = g.S.Store.halted c.args.store.now in
    let K = InState (OpenStage (number_in t) at.place) in
    let none : HasVersionLimit (view at.meta) → ⊥ = λ h. true≢false (sym (c.has_version_limit.ensures.1 h) ∙ grind (arith, c.if-not-has_version_limit.true)) in
    let e = c.unreadable_limit.result in
    since_start p0 K (AttemptTells t allows meanings given given c.args.now at (Err e) mark had had) c.requires.start
    (λ old here. inl (rounds.unasked_by t allows meanings given given c.args.now at e c.unreadable_limit.ensures none, refl, refl, laws.starts t allows c.requires.mannered c.args.now (Gives given given) K old here))

pub returns-in_default-clause-told : goal.returns-in_default-clause-told
returns-in_default-clause-told g c =
    let t = c.args.table.now in
    let allows = g.M.Manners.allows (g.S.Store.manners c.args.store.now) in
    let at = c.args.at in
    let p0 = g.S.Store.past c.args.store.now in
    let had = c.args.log.now.left.items in
    let meanings = g.X.Change.meanings c.args.change.now c.args.change.now in
    let given = g.I.Ids.given c.args.ids.now in
    let mark = g.S.Store.halted c.args.store.now in
    let K = InState (OpenStage (number_in t) at.place) in
    since_start p0 K (AttemptTells t allows meanings given given c.args.now at (Err (Attempt (attempts.Read Memory))) mark had had) c.requires.start
    (λ old here. inl (inl refl, refl, refl, laws.starts t allows c.requires.mannered c.args.now (Gives given given) K old here))

pub attempt-requires-clause-start : goal.attempt-requires-clause-start
attempt-requires-clause-start g c =
    let t = c.args.table.now in
    subst (λ (p : Parts). WhereTold (g.S.Store.past c.args.store.now) (InState (OpenStage (number_in t) p))) (sym c.in-Ok.ensures.base.place_is) c.requires.start

pub publish_built-ended-requires-clause-numbers : goal.publish_built-ended-requires-clause-numbers
publish_built-ended-requires-clause-numbers g c =
    let number = number_in c.args.table.now in
    let at = c.args.at in
    let base = c.in-Ok.parts.base in
    let on = c.in-Ok.ensures.base in
    subst (λ (p : Parts). IsBaseNumber number p base.version) (sym on.place_is) (subst (λ (v : ℕ). IsBaseNumber number at.place v) (sym on.version_is) c.requires.numbers)

pub publish_built-ended-requires-clause-here : goal.publish_built-ended-requires-clause-here
publish_built-ended-requires-clause-here g c =
    let at = c.args.at in
    let meanings = g.X.Change.meanings c.args.change.now c.attempt.new.self in
    let tree : view c.in-Ok.parts.meta ≡ view at.meta = ap (λ m. view m) c.in-Ok.ensures.meta in
    let built_so = subst (λ (b : Built). MakesOf meanings (view c.in-Ok.parts.meta) b) c.in-Ok-Next.field-0-is c.in-Ok-Next.ensures.built in
    let made : MakesOf meanings (view at.meta) (Next c.in-Ok-Next.meta) = subst (λ (d : Data). MakesOf meanings d (Next c.in-Ok-Next.meta)) tree built_so in
    ap place_in made.1.location ∙ c.requires.metadata.here

pub publish_built-ended-requires-clause-limit : goal.publish_built-ended-requires-clause-limit
publish_built-ended-requires-clause-limit g c =
    let at = c.args.at in
    let meanings = g.X.Change.meanings c.args.change.now c.attempt.new.self in
    let limit = c.has_version_limit.ensures.0 (grind (arith, c.if-not-has_version_limit.false)) in
    let tree : view c.in-Ok.parts.meta ≡ view at.meta = ap (λ m. view m) c.in-Ok.ensures.meta in
    let built_so = subst (λ (b : Built). MakesOf meanings (view c.in-Ok.parts.meta) b) c.in-Ok-Next.field-0-is c.in-Ok-Next.ensures.built in
    let made : MakesOf meanings (view at.meta) (Next c.in-Ok-Next.meta) = subst (λ (d : Data). MakesOf meanings d (Next c.in-Ok-Next.meta)) tree built_so in
    made.1.limit limit

pub returns-in-Ok-Next-clause-told : goal.returns-in-Ok-Next-clause-told
returns-in-Ok-Next-clause-told g c =
    let t = c.args.table.now in
    let allows = g.M.Manners.allows (g.S.Store.manners c.args.store.now) in
    let at = c.args.at in
    let p0 = g.S.Store.past c.args.store.now in
    let had = c.args.log.now.left.items in
    let base = c.in-Ok.parts.base in
    let on = c.in-Ok.ensures.base in
    let meta = c.in-Ok.parts.meta in
    let meanings = g.X.Change.meanings c.args.change.now c.attempt.new.self in
    let p1 = g.S.Store.past c.attempt.new.store in
    let given = g.I.Ids.given c.args.ids.now in
    let asked = g.I.Ids.given c.attempt.new.ids in
    let mark = g.S.Store.halted c.attempt.new.store in
    let limit = c.has_version_limit.ensures.0 (grind (arith, c.if-not-has_version_limit.false)) in
    let tree : view meta ≡ view at.meta = ap (λ m. view m) c.in-Ok.ensures.meta in
    let p2 = g.S.Store.past c.publish_built-ended.new.store in
    let last = g.I.Ids.given c.publish_built-ended.new.ids in
    let built = view c.in-Ok-Next.meta in
    let r = c.publish_built-ended.result in
    let after = g.S.Store.halted c.publish_built-ended.new.store in
    let logged = c.publish_built-ended.new.log.left.items in
    let has = c.settle_left.new.log.left.items in
    let built_so = subst (λ (b : Built). MakesOf meanings (view meta) b) c.in-Ok-Next.field-0-is c.in-Ok-Next.ensures.built in
    let made : MakesOf meanings (view at.meta) (Next c.in-Ok-Next.meta) = subst (λ (d : Data). MakesOf meanings d (Next c.in-Ok-Next.meta)) tree built_so in
    let seen = subst (λ (d : Data). meanings.seen d) tree c.in-Ok-Next.ensures.seen in
    let Asks : Past → Past → Type 0 = Prepares t allows meanings (view meta) kinds.Done base.place mark in
    let Leaves : Past → Past → Type 0 = PublishedLeaves t allows (Gives asked last) c.args.now base built r in
    let Does : List Parts → Past → Past → Type 0 = λ l. PublishedWorks t (Gives asked last) c.args.now base built r after l logged in
    let by_manners = subst (λ m. Since p1 p2 (PublishedLeaves t (g.M.Manners.allows m) (Gives asked last) c.args.now base built r)) c.in-Ok-Next.ensures.manners c.publish_built-ended.ensures.told in
    let by_log = subst (λ (l : List Parts). Since p1 p2 (Does l)) c.in-Ok-Next.ensures.left c.publish_built-ended.ensures.works in
    let count : c.len-count.result ≡ length had = c.len-count.ensures ∙ c.args.log.now.left.ok.0 in
    let noted : has ≡ left_after r (length had) logged = c.settle_left.ensures.left ∙ ap (λ (n : ℕ). left_after r n logged) count in
    since_then p0 p1 p2 (λ x y. (Asks x y × meanings.met x y) × MadeStand t meanings.made y) (λ x y. Leaves x y × Does (had ++ meanings.made) x y) (AttemptTells t allows meanings given last c.args.now at r after had has)
    (ends.since_at p0 p1 (λ x y. Asks x y × meanings.met x y) (MadeStand t meanings.made) (rounds.since_both p0 p1 Asks meanings.met c.in-Ok-Next.ensures.told c.in-Ok-Next.ensures.met) c.in-Ok-Next.ensures.stand) (rounds.since_both p1 p2 Leaves (Does (had ++ meanings.made)) by_manners by_log)
    (λ old mid new a b. inr (inr (record {
      limit = limit;
      saw = seen;
      built = built;
      is = made.0;
      ready = mid;
      before = mark;
      prepared = rounds.prepares_at t allows meanings given last c.args.now (view meta) (view at.meta) base.place at.place kinds.Done mark old mid tree on.place_is a.0.0;
      met = a.0.1;
      stand = a.1;
      asked = asked;
      drawn = c.in-Ok-Next.ensures.drawn;
      published = b.0 at on limit;
      left = logged;
      worked = b.1 at on limit;
      noted = noted;
    })))

pub returns-in-Ok-Same-clause-told : goal.returns-in-Ok-Same-clause-told
returns-in-Ok-Same-clause-told g c =
    let t = c.args.table.now in
    let allows = g.M.Manners.allows (g.S.Store.manners c.args.store.now) in
    let at = c.args.at in
    let p0 = g.S.Store.past c.args.store.now in
    let had = c.args.log.now.left.items in
    let base = c.in-Ok.parts.base in
    let on = c.in-Ok.ensures.base in
    let meta = c.in-Ok.parts.meta in
    let meanings = g.X.Change.meanings c.args.change.now c.attempt.new.self in
    let p1 = g.S.Store.past c.attempt.new.store in
    let given = g.I.Ids.given c.args.ids.now in
    let asked = g.I.Ids.given c.attempt.new.ids in
    let mark = g.S.Store.halted c.attempt.new.store in
    let limit = c.has_version_limit.ensures.0 (grind (arith, c.if-not-has_version_limit.false)) in
    let tree : view meta ≡ view at.meta = ap (λ m. view m) c.in-Ok.ensures.meta in
    let has = c.attempt.new.log.left.items in
    let built_so = subst (λ (b : Built). MakesOf meanings (view meta) b) c.in-Ok-Same.field-0-is c.in-Ok-Same.ensures.built in
    let same : MakesOf meanings (view at.meta) Unchanged = subst (λ (d : Data). MakesOf meanings d Unchanged) tree built_so in
    let seen = subst (λ (d : Data). meanings.seen d) tree c.in-Ok-Same.ensures.seen in
    let Asks : Past → Past → Type 0 = Prepares t allows meanings (view meta) kinds.Done base.place mark in
    since_turned p0 p1 (λ x y. Asks x y × meanings.met x y) (AttemptTells t allows meanings given asked c.args.now at (Ok (Same base.version)) mark had has)
    (rounds.since_both p0 p1 Asks meanings.met c.in-Ok-Same.ensures.told c.in-Ok-Same.ensures.met)
    (λ old new a. inr (inl (record {
      limit = limit;
      answer = (on.version_is, same, seen);
      spare = λ same_end. subst (λ (b : Built). SparesAll meanings (Ok b)) c.in-Ok-Same.field-0-is c.in-Ok-Same.ensures.spare tt;
      prepared = rounds.prepares_at t allows meanings given asked c.args.now (view meta) (view at.meta) base.place at.place kinds.Done mark old new tree on.place_is a.0;
      met = a.1;
      drawn = c.in-Ok-Same.ensures.drawn;
      noted = c.in-Ok-Same.ensures.left;
    })))

pub returns-in-Err-clause-told : goal.returns-in-Err-clause-told
returns-in-Err-clause-told g c =
    let t = c.args.table.now in
    let allows = g.M.Manners.allows (g.S.Store.manners c.args.store.now) in
    let at = c.args.at in
    let p0 = g.S.Store.past c.args.store.now in
    let had = c.args.log.now.left.items in
    let base = c.in-Ok.parts.base in
    let on = c.in-Ok.ensures.base in
    let meta = c.in-Ok.parts.meta in
    let meanings = g.X.Change.meanings c.args.change.now c.attempt.new.self in
    let p1 = g.S.Store.past c.attempt.new.store in
    let given = g.I.Ids.given c.args.ids.now in
    let asked = g.I.Ids.given c.attempt.new.ids in
    let mark = g.S.Store.halted c.attempt.new.store in
    let limit = c.has_version_limit.ensures.0 (grind (arith, c.if-not-has_version_limit.false)) in
    let tree : view meta ≡ view at.meta = ap (λ m. view m) c.in-Ok.ensures.meta in
    let has = c.attempt.new.log.left.items in
    let e = c.in-Err.e in
    let refused = subst (λ m. meanings.refuses (view m) e) c.in-Ok.ensures.meta c.in-Err.ensures.refused in
    let Asks : Past → Past → Type 0 = Prepares t allows meanings (view meta) (attempt_kind e) base.place mark in
    since_turned p0 p1 (λ x y. Asks x y × meanings.met x y) (AttemptTells t allows meanings given asked c.args.now at (Err (Attempt e)) mark had has)
    (rounds.since_both p0 p1 Asks meanings.met c.in-Err.ensures.told c.in-Err.ensures.met)
    (λ old new a. inr (inl (record {
      limit = limit;
      answer = refused;
      spare = c.in-Err.ensures.spare;
      prepared = rounds.prepares_at t allows meanings given asked c.args.now (view meta) (view at.meta) base.place at.place (attempt_kind e) mark old new tree on.place_is a.0;
      met = a.1;
      drawn = c.in-Err.ensures.drawn;
      noted = c.in-Err.ensures.left;
    })))

pub returns-then-not-has_version_limit-clause-cause : goal.returns-then-not-has_version_limit-clause-cause
returns-then-not-has_version_limit-clause-cause g c = ends.limit_counts c.args.at.place c.unreadable_limit.result (g.S.Store.faults c.args.store.now) c.unreadable_limit.ensures

pub returns-then-not-has_version_limit-clause-halted : goal.returns-then-not-has_version_limit-clause-halted
returns-then-not-has_version_limit-clause-halted g c =
    let t = c.args.table.now in
    let e = c.unreadable_limit.result in
    let mark = g.S.Store.halted c.args.store.now in
    let told = g.S.Store.past c.args.store.now in
    ends.marks_of_open t (commit_kind e) mark mark told (ends.limit_marks c.args.at.place e mark told c.unreadable_limit.ensures)

pub returns-then-not-has_version_limit-clause-committed : goal.returns-then-not-has_version_limit-clause-committed
returns-then-not-has_version_limit-clause-committed g c = sym (append-nil c.args.log.now.committed.items)

pub returns-then-not-has_version_limit-clause-left : goal.returns-then-not-has_version_limit-clause-left
returns-then-not-has_version_limit-clause-left g c = inl (rounds.limit_unasked c.args.at.place c.unreadable_limit.result c.unreadable_limit.ensures, refl)

pub returns-then-not-has_version_limit-clause-drawn : goal.returns-then-not-has_version_limit-clause-drawn
returns-then-not-has_version_limit-clause-drawn g c = inl (rounds.limit_unasked c.args.at.place c.unreadable_limit.result c.unreadable_limit.ensures, refl)

pub returns-then-not-has_version_limit-clause-unopened : goal.returns-then-not-has_version_limit-clause-unopened
returns-then-not-has_version_limit-clause-unopened g c opening is =
    let error : ◌≡◌ {A = CommitErr} c.unreadable_limit.result (Open opening) = cc (is) in
    absurd (ends.limit_opens_nothing c.args.at.place c.unreadable_limit.result opening c.unreadable_limit.ensures error)

pub returns-in_default-clause-committed : goal.returns-in_default-clause-committed
returns-in_default-clause-committed g c = sym (append-nil c.args.log.now.committed.items)

pub returns-in_default-clause-left : goal.returns-in_default-clause-left
returns-in_default-clause-left g c = inl (refl, refl)

pub returns-in_default-clause-drawn : goal.returns-in_default-clause-drawn
returns-in_default-clause-drawn g c = inl (refl, refl)

pub attempt-requires-clause-here : goal.attempt-requires-clause-here
attempt-requires-clause-here g c =
    let tree : view c.in-Ok.parts.meta ≡ view c.args.at.meta = ap (λ m. view m) c.in-Ok.ensures.meta in
    ap (λ (d : Data). place_in (location_of d)) tree ∙ c.requires.metadata.here

pub attempt-requires-clause-opened : goal.attempt-requires-clause-opened
attempt-requires-clause-opened g c =
    let t = c.args.table.now in
    let at = c.args.at in
    let on = c.in-Ok.ensures.base in
    let told = g.S.Store.past c.args.store.now in
    let tree : view c.in-Ok.parts.meta ≡ view at.meta = ap (λ m. view m) c.in-Ok.ensures.meta in
    let there = ends.where_turned told (InState (λ d. FileIs at.place at.text d.files)) (InState (HasMetadataAt t at.place (view at.meta))) c.requires.read (λ past file. record { bytes = at.text; file = file; metadata = c.requires.metadata }) in
    subst (λ (p : Parts). WhereTold told (InState (HasMetadataAt t p (view c.in-Ok.parts.meta)))) (sym on.place_is) (subst (λ (d : Data). WhereTold told (InState (HasMetadataAt t at.place d))) (sym tree) there)

pub returns-in-Ok-Next-clause-cause : goal.returns-in-Ok-Next-clause-cause
returns-in-Ok-Next-clause-cause g c =
    ends.counts_from (kind_of (commit_end c.publish_built-ended.result)) (g.S.Store.faults c.args.store.now) (g.S.Store.faults c.attempt.new.store) (g.S.Store.faults c.publish_built-ended.new.store) c.in-Ok-Next.ensures.cause c.publish_built-ended.ensures.cause

pub returns-in-Ok-Next-clause-halted : goal.returns-in-Ok-Next-clause-halted
returns-in-Ok-Next-clause-halted g c =
    ends.marks_from c.args.table.now (kind_of (commit_end c.publish_built-ended.result)) (g.S.Store.halted c.args.store.now) (g.S.Store.halted c.attempt.new.store) (g.S.Store.halted c.publish_built-ended.new.store) (g.S.Store.past c.publish_built-ended.new.store)
    c.in-Ok-Next.ensures.halted c.publish_built-ended.ensures.halted

pub returns-in-Ok-Next-clause-committed : goal.returns-in-Ok-Next-clause-committed
returns-in-Ok-Next-clause-committed g c =
    c.settle_left.ensures.committed ∙ c.publish_built-ended.ensures.committed ∙ ap (λ (l : List ℕ). l ++ (commit_end c.publish_built-ended.result).versions) c.in-Ok-Next.ensures.committed

pub returns-in-Ok-Next-clause-left : goal.returns-in-Ok-Next-clause-left
returns-in-Ok-Next-clause-left g c =
    let t = c.args.table.now in
    let meanings = g.X.Change.meanings c.args.change.now c.attempt.new.self in
    let given = g.I.Ids.given c.args.ids.now in
    let asked = g.I.Ids.given c.attempt.new.ids in
    let last = g.I.Ids.given c.publish_built-ended.new.ids in
    let r = c.publish_built-ended.result in
    let kind = kind_of (commit_end r) in
    let had = c.args.log.now.left.items in
    let logged = c.publish_built-ended.new.log.left.items in
    let Drawn = GivesLast meanings.draws given last in
    let count : c.len-count.result ≡ length had = c.len-count.ensures ∙ c.args.log.now.left.ok.0 in
    let noted : c.settle_left.new.log.left.items ≡ left_after r (length had) logged = c.settle_left.ensures.left ∙ ap (λ (n : ℕ). left_after r n logged) count in
    let by_ids = rounds.leaves_given (Gives asked last) Drawn (λ id one. rounds.gives_last meanings.draws given asked last id c.in-Ok-Next.ensures.drawn one) t kind c.attempt.new.log.left.items logged c.publish_built-ended.ensures.left in
    let by_log = subst (λ (l : List Parts). LeavesBy Drawn t kind l logged) c.in-Ok-Next.ensures.left by_ids in
    subst (λ (l : List Parts). LeavesPublished meanings.made Drawn t (commit_end r).versions (commit_end r).error had l) (sym noted) (rounds.settled_left Drawn t r meanings.made had logged by_log)

pub returns-in-Ok-Next-clause-drawn : goal.returns-in-Ok-Next-clause-drawn
returns-in-Ok-Next-clause-drawn g c =
    let meanings = g.X.Change.meanings c.args.change.now c.attempt.new.self in
    rounds.draws_of meanings.draws (g.I.Ids.given c.args.ids.now) (g.I.Ids.given c.attempt.new.ids) (g.I.Ids.given c.publish_built-ended.new.ids) c.in-Ok-Next.ensures.drawn c.publish_built-ended.result c.publish_built-ended.ensures.drawn

pub returns-in-Ok-Same-clause-committed : goal.returns-in-Ok-Same-clause-committed
returns-in-Ok-Same-clause-committed g c = c.in-Ok-Same.ensures.committed ∙ sym (append-nil c.args.log.now.committed.items)

pub returns-in-Err-clause-committed : goal.returns-in-Err-clause-committed
returns-in-Err-clause-committed g c = c.in-Err.ensures.committed ∙ sym (append-nil c.args.log.now.committed.items)

pub returns-in-Err-clause-left : goal.returns-in-Err-clause-left
returns-in-Err-clause-left g c =
    let meanings = g.X.Change.meanings c.args.change.now c.attempt.new.self in
    let Drawn = GivesLast meanings.draws (g.I.Ids.given c.args.ids.now) (g.I.Ids.given c.attempt.new.ids) in
    inr (rounds.attempt_left Drawn c.args.table.now c.in-Err.e (c.args.log.now.left.items ++ meanings.made) c.attempt.new.log.left.items c.in-Err.ensures.left)

pub returns-in-Err-clause-drawn : goal.returns-in-Err-clause-drawn
returns-in-Err-clause-drawn g c = inr (inl c.in-Err.ensures.drawn)

pub returns-then-not-has_version_limit-clause-refused : goal.returns-then-not-has_version_limit-clause-refused
returns-then-not-has_version_limit-clause-refused g c refusal is =
    let error : ◌≡◌ {A = CommitErr} c.unreadable_limit.result (Attempt (attempts.Refused refusal)) = cc (is) in
    absurd (ends.limit_refuses_nothing c.args.at.place c.unreadable_limit.result refusal c.unreadable_limit.ensures error)

pub returns-then-not-has_version_limit-clause-fault_place : goal.returns-then-not-has_version_limit-clause-fault_place
returns-then-not-has_version_limit-clause-fault_place g c place is =
    let error : ◌≡◌ {A = CommitErr} c.unreadable_limit.result (Attempt (attempts.Read (StoreFault place))) = cc (is) in
    absurd (ends.limit_no_fault c.args.at.place c.unreadable_limit.result place c.unreadable_limit.ensures error)

pub returns-in_default-clause-refused : goal.returns-in_default-clause-refused
returns-in_default-clause-refused g c refusal is = absurd (cc (is))

pub returns-in_default-clause-fault_place : goal.returns-in_default-clause-fault_place
returns-in_default-clause-fault_place g c place is = absurd (cc (is))

pub returns-in-Ok-Next-clause-refused : goal.returns-in-Ok-Next-clause-refused
returns-in-Ok-Next-clause-refused g c refusal is = absurd (c.publish_built-ended.ensures.refused refusal is).1

pub returns-in-Ok-Next-clause-fault_place : goal.returns-in-Ok-Next-clause-fault_place
returns-in-Ok-Next-clause-fault_place g c place is =
    let meanings = g.X.Change.meanings c.args.change.now c.attempt.new.self in
    let given = g.I.Ids.given c.args.ids.now in
    let asked = g.I.Ids.given c.attempt.new.ids in
    let last = g.I.Ids.given c.publish_built-ended.new.ids in
    elim (c.publish_built-ended.ensures.fault_place place is) [
      | inl never ↦ absurd never.1
      | inr there ↦ elim there [
        | inl at ↦ inr (inl (rounds.fault_given (Gives asked last) (GivesLast meanings.draws given last) (λ id one. rounds.gives_last meanings.draws given asked last id c.in-Ok-Next.ensures.drawn one) c.args.table.now place at))
        | inr made ↦ absurd made
      ]
    ]

pub returns-in-Ok-Same-clause-refused : goal.returns-in-Ok-Same-clause-refused
returns-in-Ok-Same-clause-refused g c refusal is = absurd (cc (is))

pub returns-in-Ok-Same-clause-fault_place : goal.returns-in-Ok-Same-clause-fault_place
returns-in-Ok-Same-clause-fault_place g c place is = absurd (cc (is))

pub returns-in-Err-clause-refused : goal.returns-in-Err-clause-refused
returns-in-Err-clause-refused g c refusal is =
    let same : c.in-Err.e ≡ attempts.Refused refusal = cc (is) in
    let meanings = g.X.Change.meanings c.args.change.now c.attempt.new.self in
    (view c.in-Ok.parts.meta, subst (λ (x : AttemptErr). meanings.refuses (view c.in-Ok.parts.meta) x) same c.in-Err.ensures.refused)

pub returns-in-Err-clause-fault_place : goal.returns-in-Err-clause-fault_place
returns-in-Err-clause-fault_place g c place is =
    let same : c.in-Err.e ≡ attempts.Read (StoreFault place) = cc (is) in
    let meanings = g.X.Change.meanings c.args.change.now c.attempt.new.self in
    inl (view c.in-Ok.parts.meta, subst (λ (x : AttemptErr). meanings.refuses (view c.in-Ok.parts.meta) x) same c.in-Err.ensures.refused)

pub returns-then-not-has_version_limit-clause-spare : goal.returns-then-not-has_version_limit-clause-spare
returns-then-not-has_version_limit-clause-spare g c spare = absurd (ends.limit_unspared c.args.at.place c.unreadable_limit.result c.unreadable_limit.ensures spare)

pub returns-in_default-clause-spare : goal.returns-in_default-clause-spare
returns-in_default-clause-spare g c spare = absurd spare

pub returns-in-Ok-Next-clause-spare : goal.returns-in-Ok-Next-clause-spare
returns-in-Ok-Next-clause-spare g c spare = absurd (c.publish_built-ended.ensures.unspared spare)

pub returns-in-Ok-Same-clause-spare : goal.returns-in-Ok-Same-clause-spare
returns-in-Ok-Same-clause-spare g c spare =
    let meanings = g.X.Change.meanings c.args.change.now c.attempt.new.self in
    subst (λ (b : Built). SparesAll meanings (Ok b)) c.in-Ok-Same.field-0-is c.in-Ok-Same.ensures.spare tt

pub returns-in-Err-clause-spare : goal.returns-in-Err-clause-spare
returns-in-Err-clause-spare g c spare = c.in-Err.ensures.spare spare
