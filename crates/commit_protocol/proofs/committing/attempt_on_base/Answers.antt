use Rattle.std.proofs.Common.{◌≡◌, inl, inr, ℕ, List, [], ◌∷◌, ◌++◌, Option, Result, Ok, Err, refl, sym, ap, ◌∙◌, subst}
use Rattle.ice_store.specs.Others.{WhereTold}
use Rattle.ice_store.specs.Places.{Parts}
use Rattle.ice_store.specs.Since.{Since}
use Rattle.ice_store.proofs.SinceLaws.{since_turned, since_where}
use Rattle.ice_store.specs.declared.faults.ReadErr.TheVariants.{StoreFault}
use Rattle.ice_store.specs.declared.history.Past.{Past}
use Rattle.commit_publish.specs.Kinds as kinds
use Rattle.commit_publish.specs.Kinds.{Counts, Marks}
use Rattle.commit_publish.specs.Stages.{AtRest, InState}
use Rattle.commit_protocol.specs.Ends.{DrawsOf, LeavesOf, LeavesPublished}
use Rattle.commit_protocol.specs.Kinds.{commit_end, kind_of}
use Rattle.commit_protocol.specs.Prepares.{GivesLast, IsSpareEnd}
use Rattle.commit_protocol.specs.Rounds.{AttemptTells, RoundTells}
use Rattle.commit_protocol.specs.Withdraws.{IsMadeAt, LeavesUnmade, MadeStand, Withdrawn, lost_answer, withdraw_kind}
use Rattle.commit_protocol.specs.declared.errors.AttemptErr.TheVariants as attempts
use Rattle.commit_protocol.specs.declared.errors.CommitErr.{CommitErr}
use Rattle.commit_protocol.specs.declared.errors.CommitErr.TheVariants.{Attempt, Contended, Open}
use Rattle.commit_protocol.specs.declared.errors.Committed.{Committed}
use Rattle.commit_protocol.proofs.EndLaws as ends
use Rattle.commit_protocol.proofs.RoundLaws as rounds
use Rattle.commit_protocol.proofs.StandLaws.{beaten_stand}
use Rattle.commit_protocol.proofs.committing.attempt_on_base.Goals as goal

pub returns-in-None-clause-told : goal.returns-in-None-clause-told
returns-in-None-clause-told g c =
    let t = c.args.table.now in
    let allows = g.M.Manners.allows (g.S.Store.manners c.args.store.now) in
    let at = c.args.at in
    let meanings = g.X.Change.meanings c.args.change.now c.ask_and_publish-ended.new.change in
    let own = g.X.Change.meanings c.ask_and_publish-ended.new.change c.ask_and_publish-ended.new.change in
    let given = g.I.Ids.given c.args.ids.now in
    let last = g.I.Ids.given c.ask_and_publish-ended.new.ids in
    let p0 = g.S.Store.past c.args.store.now in
    let p1 = g.S.Store.past c.ask_and_publish-ended.new.store in
    let r = c.ask_and_publish-ended.result in
    let before = g.S.Store.halted c.ask_and_publish-ended.new.store in
    let had = c.args.log.now.left.items in
    let kept = c.ask_and_publish-ended.new.log.left.items in
    since_turned p0 p1 (AttemptTells t allows meanings given last c.args.now at r before had kept) (RoundTells t allows meanings given last c.args.now at r before had kept) c.ask_and_publish-ended.ensures.told
    (λ old new told. inl (rounds.unlost r meanings.made (sym c.in-None.ensures), told))

pub returns-in-None-clause-left : goal.returns-in-None-clause-left
returns-in-None-clause-left g c =
    let t = c.args.table.now in
    let allows = g.M.Manners.allows (g.S.Store.manners c.args.store.now) in
    let at = c.args.at in
    let meanings = g.X.Change.meanings c.args.change.now c.ask_and_publish-ended.new.change in
    let own = g.X.Change.meanings c.ask_and_publish-ended.new.change c.ask_and_publish-ended.new.change in
    let given = g.I.Ids.given c.args.ids.now in
    let last = g.I.Ids.given c.ask_and_publish-ended.new.ids in
    let p0 = g.S.Store.past c.args.store.now in
    let p1 = g.S.Store.past c.ask_and_publish-ended.new.store in
    let r = c.ask_and_publish-ended.result in
    let before = g.S.Store.halted c.ask_and_publish-ended.new.store in
    let had = c.args.log.now.left.items in
    let kept = c.ask_and_publish-ended.new.log.left.items in
    rounds.unlost_left meanings.made (GivesLast meanings.draws given last) t r had kept (sym c.in-None.ensures) c.ask_and_publish-ended.ensures.left

pub lost-requires-clause-rest : goal.lost-requires-clause-rest
lost-requires-clause-rest g c =
    let t = c.args.table.now in
    let allows = g.M.Manners.allows (g.S.Store.manners c.args.store.now) in
    let at = c.args.at in
    let meanings = g.X.Change.meanings c.args.change.now c.ask_and_publish-ended.new.change in
    let own = g.X.Change.meanings c.ask_and_publish-ended.new.change c.ask_and_publish-ended.new.change in
    let given = g.I.Ids.given c.args.ids.now in
    let last = g.I.Ids.given c.ask_and_publish-ended.new.ids in
    let p0 = g.S.Store.past c.args.store.now in
    let p1 = g.S.Store.past c.ask_and_publish-ended.new.store in
    let r = c.ask_and_publish-ended.result in
    let before = g.S.Store.halted c.ask_and_publish-ended.new.store in
    let had = c.args.log.now.left.items in
    let kept = c.ask_and_publish-ended.new.log.left.items in
    let version = c.in-Some.version in
    let lost = rounds.lost_is r version (sym c.in-Some.ensures) in
    let Drawn = GivesLast meanings.draws given last in
    let published = subst (λ (x : Result Committed CommitErr). LeavesPublished meanings.made Drawn t (commit_end x).versions (commit_end x).error had kept) lost c.ask_and_publish-ended.ensures.left in
    let beaten : kept ≡ had ++ meanings.made = rounds.beaten_left meanings.made Drawn t version had kept published in
    let Tried : Result Committed CommitErr → Past → Past → Type 0 = λ x. AttemptTells t allows meanings given last c.args.now at x before had kept in
    let tried = subst (λ (x : Result Committed CommitErr). Since p0 p1 (Tried x)) lost c.ask_and_publish-ended.ensures.told in
    since_where p0 p1 (Tried (Err (Contended version))) (InState (λ d. AtRest d.pending)) tried (λ old new told. rounds.rests t allows meanings given last c.args.now at version before had kept old new told)

pub lost-requires-clause-stand : goal.lost-requires-clause-stand
lost-requires-clause-stand g c =
    let t = c.args.table.now in
    let allows = g.M.Manners.allows (g.S.Store.manners c.args.store.now) in
    let at = c.args.at in
    let meanings = g.X.Change.meanings c.args.change.now c.ask_and_publish-ended.new.change in
    let own = g.X.Change.meanings c.ask_and_publish-ended.new.change c.ask_and_publish-ended.new.change in
    let given = g.I.Ids.given c.args.ids.now in
    let last = g.I.Ids.given c.ask_and_publish-ended.new.ids in
    let p0 = g.S.Store.past c.args.store.now in
    let p1 = g.S.Store.past c.ask_and_publish-ended.new.store in
    let r = c.ask_and_publish-ended.result in
    let before = g.S.Store.halted c.ask_and_publish-ended.new.store in
    let had = c.args.log.now.left.items in
    let kept = c.ask_and_publish-ended.new.log.left.items in
    let version = c.in-Some.version in
    let lost = rounds.lost_is r version (sym c.in-Some.ensures) in
    let Tried : Result Committed CommitErr → Past → Past → Type 0 = λ x. AttemptTells t allows meanings given last c.args.now at x before had kept in
    let tried = subst (λ (x : Result Committed CommitErr). Since p0 p1 (Tried x)) lost c.ask_and_publish-ended.ensures.told in
    let stands = since_where p0 p1 (Tried (Err (Contended version))) (MadeStand t meanings.made) tried
    (λ old new told. beaten_stand t allows meanings given last c.args.now c.requires.mannered at version before had kept old new told) in
    subst (λ (l : List Parts). WhereTold p1 (MadeStand t l)) (sym c.ask_and_publish-ended.ensures.kept) stands

pub lost-requires-clause-noted : goal.lost-requires-clause-noted
lost-requires-clause-noted g c =
    let t = c.args.table.now in
    let allows = g.M.Manners.allows (g.S.Store.manners c.args.store.now) in
    let at = c.args.at in
    let meanings = g.X.Change.meanings c.args.change.now c.ask_and_publish-ended.new.change in
    let own = g.X.Change.meanings c.ask_and_publish-ended.new.change c.ask_and_publish-ended.new.change in
    let given = g.I.Ids.given c.args.ids.now in
    let last = g.I.Ids.given c.ask_and_publish-ended.new.ids in
    let p0 = g.S.Store.past c.args.store.now in
    let p1 = g.S.Store.past c.ask_and_publish-ended.new.store in
    let r = c.ask_and_publish-ended.result in
    let before = g.S.Store.halted c.ask_and_publish-ended.new.store in
    let had = c.args.log.now.left.items in
    let kept = c.ask_and_publish-ended.new.log.left.items in
    let version = c.in-Some.version in
    let lost = rounds.lost_is r version (sym c.in-Some.ensures) in
    let Drawn = GivesLast meanings.draws given last in
    let published = subst (λ (x : Result Committed CommitErr). LeavesPublished meanings.made Drawn t (commit_end x).versions (commit_end x).error had kept) lost c.ask_and_publish-ended.ensures.left in
    let beaten : kept ≡ had ++ meanings.made = rounds.beaten_left meanings.made Drawn t version had kept published in
    (had, beaten ∙ ap (λ (l : List Parts). had ++ l) (sym c.ask_and_publish-ended.ensures.kept))

pub returns-in-Some-clause-told : goal.returns-in-Some-clause-told
returns-in-Some-clause-told g c =
    let t = c.args.table.now in
    let allows = g.M.Manners.allows (g.S.Store.manners c.args.store.now) in
    let at = c.args.at in
    let meanings = g.X.Change.meanings c.args.change.now c.ask_and_publish-ended.new.change in
    let own = g.X.Change.meanings c.ask_and_publish-ended.new.change c.ask_and_publish-ended.new.change in
    let given = g.I.Ids.given c.args.ids.now in
    let last = g.I.Ids.given c.ask_and_publish-ended.new.ids in
    let p0 = g.S.Store.past c.args.store.now in
    let p1 = g.S.Store.past c.ask_and_publish-ended.new.store in
    let r = c.ask_and_publish-ended.result in
    let before = g.S.Store.halted c.ask_and_publish-ended.new.store in
    let had = c.args.log.now.left.items in
    let kept = c.ask_and_publish-ended.new.log.left.items in
    let version = c.in-Some.version in
    let lost = rounds.lost_is r version (sym c.in-Some.ensures) in
    let Drawn = GivesLast meanings.draws given last in
    let published = subst (λ (x : Result Committed CommitErr). LeavesPublished meanings.made Drawn t (commit_end x).versions (commit_end x).error had kept) lost c.ask_and_publish-ended.ensures.left in
    let beaten : kept ≡ had ++ meanings.made = rounds.beaten_left meanings.made Drawn t version had kept published in
    let Tried : Result Committed CommitErr → Past → Past → Type 0 = λ x. AttemptTells t allows meanings given last c.args.now at x before had kept in
    let tried = subst (λ (x : Result Committed CommitErr). Since p0 p1 (Tried x)) lost c.ask_and_publish-ended.ensures.told in
    let removed = c.lost.result in
    let p2 = g.S.Store.past c.lost.new.store in
    let mark = g.S.Store.halted c.lost.new.store in
    let has = c.lost.new.log.left.items in
    let same : own.made ≡ meanings.made = c.ask_and_publish-ended.ensures.kept in
    let by_manners = subst (λ m. Since p1 p2 (Withdrawn t (g.M.Manners.allows m) own.made mark removed kept has)) c.ask_and_publish-ended.ensures.manners c.lost.ensures.told in
    let withdrawn = subst (λ (l : List Parts). Since p1 p2 (Withdrawn t allows l mark removed kept has)) same by_manners in
    let left = subst (λ (l : List Parts). LeavesUnmade l removed kept has) same c.lost.ensures.left in
    subst (λ (x : Result Committed CommitErr). Since p0 p2 (RoundTells t allows meanings given last c.args.now at x mark had has)) (sym c.lost_answer.ensures)
    (rounds.round_by t allows meanings given last c.args.now at version p0 p1 p2 before mark had kept has removed meanings.made refl tried beaten withdrawn
    (λ none. c.lost.ensures.still (same ∙ none)) (λ none. c.lost.ensures.none (same ∙ none)) c.lost.ensures.halted left)

pub returns-in-Some-clause-cause : goal.returns-in-Some-clause-cause
returns-in-Some-clause-cause g c =
    let t = c.args.table.now in
    let allows = g.M.Manners.allows (g.S.Store.manners c.args.store.now) in
    let at = c.args.at in
    let meanings = g.X.Change.meanings c.args.change.now c.ask_and_publish-ended.new.change in
    let own = g.X.Change.meanings c.ask_and_publish-ended.new.change c.ask_and_publish-ended.new.change in
    let given = g.I.Ids.given c.args.ids.now in
    let last = g.I.Ids.given c.ask_and_publish-ended.new.ids in
    let p0 = g.S.Store.past c.args.store.now in
    let p1 = g.S.Store.past c.ask_and_publish-ended.new.store in
    let r = c.ask_and_publish-ended.result in
    let before = g.S.Store.halted c.ask_and_publish-ended.new.store in
    let had = c.args.log.now.left.items in
    let kept = c.ask_and_publish-ended.new.log.left.items in
    let version = c.in-Some.version in
    let lost = rounds.lost_is r version (sym c.in-Some.ensures) in
    let Drawn = GivesLast meanings.draws given last in
    let published = subst (λ (x : Result Committed CommitErr). LeavesPublished meanings.made Drawn t (commit_end x).versions (commit_end x).error had kept) lost c.ask_and_publish-ended.ensures.left in
    let beaten : kept ≡ had ++ meanings.made = rounds.beaten_left meanings.made Drawn t version had kept published in
    let removed = c.lost.result in
    let p2 = g.S.Store.past c.lost.new.store in
    let mark = g.S.Store.halted c.lost.new.store in
    let has = c.lost.new.log.left.items in
    let same : own.made ≡ meanings.made = c.ask_and_publish-ended.ensures.kept in
    let f0 = g.S.Store.faults c.args.store.now in
    let f1 = g.S.Store.faults c.ask_and_publish-ended.new.store in
    let f2 = g.S.Store.faults c.lost.new.store in
    let none : Counts kinds.Done f0 f1 = subst (λ (x : Result Committed CommitErr). Counts (kind_of (commit_end x)) f0 f1) lost c.ask_and_publish-ended.ensures.cause in
    let counted = ends.counts_from (withdraw_kind removed) f0 f1 f2 none c.lost.ensures.cause in
    subst (λ (x : Result Committed CommitErr). Counts (kind_of (commit_end x)) f0 f2) (sym c.lost_answer.ensures) (rounds.lost_kind version removed f0 f2 counted)

pub returns-in-Some-clause-halted : goal.returns-in-Some-clause-halted
returns-in-Some-clause-halted g c =
    let t = c.args.table.now in
    let allows = g.M.Manners.allows (g.S.Store.manners c.args.store.now) in
    let at = c.args.at in
    let meanings = g.X.Change.meanings c.args.change.now c.ask_and_publish-ended.new.change in
    let own = g.X.Change.meanings c.ask_and_publish-ended.new.change c.ask_and_publish-ended.new.change in
    let given = g.I.Ids.given c.args.ids.now in
    let last = g.I.Ids.given c.ask_and_publish-ended.new.ids in
    let p0 = g.S.Store.past c.args.store.now in
    let p1 = g.S.Store.past c.ask_and_publish-ended.new.store in
    let r = c.ask_and_publish-ended.result in
    let before = g.S.Store.halted c.ask_and_publish-ended.new.store in
    let had = c.args.log.now.left.items in
    let kept = c.ask_and_publish-ended.new.log.left.items in
    let version = c.in-Some.version in
    let lost = rounds.lost_is r version (sym c.in-Some.ensures) in
    let Drawn = GivesLast meanings.draws given last in
    let published = subst (λ (x : Result Committed CommitErr). LeavesPublished meanings.made Drawn t (commit_end x).versions (commit_end x).error had kept) lost c.ask_and_publish-ended.ensures.left in
    let beaten : kept ≡ had ++ meanings.made = rounds.beaten_left meanings.made Drawn t version had kept published in
    let removed = c.lost.result in
    let p2 = g.S.Store.past c.lost.new.store in
    let mark = g.S.Store.halted c.lost.new.store in
    let has = c.lost.new.log.left.items in
    let same : own.made ≡ meanings.made = c.ask_and_publish-ended.ensures.kept in
    let m0 = g.S.Store.halted c.args.store.now in
    let none : Marks t kinds.Done m0 before p1 = subst (λ (x : Result Committed CommitErr). Marks t (kind_of (commit_end x)) m0 before p1) lost c.ask_and_publish-ended.ensures.halted in
    let marked = ends.marks_from t (withdraw_kind removed) m0 before mark p2 none c.lost.ensures.halted in
    subst (λ (x : Result Committed CommitErr). Marks t (kind_of (commit_end x)) m0 mark p2) (sym c.lost_answer.ensures) (rounds.lost_marks t version removed m0 mark p2 marked)

pub returns-in-Some-clause-committed : goal.returns-in-Some-clause-committed
returns-in-Some-clause-committed g c =
    let t = c.args.table.now in
    let allows = g.M.Manners.allows (g.S.Store.manners c.args.store.now) in
    let at = c.args.at in
    let meanings = g.X.Change.meanings c.args.change.now c.ask_and_publish-ended.new.change in
    let own = g.X.Change.meanings c.ask_and_publish-ended.new.change c.ask_and_publish-ended.new.change in
    let given = g.I.Ids.given c.args.ids.now in
    let last = g.I.Ids.given c.ask_and_publish-ended.new.ids in
    let p0 = g.S.Store.past c.args.store.now in
    let p1 = g.S.Store.past c.ask_and_publish-ended.new.store in
    let r = c.ask_and_publish-ended.result in
    let before = g.S.Store.halted c.ask_and_publish-ended.new.store in
    let had = c.args.log.now.left.items in
    let kept = c.ask_and_publish-ended.new.log.left.items in
    let version = c.in-Some.version in
    let lost = rounds.lost_is r version (sym c.in-Some.ensures) in
    let Drawn = GivesLast meanings.draws given last in
    let published = subst (λ (x : Result Committed CommitErr). LeavesPublished meanings.made Drawn t (commit_end x).versions (commit_end x).error had kept) lost c.ask_and_publish-ended.ensures.left in
    let beaten : kept ≡ had ++ meanings.made = rounds.beaten_left meanings.made Drawn t version had kept published in
    let removed = c.lost.result in
    let p2 = g.S.Store.past c.lost.new.store in
    let mark = g.S.Store.halted c.lost.new.store in
    let has = c.lost.new.log.left.items in
    let same : own.made ≡ meanings.made = c.ask_and_publish-ended.ensures.kept in
    let first = c.args.log.now.committed.items in
    let none : c.ask_and_publish-ended.new.log.committed.items ≡ first ++ [] = subst (λ (x : Result Committed CommitErr). c.ask_and_publish-ended.new.log.committed.items ≡ first ++ (commit_end x).versions) lost c.ask_and_publish-ended.ensures.committed in
    let versions : (commit_end c.lost_answer.result).versions ≡ [] = ap (λ (x : Result Committed CommitErr). (commit_end x).versions) c.lost_answer.ensures ∙ rounds.lost_versions version removed in
    c.lost.ensures.committed ∙ none ∙ ap (λ (l : List ℕ). first ++ l) (sym versions)

pub returns-in-Some-clause-left : goal.returns-in-Some-clause-left
returns-in-Some-clause-left g c =
    let t = c.args.table.now in
    let allows = g.M.Manners.allows (g.S.Store.manners c.args.store.now) in
    let at = c.args.at in
    let meanings = g.X.Change.meanings c.args.change.now c.ask_and_publish-ended.new.change in
    let own = g.X.Change.meanings c.ask_and_publish-ended.new.change c.ask_and_publish-ended.new.change in
    let given = g.I.Ids.given c.args.ids.now in
    let last = g.I.Ids.given c.ask_and_publish-ended.new.ids in
    let p0 = g.S.Store.past c.args.store.now in
    let p1 = g.S.Store.past c.ask_and_publish-ended.new.store in
    let r = c.ask_and_publish-ended.result in
    let before = g.S.Store.halted c.ask_and_publish-ended.new.store in
    let had = c.args.log.now.left.items in
    let kept = c.ask_and_publish-ended.new.log.left.items in
    let version = c.in-Some.version in
    let lost = rounds.lost_is r version (sym c.in-Some.ensures) in
    let Drawn = GivesLast meanings.draws given last in
    let published = subst (λ (x : Result Committed CommitErr). LeavesPublished meanings.made Drawn t (commit_end x).versions (commit_end x).error had kept) lost c.ask_and_publish-ended.ensures.left in
    let beaten : kept ≡ had ++ meanings.made = rounds.beaten_left meanings.made Drawn t version had kept published in
    let removed = c.lost.result in
    let p2 = g.S.Store.past c.lost.new.store in
    let mark = g.S.Store.halted c.lost.new.store in
    let has = c.lost.new.log.left.items in
    let same : own.made ≡ meanings.made = c.ask_and_publish-ended.ensures.kept in
    let left = subst (λ (l : List Parts). LeavesUnmade l removed kept has) same c.lost.ensures.left in
    subst (λ (x : Result Committed CommitErr). LeavesOf meanings.made Drawn t (commit_end x).versions (commit_end x).error had has) (sym c.lost_answer.ensures)
    (rounds.lost_left meanings.made Drawn t version had kept has beaten removed left)

pub returns-in-Some-clause-drawn : goal.returns-in-Some-clause-drawn
returns-in-Some-clause-drawn g c =
    let t = c.args.table.now in
    let allows = g.M.Manners.allows (g.S.Store.manners c.args.store.now) in
    let at = c.args.at in
    let meanings = g.X.Change.meanings c.args.change.now c.ask_and_publish-ended.new.change in
    let own = g.X.Change.meanings c.ask_and_publish-ended.new.change c.ask_and_publish-ended.new.change in
    let given = g.I.Ids.given c.args.ids.now in
    let last = g.I.Ids.given c.ask_and_publish-ended.new.ids in
    let p0 = g.S.Store.past c.args.store.now in
    let p1 = g.S.Store.past c.ask_and_publish-ended.new.store in
    let r = c.ask_and_publish-ended.result in
    let before = g.S.Store.halted c.ask_and_publish-ended.new.store in
    let had = c.args.log.now.left.items in
    let kept = c.ask_and_publish-ended.new.log.left.items in
    let version = c.in-Some.version in
    let lost = rounds.lost_is r version (sym c.in-Some.ensures) in
    let Drawn = GivesLast meanings.draws given last in
    let published = subst (λ (x : Result Committed CommitErr). LeavesPublished meanings.made Drawn t (commit_end x).versions (commit_end x).error had kept) lost c.ask_and_publish-ended.ensures.left in
    let beaten : kept ≡ had ++ meanings.made = rounds.beaten_left meanings.made Drawn t version had kept published in
    let removed = c.lost.result in
    let p2 = g.S.Store.past c.lost.new.store in
    let mark = g.S.Store.halted c.lost.new.store in
    let has = c.lost.new.log.left.items in
    let same : own.made ≡ meanings.made = c.ask_and_publish-ended.ensures.kept in
    let draws = subst (λ (x : Result Committed CommitErr). DrawsOf meanings.draws (commit_end x).versions (commit_end x).error given last) lost c.ask_and_publish-ended.ensures.drawn in
    subst (λ (x : Result Committed CommitErr). DrawsOf meanings.draws (commit_end x).versions (commit_end x).error given last) (sym c.lost_answer.ensures) (rounds.lost_draws meanings.draws version removed given last draws)

pub returns-in-Some-clause-refused : goal.returns-in-Some-clause-refused
returns-in-Some-clause-refused g c refusal is = absurd (rounds.lost_refuses c.in-Some.version c.lost.result refusal (sym c.lost_answer.ensures ∙ is))

pub returns-in-Some-clause-unopened : goal.returns-in-Some-clause-unopened
returns-in-Some-clause-unopened g c e is = rounds.lost_opens c.in-Some.version c.lost.result e (sym c.lost_answer.ensures ∙ is)

pub returns-in-Some-clause-fault_place : goal.returns-in-Some-clause-fault_place
returns-in-Some-clause-fault_place g c place is =
    let t = c.args.table.now in
    let allows = g.M.Manners.allows (g.S.Store.manners c.args.store.now) in
    let at = c.args.at in
    let meanings = g.X.Change.meanings c.args.change.now c.ask_and_publish-ended.new.change in
    let own = g.X.Change.meanings c.ask_and_publish-ended.new.change c.ask_and_publish-ended.new.change in
    let given = g.I.Ids.given c.args.ids.now in
    let last = g.I.Ids.given c.ask_and_publish-ended.new.ids in
    let p0 = g.S.Store.past c.args.store.now in
    let p1 = g.S.Store.past c.ask_and_publish-ended.new.store in
    let r = c.ask_and_publish-ended.result in
    let before = g.S.Store.halted c.ask_and_publish-ended.new.store in
    let had = c.args.log.now.left.items in
    let kept = c.ask_and_publish-ended.new.log.left.items in
    let removed = c.lost.result in
    let p2 = g.S.Store.past c.lost.new.store in
    let mark = g.S.Store.halted c.lost.new.store in
    let has = c.lost.new.log.left.items in
    let same : own.made ≡ meanings.made = c.ask_and_publish-ended.ensures.kept in
    let version = c.in-Some.version in
    let failed = rounds.lost_fault version removed place (sym c.lost_answer.ensures ∙ is) in
    elim (c.lost.ensures.place place failed) [
      | inl at_table ↦ inr (inl (inl at_table))
      | inr made ↦ inr (inr (subst (λ (l : List Parts). IsMadeAt l place) same made))
    ]

pub returns-in-None-clause-spare : goal.returns-in-None-clause-spare
returns-in-None-clause-spare g c spare = c.ask_and_publish-ended.ensures.spare spare

pub returns-in-Some-clause-spare : goal.returns-in-Some-clause-spare
returns-in-Some-clause-spare g c spare =
    absurd (rounds.lost_unspared c.in-Some.version c.lost.result (subst (λ (x : Result Committed CommitErr). IsSpareEnd x) c.lost_answer.ensures spare))
