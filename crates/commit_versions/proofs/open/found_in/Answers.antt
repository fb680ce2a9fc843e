use Rattle.std.proofs.Common.{◌≡◌, ◌<◌, ◌≤◌, slice_get, arith, subst}
use Rattle.std.specs.Option.{IsSomeAnd}
use Rattle.ice_store.specs.Places.{Parts}
use Rattle.ice_store.specs.declared.store.Listed.{Listed}
use Rattle.commit_history.specs.Versions.{number_in}
use Rattle.commit_versions.specs.Opening.{version_limit}
use Rattle.commit_versions.proofs.LatestLaws.{both_of, fact_of, below_greatest}
use Rattle.commit_versions.proofs.open.found_in.Goals as goal

pub returns-in-Ok-place_at-clause-found : goal.returns-in-Ok-place_at-clause-found
returns-in-Ok-place_at-clause-found c =
    let number = number_in c.args.table.now in
    let P : Listed → Type 0 = λ l. version_limit ≤ number l.place in
    let Q : Listed → Type 0 = λ l. l.place ≡ c.in-Ok-place_at.place in
    let F : Type 0 = version_limit ≤ number c.in-Ok-place_at.place in
    let o = slice_get c.args.listed.now c.in-Err.index in
    let beyond : IsSomeAnd o P = c.in-Err.ensures.1 in
    let both = both_of P Q (λ l. F) o (λ l p q. subst (λ (x : Parts). version_limit ≤ number x) q p) beyond c.in-Ok-place_at.ensures.place in
    (record { index = c.in-Err.index; within = c.in-Err.ensures.0; item = c.in-Ok-place_at.ensures.place; beyond = fact_of F (λ l. F) o (λ l f. f) both; before = c.in-Err.ensures.2 }, below_greatest number c.args.listed.now c.in-Err.index version_limit beyond)

pub returns-in-Ok-place_at-2-clause-found : goal.returns-in-Ok-place_at-2-clause-found
returns-in-Ok-place_at-2-clause-found c =
    let number = number_in c.args.table.now in
    let latest = c.in-Ok.latest in
    let pos : 0 < latest.version = omega (arith, c.if-latest-eq0.false) in
    let there = c.in-Ok.ensures.2 pos in
    let P : Listed → Type 0 = λ l. number l.place ≡ latest.version in
    let Q : Listed → Type 0 = λ l. l.place ≡ c.in-Ok-place_at-2.place in
    let F : Type 0 = number c.in-Ok-place_at-2.place ≡ latest.version in
    let o = slice_get c.args.listed.now latest.index in
    let both = both_of P Q (λ l. F) o (λ l p q. subst (λ (x : Parts). number x ≡ latest.version) q p) there.1 c.in-Ok-place_at-2.ensures.place in
    (record { is = fact_of F (λ l. F) o (λ l f. f) both; positive = pos; below = c.in-Ok.ensures.1 }, c.in-Ok.ensures.0)
