use Rattle.std.proofs.Common.{rules, ◌≡◌, ℕ, ◌+◌, Option, Some, false, is_some, IfSome, List, sym, ◌∙◌, subst}
use Rattle.ice_store.specs.Files.{find}
use Rattle.ice_store.specs.History.{replay}
use Rattle.ice_store.specs.Others.{Allowed}
use Rattle.ice_store.specs.declared.history.Step.{Step}
use Rattle.store_memory.specs.Neighbours.{by_them}
use Rattle.commit_history.specs.Mannered.{AllowsStep}
use Rattle.commit_history.specs.Readings.{reading_of}
use Rattle.commit_history.specs.Tables.{version}
use Rattle.commit_history.specs.Versions.{number_in}
use Rattle.commit_history.proofs.Numbering.{numbering}
use Rattle.commit_tests.specs.Publishing.{publishes}
use Rattle.commit_tests.proofs.PublishingLaws.{publish_allowed, none_found, of_steps}
use Rattle.commit_tests.proofs.racer.publish.Goals as goal

pub returns : goal.returns
returns g c =
    let t = c.args.table.now in
    let past = c.args.history.now in
    let files = (replay past).files in
    let from = c.in_ok-from.from in
    let to = c.in_ok-to.to in
    let bytes = c.args.bytes.now in
    let reading = reading_of g.R.TableReading.content t in
    let no_from : is_some c.find.result ≡ false = search rules in
    let no_to : is_some c.find-else-is_some.result ≡ false = search rules in
    let after : IfSome (Some c.in-Some.next) (λ n. n ≡ version (number_in t) files + 1) = subst (λ (o : Option ℕ). IfSome o (λ n. n ≡ version (number_in t) files + 1)) c.in-Some.is c.in_ok-next.ensures in
    of_steps (λ steps. steps ≡ publishes from to bytes) (λ steps. (ms : ℕ) → Allowed (AllowsStep reading) past (by_them ms steps)) c.publish_steps.result
    (λ steps is ms. subst (λ (l : List Step). Allowed (AllowsStep reading) past (by_them ms l)) (sym is)
    (publish_allowed reading (numbering t) (g.R.TableReading.localized t) past from to bytes c.in_ok-from.ensures.plain
    (none_found c.find.result (find files from) c.find.ensures no_from) (none_found c.find-else-is_some.result (find files to) c.find-else-is_some.ensures no_to)
    (c.in_ok-to.ensures.number ∙ after) c.requires.good ms))
    c.publish_steps.ensures
