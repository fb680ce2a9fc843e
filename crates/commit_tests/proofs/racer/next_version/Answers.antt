use Rattle.std.proofs.Common.{rules, ◌≡◌, ℕ, ◌+◌, IfSome, [], ◌∷◌, ◌++◌, List, ap, ◌∙◌, subst}
use Rattle.ice_store.specs.Calls.{IsListing}
use Rattle.ice_store.specs.History.{replay}
use Rattle.ice_store.specs.Places.{Parts}
use Rattle.ice_store.specs.declared.store.Listed.{Listed}
use Rattle.commit_history.specs.Listings.{greatest}
use Rattle.commit_history.specs.Tables.{version}
use Rattle.commit_history.specs.Versions.{folder, number_in}
use Rattle.commit_tests.proofs.racer.next_version.Goals as goal

pub returns-in-Some : goal.returns-in-Some
returns-in-Some c =
    let number = number_in c.args.table.now in
    let files = (replay c.args.history.now).files in
    let listed = c.in_ok-listed.listed.items in
    let there : IsListing (c.args.table.now ++ folder ∷ []) files listed = subst (λ (d : Parts). IsListing d files listed) c.in_ok-metadata_folder.ensures c.in_ok-listed.ensures in
    let is : c.in-Some.last ≡ version number files = c.in-Some.ensures ∙ ap (λ (l : List Listed). greatest number l) c.deref.ensures.value ∙ c.listing_tells.ensures files listed there in
    let sum : IfSome c.checked_add.result (λ n. n ≡ c.in-Some.last + 1) = search rules in
    subst (λ (v : ℕ). IfSome c.checked_add.result (λ n. n ≡ v + 1)) is sum
