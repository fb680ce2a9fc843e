use Rattle.run_refs.proofs.ListingLaws.{one_listing, lists_or_lacks}
use Rattle.run_refs.proofs.laws.listings_are_decided.Goals as goal

pub returns-clause-one : goal.returns-clause-one
returns-clause-one c = one_listing

pub returns-clause-lists_or_lacks : goal.returns-clause-lists_or_lacks
returns-clause-lists_or_lacks c = lists_or_lacks
