use Rattle.std.proofs.Common.{ap, ◌∙◌}
use Rattle.ice_store.specs.Numbers.{natural_of}
use Rattle.table_metadata.specs.Edits.{version_limit, limit_in}
use Rattle.table_metadata.proofs.meta.Meta.version_limit.Goals as goal

pub returns-in-Some : goal.returns-in-Some
unfolding version_limit
returns-in-Some c = c.natural_of.ensures ∙ ap natural_of (c.as_slice.ensures.value ∙ c.inner.ensures) ∙ ap limit_in c.in-Some.ensures

pub returns-in-None : goal.returns-in-None
unfolding version_limit
returns-in-None c = ap limit_in c.in-None.ensures
