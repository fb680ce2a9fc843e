use Rattle.std.proofs.Common.{ap, ◌∙◌, rules}
use Rattle.store_memory.specs.Slots.{number_at}
use Rattle.store_memory.proofs.IndexLaws.{number_at-index_of}
use Rattle.store_memory.proofs.index.Index.get.Goals as goal

pub returns : goal.returns
returns c =
    let place = c.args.place.now in
    search rules ∙ number_at-index_of place c.self.inside.numbers.entries ∙ ap (λ l. number_at l place) c.self.view_is
