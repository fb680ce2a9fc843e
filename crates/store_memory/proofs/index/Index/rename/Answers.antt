use Rattle.std.proofs.Common.{◌≡◌, true, false, Some, rules}
use Rattle.ice_store.specs.Places.{same_place}
use Rattle.ice_store.proofs.FileLaws.{place_decides}
use Rattle.store_memory.specs.Slots.{number_at}
use Rattle.store_memory.proofs.IndexLaws.{renamed_same, renamed_other}
use Rattle.store_memory.proofs.index.Index.rename.Goals as goal

pub returns-then-is-clause-ok : goal.returns-then-is-clause-ok
returns-then-is-clause-ok c =
    let from = c.args.from.now in
    let to = c.args.to.now in
    let same : same_place from to ≡ true = search rules in
    renamed_same (number_at c.args.self.now) (number_at c.insert.new.self) from to (Some c.args.number) ((place_decides from to).0 same) c.in_ok-old.ensures.ok

pub returns-clause-ok : goal.returns-clause-ok
returns-clause-ok c =
    let from = c.args.from.now in
    let to = c.args.to.now in
    let apart : same_place from to ≡ false = search rules in
    renamed_other (number_at c.args.self.now) (number_at c.insert.new.self) (number_at c.remove.new.self) from to (Some c.args.number)
    (λ at. absurd (cc (apart, (place_decides from to).1 at))) c.in_ok-old.ensures.ok c.remove.ensures.index
