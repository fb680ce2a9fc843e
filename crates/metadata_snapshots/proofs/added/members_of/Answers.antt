use Rattle.std.proofs.Common.{List, ℕ, sym, subst, arith}
use Rattle.std.specs.Prelude.{IsUtf8}
use Rattle.metadata_snapshots.proofs.added.members_of.Goals as goal

pub put_pair-requires : goal.put_pair-requires
put_pair-requires c = subst (λ (t : List ℕ × List ℕ). IsUtf8 t.0 × IsUtf8 t.1) (sym c.pair-item.is) (c.requires c.loop-pair.pair-index c.pair-item.result (omega arith))
