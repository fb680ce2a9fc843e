use Rattle.std.proofs.Common.{ap, ◌∙◌, bytes_eq, is_eq, nat_cmp, ◌||◌}
use Rattle.std.specs.Cmp.Lexicographic.{slice_cmp}
use Rattle.std.specs.List.{list_any}
use Rattle.metadata_snapshots.specs.Sets.{has_key}
use Rattle.metadata_snapshots.proofs.SetLaws.{name-insert}
use Rattle.metadata_snapshots.proofs.taken.add_name.Goals as goal

pub returns : goal.returns
returns c = λ q.
    ap (list_any (λ k. is_eq (slice_cmp nat_cmp q k.items))) c.in_ok-insert.ensures.keys ∙ name-insert q c.args.names.now.keys c.into_inner.result
    ∙ ap (λ ks. bytes_eq q ks || has_key c.args.names.now q) (c.into_inner.ensures ∙ c.in_ok-copy.ensures)
