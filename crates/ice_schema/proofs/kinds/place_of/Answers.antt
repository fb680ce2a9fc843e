use Rattle.std.proofs.Common.{◌≡◌, ◌+◌, drop, ap, subst, arith, w32}
use Rattle.std.proofs.Math.ListN.{drop_of_length-le}
use Rattle.std.proofs.lemmas.Int.{to_z-of_z}
use Rattle.std.specs.List.{position_or_len}
use Rattle.ice_schema.specs.Kinds.{has_id}
use Rattle.ice_schema.proofs.kinds.place_of.Goals as goal

pub returns : goal.returns
returns c =
    let xs = c.args.fields.now in
    let n = c.loop-place.place in
    let so_far : n + position_or_len (has_id c.args.id) (drop n xs) ≡ position_or_len (has_id c.args.id) xs =
    subst (λ id. n + position_or_len (has_id id) (drop n xs) ≡ position_or_len (has_id id) xs) (to_z-of_z w32 c.args.id c.ranges.id) c.loop-place.invariant in
    let at_end : position_or_len (has_id c.args.id) (drop n xs) ≡ 0 = ap (position_or_len (has_id c.args.id)) (drop_of_length-le xs c.loop-place-test.false) in
    omega (arith, so_far, at_end, c.loop-place.auto.place-end, c.loop-place-test.false)
