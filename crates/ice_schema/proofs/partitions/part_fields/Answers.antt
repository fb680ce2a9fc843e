use Rattle.std.proofs.Common.{◌≡◌, ◌+◌, [], ◌∷◌, ◌++◌, take, ap, sym, ◌∙◌}
use Rattle.std.proofs.lemmas.List.{take_more}
use Rattle.std.proofs.lemmas.Slice.Zip.{all_zipped_more}
use Rattle.ice_schema.specs.Partitions.{IsPartField}
use Rattle.ice_schema.proofs.partitions.part_fields.Goals as goal

pub loop-field-preserved : goal.loop-field-preserved
loop-field-preserved c =
    let xs = c.args.fields.now in
    let i = c.loop-field.field-index in
    let item = c.field-item.result in
    let taken : take (i + 1) xs ≡ take i xs ++ item ∷ [] = take_more xs i item c.loop-field-test.true ∙ ap (λ x. take i xs ++ x ∷ []) (sym c.field-item.is) in
    let pushed : c.push.new.self ≡ c.loop-field.typed ++ c.in_ok-part_field.field-0 ∷ [] = c.in_ok-push.ensures.ok in
    rw taken (rw pushed (all_zipped_more (IsPartField c.args.schemas.now) (take i xs) c.loop-field.typed item c.in_ok-part_field.field-0 c.loop-field.invariant c.in_ok-part_field.ensures.typed))
