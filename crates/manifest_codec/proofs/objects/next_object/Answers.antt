use Rattle.std.proofs.Common.{◌≡◌, ◌-◌, suc, arith, slice_range, ◌∙◌}
use Rattle.avro_schema.specs.Form.{form_of}
use Rattle.manifest_codec.proofs.Steps.{reached, slice_len, object_read, object_fails}
use Rattle.manifest_codec.proofs.objects.next_object.Goals as goal

pub returns-in-Ok-clause-steps : goal.returns-in-Ok-clause-steps
returns-in-Ok-clause-steps c =
    let p = c.reach.new.place in
    let w = c.in_ok-reach.ensures.within in
    let r = reached c.args.file.now c.args.bytes.now c.args.place.now p _ c.in_ok-reach.ensures.reaches c.if-not-branch.false in
    let some : p.count ≡ suc (p.count - 1) = omega (arith, r.1) in
    r.0 ∙ object_read (form_of c.args.file.now.schema) p.from p.to p.at _ p.count (p.count - 1) (slice_range c.args.bytes.now p.from p.to) _ c.in-Ok.datum some
    (slice_len c.args.bytes.now p.from p.to w.ended) w.inside w.ordered c.in-Ok.ensures.exact.0

pub returns-in-Err-Bad-clause-steps : goal.returns-in-Err-Bad-clause-steps
returns-in-Err-Bad-clause-steps c =
    let p = c.reach.new.place in
    let w = c.in_ok-reach.ensures.within in
    let r = reached c.args.file.now c.args.bytes.now c.args.place.now p _ c.in_ok-reach.ensures.reaches c.if-not-branch.false in
    let some : p.count ≡ suc (p.count - 1) = omega (arith, r.1) in
    let x = rw c.in-Err-Bad.field-0-is at c.in-Err-Bad.ensures.exact in
    r.0 ∙ object_fails (form_of c.args.file.now.schema) p.from p.to p.at c.in-Err-Bad.at _ p.count (p.count - 1) (slice_range c.args.bytes.now p.from p.to) c.in-Err-Bad.cause some
    (slice_len c.args.bytes.now p.from p.to w.ended) w.ordered x.0 x.1
