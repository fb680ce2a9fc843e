use Rattle.std.proofs.Common.{◌≡◌, ◌-◌, suc, length, drop, arith, sym, ◌∙◌}
use Rattle.std.proofs.lemmas.List.{length-drop}
use Rattle.std.proofs.lemmas.Result.{err_from_is_err_and}
use Rattle.avro_schema.specs.Form.{form_of}
use Rattle.manifest_codec.proofs.Steps.{unfilled, filled, at_end, too_many, block_fails, block_begins, body_len}
use Rattle.manifest_codec.proofs.objects.entered.Goals as goal

pub returns-then-place : goal.returns-then-place
returns-then-place c =
    let p = c.args.place.now in
    rw c.container_fault.ensures (unfilled _ p.from p.to _ p.count _ c.requires.over (λ e. omega (arith, e, body_len c.args.bytes.now p.from p.to p.at c.requires.within.ended, c.requires.within.inside, c.if-place.true)))

pub returns-then-place-bytes : goal.returns-then-place-bytes
returns-then-place-bytes c =
    let p = c.args.place.now in
    filled _ p.from p.to _ p.count _ c.requires.over (omega (arith, body_len c.args.bytes.now p.from p.to p.at c.requires.within.ended, c.if-place.false))
    ∙ at_end _ _ _ p.blocks _ (omega (arith, length-drop p.next c.args.bytes.now, c.if-place-bytes.true))

pub returns-then-place-eq0 : goal.returns-then-place-eq0
returns-then-place-eq0 c =
    let p = c.args.place.now in
    rw c.container_fault-then-place-eq0.ensures (
    filled _ p.from p.to _ p.count _ c.requires.over (omega (arith, body_len c.args.bytes.now p.from p.to p.at c.requires.within.ended, c.if-place.false))
    ∙ too_many _ _ _ p.blocks _ c.if-place-eq0.true (λ e. omega (arith, e, length-drop p.next c.args.bytes.now, c.if-place-bytes.false, c.requires.within.behind)))

pub returns-in_err-next_block : goal.returns-in_err-next_block
returns-in_err-next_block c =
    let p = c.args.place.now in
    let r = err_from_is_err_and c.from_residual.result c.from_residual.ensures.1 in
    let x = c.in_err-next_block.ensures.exact in
    rw (r.1, r.2) (
    filled _ p.from p.to _ p.count _ c.requires.over (omega (arith, body_len c.args.bytes.now p.from p.to p.at c.requires.within.ended, c.if-place.false))
    ∙ block_fails _ _ (length c.args.bytes.now) p.blocks (p.blocks - 1) _ (drop p.next c.args.bytes.now) _ (omega (arith, c.if-place-eq0.false)) (λ e. omega (arith, e, length-drop p.next c.args.bytes.now, c.if-place-bytes.false, c.requires.within.behind)) x.0 x.1)

pub returns-in-Some : goal.returns-in-Some
returns-in-Some c =
    let p = c.args.place.now in
    let b = c.in-Some.block in
    let x = rw c.in-Some.is at c.in_ok-next_block.ensures.exact in
    let marker = rw c.in-Some.is at c.in_ok-next_block.ensures.marker in
    let body = rw c.in-Some.is at c.in_ok-next_block.ensures.body in
    let some : p.blocks ≡ suc (p.blocks - 1) = omega (arith, c.if-place-eq0.false) in
    rw c.place_in.ensures (
      filled _ p.from p.to _ p.count _ c.requires.over (omega (arith, body_len c.args.bytes.now p.from p.to p.at c.requires.within.ended, c.if-place.false))
          ∙ block_begins (form_of c.args.file.now.schema) c.args.file.now.header.sync c.args.bytes.now p.blocks (p.blocks - 1) p.next b.count b.from b.to b.next some
          (λ e. omega (arith, e, length-drop p.next c.args.bytes.now, c.if-place-bytes.false, c.requires.within.behind)) x.0 x.1 marker body,
      record { ordered = body; ended = omega (arith, marker, x.1); behind = x.1; inside = omega arith },
      sym some,
    )
