use Rattle.std.proofs.Common.{◌≡◌, ◌<◌, ap, ◌∙◌, arith}
use Rattle.std.proofs.lemmas.Result.{err_from_is_err_and}
use Rattle.manifest_blocks.specs.declared.blocks.Blocks.{Blocks}
use Rattle.manifest_blocks.proofs.Closing.{last_closed, none_open, not_finished}
use Rattle.manifest_blocks.proofs.blocks.finish.Goals as goal
use Rattle.manifest_blocks.proofs.blocks.finish.Goals.{then-blocks-gt0+in_ok-close, else-blocks-gt0}

pub returns-in_err-close : goal.returns-in_err-close
returns-in_err-close c =
    let r = err_from_is_err_and c.from_residual.result c.from_residual.ensures.1 in
    let some : 0 < c.args.blocks.count = omega (arith, c.if-blocks-gt0.true) in
    record { finishes = rw (r.1, r.2) (not_finished c.args.sync.now c.args.blocks c.close.new.blocks _ some c.in_err-close.ensures) }

pub returns : goal.returns
returns c = record {
  finishes = elim c.if-blocks-gt0.branch [
    | then-blocks-gt0+in_ok-close w ↦ (let some : 0 < c.args.blocks.count = omega (arith, w.if-blocks-gt0.true) in
        last_closed c.args.sync.now c.args.blocks.file.items c.args.blocks.body.items _ c.args.blocks.count some (c.new.ensures ∙ ap (λ (b : Blocks). b.file.items) w.blocks-is ∙ w.in_ok-close.ensures.0) w.in_ok-close.ensures.3)
    | else-blocks-gt0 w ↦ (let none : c.args.blocks.count ≡ 0 = omega (arith, w.if-blocks-gt0.false) in
        λ head objects s. let whole = none_open c.args.sync.now c.args.blocks.file.items c.args.blocks.body.items c.args.blocks.count none head objects s in (c.new.ensures ∙ ap (λ (b : Blocks). b.file.items) w.blocks-is ∙ whole.0, whole.1))
  ];
}
