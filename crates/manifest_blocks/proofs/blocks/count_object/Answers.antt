use Rattle.std.proofs.Common.{◌≡◌, sym, ◌∙◌}
use Rattle.std.proofs.lemmas.Result.{err_from_is_err_and}
use Rattle.manifest_blocks.proofs.Closing.{stays_open, is_closed, not_closed}
use Rattle.manifest_blocks.proofs.blocks.count_object.Goals as goal

pub returns-in_err-close-clause-counts : goal.returns-in_err-close-clause-counts
returns-in_err-close-clause-counts c =
    let r = err_from_is_err_and c.from_residual.result c.from_residual.ensures.1 in
    rw (r.1, r.2) (not_closed c.args.sync.now c.args.blocks.now c.close.new.blocks _ (sym c.is_full.ensures ∙ c.if-is_full.true) c.in_err-close.ensures)

pub returns-in_ok-close-clause-counts : goal.returns-in_ok-close-clause-counts
returns-in_ok-close-clause-counts c =
    let e = c.in_ok-close.ensures in
    is_closed c.args.sync.now c.args.blocks.now.file.items c.args.blocks.now.body.items _ _ c.args.blocks.now.count _ (sym c.is_full.ensures ∙ c.if-is_full.true) e.0 e.1 e.2 e.3

pub returns-else-is_full-clause-counts : goal.returns-else-is_full-clause-counts
returns-else-is_full-clause-counts c = stays_open c.args.sync.now c.args.blocks.now.file.items c.args.blocks.now.body.items c.args.blocks.now.count (sym c.is_full.ensures ∙ c.if-is_full.false)
