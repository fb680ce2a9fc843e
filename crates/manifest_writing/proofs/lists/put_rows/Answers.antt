use Rattle.std.proofs.Common.{◌≡◌, ◌+◌, List, ℕ, map, drop, arith}
use Rattle.std.proofs.lemmas.Result.{err_from_is_err_and}
use Rattle.manifest_writing.specs.Laws.{IsSpelled}
use Rattle.manifest_writing.specs.Lists.{row_bytes}
use Rattle.manifest_writing.proofs.Loops.{next, none_left, passed_on, holds_of_next, holds_of_all}
use Rattle.manifest_writing.proofs.lists.put_rows.Goals as goal

pub returns-in_err-put_row-clause-puts : goal.returns-in_err-put_row-clause-puts
returns-in_err-put_row-clause-puts c =
    let r = err_from_is_err_and c.from_residual.result c.from_residual.ensures.1 in
    let rest = map row_bytes (drop (c.loop-row.row-index + 1) c.args.rows.now) in
    rw (r.1, r.2) (λ head objects h. passed_on head c.args.sync.now objects rest c.put_row.new.blocks _ (c.in_err-put_row.ensures.puts head objects rest
    (next row_bytes c.args.rows.now c.loop-row.row-index c.row-item.result head c.args.sync.now objects c.loop-row.blocks.file.items _ c.loop-row-test.true c.row-item.is (c.loop-row.invariant.so_far head objects h))))

pub loop-row-preserved : goal.loop-row-preserved
loop-row-preserved c = record {
  so_far = λ head objects h. c.in_ok-put_row.ensures.puts head objects (map row_bytes (drop (c.loop-row.row-index + 1) c.args.rows.now))
      (next row_bytes c.args.rows.now c.loop-row.row-index c.row-item.result head c.args.sync.now objects c.loop-row.blocks.file.items _ c.loop-row-test.true c.row-item.is (c.loop-row.invariant.so_far head objects h));
  room = c.in_ok-put_row.ensures.room;
  spelled = holds_of_next IsSpelled c.args.rows.now c.loop-row.row-index c.row-item.result c.loop-row-test.true c.row-item.is c.loop-row.invariant.spelled c.in_ok-put_row.ensures.spelled;
}

pub returns-clause-puts : goal.returns-clause-puts
returns-clause-puts c = λ head objects h. none_left row_bytes c.args.rows.now c.loop-row.row-index head c.args.sync.now objects c.loop-row.blocks.file.items _ (omega (arith, c.loop-row-test.false)) (c.loop-row.invariant.so_far head objects h)

pub returns-clause-spelled : goal.returns-clause-spelled
returns-clause-spelled c = holds_of_all IsSpelled c.args.rows.now c.loop-row.row-index (omega (arith, c.loop-row-test.false)) c.loop-row.invariant.spelled
