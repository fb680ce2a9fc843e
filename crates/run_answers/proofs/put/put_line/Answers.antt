use Rattle.std.proofs.Common.{◌++◌, codes, Ok, Err}
use Rattle.std.specs.List.{flat_map}
use Rattle.run_answers.specs.Pieces.{piece_text}
use Rattle.run_answers.proofs.PutLaws.{put_on, put_lost}
use Rattle.run_answers.proofs.put.put_line.Goals as goal

pub returns-in_err-put : goal.returns-in_err-put
returns-in_err-put g c =
    let contents = g.X.Sink.contents in
    let faults = g.X.Sink.faults in
    let pieces = flat_map piece_text c.args.pieces.now in
    put_lost (contents c.args.err.now) (contents c.put.new.self) (faults c.args.err.now) (faults c.put.new.self) (codes "upkeep: ") (pieces ++ codes "\n") c.in_err-put.field-0.0 c.from_residual.result
    (record { contents = c.in_err-put.ensures.contents; cause = c.in_err-put.ensures.cause }) c.from_residual.ensures.0

pub returns-in_err-put_pieces : goal.returns-in_err-put_pieces
returns-in_err-put_pieces g c =
    let contents = g.X.Sink.contents in
    let faults = g.X.Sink.faults in
    let pieces = flat_map piece_text c.args.pieces.now in
    put_lost (contents c.args.err.now) (contents c.put_pieces.new.err) (faults c.args.err.now) (faults c.put_pieces.new.err) (codes "upkeep: " ++ pieces) (codes "\n") c.in_err-put_pieces.field-0.0 c.from_residual-in_err-put_pieces.result
    (put_on (contents c.args.err.now) (contents c.put.new.self) (contents c.put_pieces.new.err) (faults c.args.err.now) (faults c.put.new.self) (faults c.put_pieces.new.err) (codes "upkeep: ") pieces tt (Err c.in_err-put_pieces.field-0.0)
    (record { contents = c.in_ok-put.ensures.contents; cause = c.in_ok-put.ensures.cause }) c.in_err-put_pieces.ensures)
    c.from_residual-in_err-put_pieces.ensures.0

pub returns : goal.returns
returns g c =
    let contents = g.X.Sink.contents in
    let faults = g.X.Sink.faults in
    let pieces = flat_map piece_text c.args.pieces.now in
    put_on (contents c.args.err.now) (contents c.put_pieces.new.err) (contents c.put-2.new.self) (faults c.args.err.now) (faults c.put_pieces.new.err) (faults c.put-2.new.self) (codes "upkeep: " ++ pieces) (codes "\n") tt c.put-2.result
    (put_on (contents c.args.err.now) (contents c.put.new.self) (contents c.put_pieces.new.err) (faults c.args.err.now) (faults c.put.new.self) (faults c.put_pieces.new.err) (codes "upkeep: ") pieces tt (Ok tt)
    (record { contents = c.in_ok-put.ensures.contents; cause = c.in_ok-put.ensures.cause }) c.in_ok-put_pieces.ensures)
    (record { contents = c.put-2.ensures.contents; cause = c.put-2.ensures.cause })
