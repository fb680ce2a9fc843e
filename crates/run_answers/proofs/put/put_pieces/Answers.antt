use Rattle.run_answers.specs.Pieces.{piece_text}
use Rattle.run_answers.specs.declared.message.Piece.TheVariants.{Nothing}
use Rattle.run_answers.proofs.MessageLaws.{piece_lost}
use Rattle.run_answers.proofs.put.put_pieces.Goals as goal

pub returns-in_err-put_piece : goal.returns-in_err-put_piece
returns-in_err-put_piece g c =
    let contents = g.X.Sink.contents in
    let faults = g.X.Sink.faults in
    piece_lost piece_text c.args.pieces.now c.loop-piece.piece-index Nothing
    (contents c.args.err.now) (contents c.loop-piece.err) (contents c.put_piece.new.err) (faults c.args.err.now) (faults c.loop-piece.err) (faults c.put_piece.new.err)
    c.in_err-put_piece.field-0.0 c.from_residual.result c.loop-piece-test.true c.loop-piece.invariant c.in_err-put_piece.ensures c.from_residual.ensures.0
