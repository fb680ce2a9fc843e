use Rattle.std.proofs.Common.{take, Ok}
use Rattle.std.specs.List.{flat_map}
use Rattle.run_answers.specs.Pieces.{piece_text}
use Rattle.run_answers.specs.Puts.{IsPut}
use Rattle.run_answers.proofs.put.put_pieces.Given as goal

abbrev pub invariant-loop-piece : goal.invariant-loop-piece
invariant-loop-piece g l = IsPut (g.X.Sink.contents l.initial.err) (g.X.Sink.contents l.err) (g.X.Sink.faults l.initial.err) (g.X.Sink.faults l.err) (flat_map piece_text (take l.piece-index l.pieces)) (Ok tt)
