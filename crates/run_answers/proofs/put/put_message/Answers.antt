use Rattle.std.proofs.Common.{Ok}
use Rattle.std.specs.List.{flat_map}
use Rattle.run_answers.specs.Messages.{message_line}
use Rattle.run_answers.specs.Pieces.{piece_text}
use Rattle.run_answers.proofs.MessageLaws.{nothing_said, line_said}
use Rattle.run_answers.proofs.PutLaws.{takes_prefix, takes_whole}
use Rattle.run_answers.proofs.put.put_message.Goals as goal

pub returns-then-is_done-clause-contents : goal.returns-then-is_done-clause-contents
returns-then-is_done-clause-contents g c =
    let said = nothing_said c.args.status.now (g.X.Sink.contents c.args.err.now) (g.X.Sink.faults c.args.err.now) c.if-is_done.ensures in
    said.contents

pub returns-then-is_done-clause-whole : goal.returns-then-is_done-clause-whole
returns-then-is_done-clause-whole g c =
    let before = g.X.Sink.contents c.args.err.now in
    let faults = g.X.Sink.faults c.args.err.now in
    takes_whole before before faults faults (message_line c.args.status.now) (Ok tt) (nothing_said c.args.status.now before faults c.if-is_done.ensures)

pub returns-clause-contents : goal.returns-clause-contents
returns-clause-contents g c =
    let contents = g.X.Sink.contents in
    let faults = g.X.Sink.faults in
    let said = line_said c.args.status.now (contents c.args.err.now) (contents c.put_line.new.err) (faults c.args.err.now) (faults c.put_line.new.err) c.put_line.result (flat_map piece_text c.pieces_of.result) c.if-is_done.ensures c.pieces_of.ensures c.put_line.ensures in
    said.contents

pub returns-clause-prefix : goal.returns-clause-prefix
returns-clause-prefix g c =
    let contents = g.X.Sink.contents in
    let faults = g.X.Sink.faults in
    let said = line_said c.args.status.now (contents c.args.err.now) (contents c.put_line.new.err) (faults c.args.err.now) (faults c.put_line.new.err) c.put_line.result (flat_map piece_text c.pieces_of.result) c.if-is_done.ensures c.pieces_of.ensures c.put_line.ensures in
    takes_prefix (contents c.args.err.now) (contents c.put_line.new.err) (message_line c.args.status.now) c.put_line.result said.contents

pub returns-clause-whole : goal.returns-clause-whole
returns-clause-whole g c =
    let contents = g.X.Sink.contents in
    let faults = g.X.Sink.faults in
    takes_whole (contents c.args.err.now) (contents c.put_line.new.err) (faults c.args.err.now) (faults c.put_line.new.err) (message_line c.args.status.now) c.put_line.result
    (line_said c.args.status.now (contents c.args.err.now) (contents c.put_line.new.err) (faults c.args.err.now) (faults c.put_line.new.err) c.put_line.result (flat_map piece_text c.pieces_of.result) c.if-is_done.ensures c.pieces_of.ensures c.put_line.ensures)
