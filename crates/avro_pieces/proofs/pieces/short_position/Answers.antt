use Rattle.avro_pieces.proofs.Shorts.{short_place}
use Rattle.avro_pieces.proofs.pieces.short_position.Goals as goal

pub returns-clause-value : goal.returns-clause-value
returns-clause-value c = λ above. short_place above c.args.count c.in_ok-n.n _ _ c.in_ok-n.ensures.number c.if-n-count.false c.in_ok-n.ensures.small.0
