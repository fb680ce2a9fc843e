use Rattle.std.proofs.Common.{refl}
use Rattle.run_answers.proofs.message.pieces_of.Goals as goal

pub returns-in-BadStatement : goal.returns-in-BadStatement
returns-in-BadStatement c = rw (c.in-BadStatement.is, c.statement.ensures, c.number.ensures) refl

pub returns-in-BadArgument : goal.returns-in-BadArgument
returns-in-BadArgument c = rw (c.in-BadArgument.is, c.statement-in-BadArgument.ensures, c.written.ensures) refl

pub returns-in-NotAncestor : goal.returns-in-NotAncestor
returns-in-NotAncestor c = rw (c.in-NotAncestor.is, c.snapshot.ensures, c.id_or_none.ensures) refl

pub returns-in-StillReferenced : goal.returns-in-StillReferenced
returns-in-StillReferenced c = rw (c.in-StillReferenced.is, c.snapshot-in-StillReferenced.ensures, c.written-in-StillReferenced.ensures) refl
