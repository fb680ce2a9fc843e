use Rattle.std.proofs.Common.{refl}
use Rattle.run_answers.proofs.message.damaged.Goals as goal

pub returns-in-Path : goal.returns-in-Path
returns-in-Path c = rw (c.in-Path.is, c.related-in-Path.ensures, c.shown-in-Path.ensures, c.written.ensures) refl
