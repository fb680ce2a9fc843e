use Rattle.ice_schema.proofs.SizeLaws.{size_in_table, size_beyond}
use Rattle.ice_schema.proofs.sizes.decimal_size.Goals as goal

pub returns-then-digits-lt39 : goal.returns-then-digits-lt39
returns-then-digits-lt39 c = size_in_table c.args.digits c.if-digits-lt39.true

pub returns-else-digits-lt39 : goal.returns-else-digits-lt39
returns-else-digits-lt39 c = size_beyond c.args.digits c.if-digits-lt39.false
