use Rattle.ice_schema.proofs.SizeLaws.{sizes_are_least}
use Rattle.ice_schema.proofs.sizes.decimal_sizes_are_least.Goals as goal

pub returns : goal.returns
returns c = sizes_are_least
