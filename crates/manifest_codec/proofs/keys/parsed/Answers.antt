use Rattle.manifest_codec.proofs.Numbers.{parsed_ok, parsed_err}
use Rattle.manifest_codec.proofs.keys.parsed.Goals as goal

pub returns-in-Ok : goal.returns-in-Ok
returns-in-Ok c = parsed_ok c.args.text.now c.parse.result c.in-Ok.number c.parse.ensures.value.0 c.in-Ok.is

pub returns-in-Err : goal.returns-in-Err
returns-in-Err c = parsed_err c.args.text.now c.parse.result c.in-Err.field-0 c.parse.ensures.value.0 c.in-Err.is
