use Rattle.call_text.proofs.Found.{found_token, found_none}
use Rattle.call_text.proofs.next.next_token.Goals as goal

pub returns-clause-token : goal.returns-clause-token
returns-clause-token c = found_token c.args.bytes.now c.cut_token.result c.cut_token.ensures

pub returns-clause-none : goal.returns-clause-none
returns-clause-none c = found_none c.args.bytes.now c.cut_token.result c.cut_token.ensures
