use Rattle.call_text.proofs.Spelled.{first_token, token_first, none_none, none_first}
use Rattle.call_text.proofs.token_laws.longest_match.Goals as goal

pub returns-clause-token : goal.returns-clause-token
returns-clause-token c = λ bytes t after. (first_token bytes t after, token_first bytes t after)

pub returns-clause-none : goal.returns-clause-none
returns-clause-none c = λ bytes. (none_none bytes, none_first bytes)
