use Rattle.bk_serve_core.proofs.Requests.{again, one}
use Rattle.bk_serve_core.proofs.laws.requests_have_one_encoding.Goals as goal

pub returns-clause-again : goal.returns-clause-again
returns-clause-again c = again

pub returns-clause-taken : goal.returns-clause-taken
returns-clause-taken c = one
