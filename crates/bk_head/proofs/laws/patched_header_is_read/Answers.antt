use Rattle.bk_head.proofs.Again.{patched_again, old_patched_again}
use Rattle.bk_head.proofs.laws.patched_header_is_read.Goals as goal

pub returns-clause-patched : goal.returns-clause-patched
returns-clause-patched c = λ bytes header offset count is one _ _. patched_again bytes header offset count is one

pub returns-clause-old : goal.returns-clause-old
returns-clause-old c = old_patched_again
