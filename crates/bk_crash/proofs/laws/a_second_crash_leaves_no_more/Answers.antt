use Rattle.bk_crash.proofs.Twice.{leave_again}
use Rattle.bk_crash.proofs.laws.a_second_crash_leaves_no_more.Goals as goal

pub returns : goal.returns
returns c = leave_again
