use Rattle.bk_store.proofs.CrashOpened.{reopened}
use Rattle.bk_crash.proofs.laws.a_crash_loses_nothing.Goals as goal

pub returns : goal.returns
returns c = reopened
