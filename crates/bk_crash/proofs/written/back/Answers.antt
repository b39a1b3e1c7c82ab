use Rattle.std.proofs.Common.{sym, subst}
use Rattle.bk_store.specs.Crash.{IsCut}
use Rattle.bk_crash.proofs.Leaving.{cut_of_take}
use Rattle.bk_crash.proofs.written.back.Goals as goal

pub returns-in_ok-beginning : goal.returns-in_ok-beginning
returns-in_ok-beginning g c =
    let first = c.in_ok-beginning.ensures in
    subst (IsCut c.args.file.now) (sym first.2) (cut_of_take first.0 c.args.file.now)
