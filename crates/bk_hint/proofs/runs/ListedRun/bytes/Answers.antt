use Rattle.std.proofs.Common.{sym}
use Rattle.bk_hint.proofs.Runwise.{run_bytes}
use Rattle.bk_hint.proofs.runs.ListedRun.bytes.Goals as goal

pub returns : goal.returns
returns c = rw (c.times.ensures, c.from.ensures) (sym (run_bytes c.args.self.now))
