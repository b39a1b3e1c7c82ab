use Rattle.std.proofs.Common.{sym, ap, take, ◌∙◌}
use Rattle.bk_crash.specs.Leaving.{HasSynced}
use Rattle.bk_crash.proofs.Leaving.{begun_left, has_synced, has_nothing}
use Rattle.bk_crash.proofs.written_log.WrittenLog.left.Goals as goal
use Rattle.bk_crash.proofs.written_log.WrittenLog.left.Goals.{in-Some, in-None-2}

pub returns : goal.returns
returns g c =
    let log = c.args.self.now in
    let least = c.match-self.least in
    let own = ap (λ l. l.synced) c.self.view_is in
    let has : HasSynced log.synced log.bytes (take least log.bytes) = elim c.match-self.branch [
      | in-Some w ↦ has_synced log.synced least w.in-Some.synced log.bytes (sym own ∙ w.in-Some.is) w.least-is
      | in-None-2 w ↦ has_nothing log.synced log.bytes (take least log.bytes) (sym own ∙ w.in-None-2.is)
    ] in
    begun_left log least _ has c.in_ok-begun.ensures
