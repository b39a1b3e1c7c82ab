use Rattle.std.proofs.Common.{IfSome, subst}
use Rattle.bk_store.specs.Logs.{IsFlushLog}
use Rattle.bk_store.specs.State.{State}
use Rattle.bk_store.proofs.IndexedEntry.{place_flushed}
use Rattle.bk_store.proofs.store.Store.placed.Goals as goal

pub returns-clause-log : goal.returns-clause-log
returns-clause-log g c =
    subst (λ (s : State). IfSome c.placed.result (λ e. IsFlushLog s.logs e.1.log)) c.self.view_is
    (place_flushed c.self.inside.fields c.self.invariant c.args.number c.placed.result c.placed.ensures)
