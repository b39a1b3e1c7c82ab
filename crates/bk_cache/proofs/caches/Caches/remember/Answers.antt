use Rattle.std.proofs.Common.{ap}
use Rattle.bk_cache.proofs.CallerLaws.{IfSome-recent_of_changed}
use Rattle.bk_cache.proofs.caches.Caches.remember.Goals as goal

pub returns-clause-only : goal.returns-clause-only
returns-clause-only c q =
    rw (ap (λ s. s.recent) c.self.view_is) at
    (IfSome-recent_of_changed c.self.inside.recent c.remember.new.self c.args.key c.args.payload.value.items c.remember.ensures.recent q)
