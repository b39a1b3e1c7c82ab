use Rattle.std.proofs.Common.{sym}
use Rattle.bk_cache.proofs.PagePairs.{seen_held, seen_absent}
use Rattle.bk_cache.proofs.page.Page.get.Goals as goal

pub returns-in-Ok : goal.returns-in-Ok
returns-in-Ok c =
    let here = rw c.deref.ensures.value at c.in-Ok.ensures.found in
    rw (← c.self.view_is) (sym (seen_held (λ p. p.value.items) _ c.self.invariant c.args.key.now c.in-Ok.place c.index.result.now here c.index.ensures))

pub returns-in-Err : goal.returns-in-Err
returns-in-Err c =
    let gap = rw c.deref.ensures.value at c.in-Err.ensures.absent in
    rw (← c.self.view_is) (sym (seen_absent (λ p. p.value.items) _ c.self.invariant c.args.key.now _ gap))
