use Rattle.std.proofs.Common.{sym, subst, ◌∙◌}
use Rattle.bk_cache.specs.Caches.{AllKeyed}
use Rattle.bk_cache.proofs.KeptPairs.{entries_are, keyed_kept}
use Rattle.bk_cache.proofs.cache.Cache.walk.Goals as goal

pub returns-clause-items : goal.returns-clause-items
returns-clause-items c =
    c.walk.ensures ∙ sym (entries_are c.self.inside.rows c.self.inside.len c.self.inside.used c.self.invariant c.args.self.now c.self.view_is)

pub returns-clause-keyed : goal.returns-clause-keyed
returns-clause-keyed c = subst AllKeyed c.self.view_is (keyed_kept c.self.inside.rows c.self.inside.len c.self.inside.used c.self.invariant)
