use Rattle.std.proofs.Common.{sym, ap, ◌∙◌}
use Rattle.bk_cache.specs.Caches.{first_after}
use Rattle.bk_cache.proofs.Options.{IfSome-from_map}
use Rattle.bk_cache.proofs.FirstAfter.{first_of_all, first_behind, first_after_keyed}
use Rattle.bk_cache.proofs.cache.Cache.first_after_near.Goals as goal

-- after a key
pub returns-in-Some-clause-value : goal.returns-in-Some-clause-value
returns-in-Some-clause-value c =
    c.first_after.ensures ∙ first_behind c.self.inside.rows c.self.inside.len c.self.inside.used c.self.invariant c.args.self.now c.self.view_is c.in-Some.key
    ∙ ap (λ key. first_after key c.args.self.now) (sym c.in-Some.is)

pub returns-in-Some-clause-keyed : goal.returns-in-Some-clause-keyed
returns-in-Some-clause-keyed c = IfSome-from_map _ _ c.first_after.result _ (returns-in-Some-clause-value c)
    (first_after_keyed c.self.inside.rows c.self.inside.len c.self.inside.used c.self.invariant c.args.self.now c.self.view_is c.args.key)

-- without a key
pub returns-in-None-clause-value : goal.returns-in-None-clause-value
returns-in-None-clause-value c =
    c.first.ensures ∙ first_of_all c.self.inside.rows c.self.inside.len c.self.inside.used c.self.invariant c.args.self.now c.self.view_is
    ∙ ap (λ key. first_after key c.args.self.now) (sym c.in-None.is)

pub returns-in-None-clause-keyed : goal.returns-in-None-clause-keyed
returns-in-None-clause-keyed c = IfSome-from_map _ _ c.first.result _ (returns-in-None-clause-value c)
    (first_after_keyed c.self.inside.rows c.self.inside.len c.self.inside.used c.self.invariant c.args.self.now c.self.view_is c.args.key)
