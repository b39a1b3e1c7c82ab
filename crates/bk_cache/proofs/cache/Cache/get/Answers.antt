use Rattle.std.proofs.Common.{sym, ◌∙◌, ◌≡◌, Ok}
use Rattle.bk_record.specs.Record.{read_added}
use Rattle.bk_cache.proofs.Options.{IfSome-from_map}
use Rattle.bk_cache.proofs.KeptPairs.{get_is}
use Rattle.bk_cache.proofs.cache.Cache.get.Goals as goal

pub returns-clause-value : goal.returns-clause-value
returns-clause-value c =
    c.get.ensures ∙ sym (get_is c.self.inside.rows c.self.inside.len c.self.inside.used c.self.invariant c.args.self.now c.self.view_is c.args.key.now)

pub returns-clause-keyed : goal.returns-clause-keyed
returns-clause-keyed c = IfSome-from_map _ (λ bytes. read_added bytes ≡ Ok c.args.key.now) c.get.result _ c.get.ensures
    (λ bytes is. c.self.invariant.keyed c.args.key.now bytes is)
