use Rattle.std.proofs.Common.{sym}
use Rattle.bk_cache.proofs.KeptPairs.{used_is}
use Rattle.bk_cache.proofs.cache.Cache.used.Goals as goal

pub returns : goal.returns
returns c = sym (used_is c.self.inside.rows c.self.inside.len c.self.inside.used c.self.invariant c.args.self.now c.self.view_is)
