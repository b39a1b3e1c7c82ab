use Rattle.std.proofs.Common.{arith}
use Rattle.bk_cache.proofs.KeptPairs.{len_is, many}
use Rattle.bk_cache.proofs.cache.Cache.len.Goals as goal

pub returns-clause-count : goal.returns-clause-count
returns-clause-count c = len_is c.self.inside.rows c.self.inside.len c.self.inside.used c.self.invariant c.args.self.now c.self.view_is

pub returns-clause-bound : goal.returns-clause-bound
returns-clause-bound c = omega (arith, many c.self.inside.rows c.self.inside.len c.self.inside.used c.self.invariant)
