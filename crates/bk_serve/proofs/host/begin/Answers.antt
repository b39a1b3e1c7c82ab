use Rattle.std.proofs.Common.{refl}
use Rattle.bk_serve.proofs.host.begin.Goals as goal

pub returns-in-Read-clause-some : goal.returns-in-Read-clause-some
returns-in-Read-clause-some g c = rw c.in-Read.is (λ t is. (c.begin_read.ensures t is, refl))

pub returns-in-ReadLast-clause-some : goal.returns-in-ReadLast-clause-some
returns-in-ReadLast-clause-some g c = rw c.in-ReadLast.is (λ t is. (c.begin_read_last.ensures t is, refl))

pub returns-in-ReadBack-clause-some : goal.returns-in-ReadBack-clause-some
returns-in-ReadBack-clause-some g c = rw c.in-ReadBack.is (λ t is. (c.begin_read_back.ensures t is, refl))
