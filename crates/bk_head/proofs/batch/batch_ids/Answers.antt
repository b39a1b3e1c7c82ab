use Rattle.std.proofs.Common.{refl}
use Rattle.bk_head.specs.Ledgers.{batch_ids}
use Rattle.bk_head.proofs.batch.batch_ids.Goals as goal

pub returns : goal.returns
unfolding batch_ids
returns c = rw (c.write_i64-2.ensures, c.write_i64.ensures) refl
