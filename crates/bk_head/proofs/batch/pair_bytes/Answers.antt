use Rattle.std.proofs.Common.{refl}
use Rattle.bk_head.specs.Ledgers.{pair_bytes}
use Rattle.bk_head.proofs.batch.pair_bytes.Goals as goal

pub returns : goal.returns
unfolding pair_bytes
returns c = rw (c.write_u64-2.ensures, c.write_u64.ensures) refl
