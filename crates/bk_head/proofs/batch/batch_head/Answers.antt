use Rattle.std.proofs.Common.{refl}
use Rattle.bk_head.specs.Ledgers.{batch_ids}
use Rattle.bk_head.specs.Parts.{batch_head}
use Rattle.bk_head.proofs.batch.batch_head.Goals as goal

pub returns : goal.returns
unfolding batch_head batch_ids
returns c = rw (c.write_u32-2.ensures, c.copy_from_slice.ensures.after, c.batch_ids.ensures, c.write_u32.ensures) refl
