use Rattle.std.proofs.Common.{arith}
use Rattle.bk_hint.proofs.Decodings.{sum_fits, sum_differs}
use Rattle.bk_hint.proofs.reading.check_sum.Goals as goal

pub returns-clause-ok : goal.returns-clause-ok
returns-clause-ok c =
    let bytes = c.args.bytes.now in
    sum_fits bytes _ c.checksum_of-sum.result c.u32_at-stored.result (grind arith) c.checksum_of-sum.ensures c.u32_at-stored.ensures (grind arith)

pub returns-then-sum-stored-clause-err : goal.returns-then-sum-stored-clause-err
returns-then-sum-stored-clause-err c =
    let bytes = c.args.bytes.now in
    sum_differs bytes _ c.checksum_of-sum.result c.u32_at-stored.result (grind arith) c.checksum_of-sum.ensures c.u32_at-stored.ensures c.if-sum-stored.true
