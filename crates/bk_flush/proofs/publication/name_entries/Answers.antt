use Rattle.std.proofs.Common.{arith}
use Rattle.bk_flush.proofs.NamedEntries.{may_name, name_more}
use Rattle.bk_flush.proofs.publication.name_entries.Goals as goal

pub index_placed-requires-after_bounds : goal.index_placed-requires-after_bounds
index_placed-requires-after_bounds g c κs within =
    may_name c.args.store.now c.loop-number.store c.loop-number.number c.loop-number.invariant c.requires
    (let below = c.loop-number-test.true in let end = c.placed_len-number-end.ensures in omega (arith, below, end))

pub loop-number-preserved : goal.loop-number-preserved
loop-number-preserved g c =
    name_more c.args.store.now c.loop-number.store c.loop-number.number c.loop-number.invariant c.index_placed.new.self
    c.in-Ok.ensures.transition c.in-Ok.ensures.contents
