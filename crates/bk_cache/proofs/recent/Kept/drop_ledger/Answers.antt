use Rattle.bk_cache.proofs.RecentPairs.{none_left, one_dropped, all_dropped}
use Rattle.bk_cache.proofs.recent.Kept.drop_ledger.Goals as goal

pub loop-entry-preserved-in-Some : goal.loop-entry-preserved-in-Some
loop-entry-preserved-in-Some c =
    let before = c.loop-entry.self-inside in
    one_dropped c.self.inside.entries before.entries c.pop.new.self before.pairs c.remove.new.self c.args.ledger c.in-Some.entry c.pop.ensures.entries
    c.len.ensures.valid.0 c.remove.ensures.updates c.loop-entry.invariant.0 c.loop-entry.invariant.1 c.loop-entry.invariant.2

pub loop-entry-preserved : goal.loop-entry-preserved
loop-entry-preserved c =
    let before = c.loop-entry.self-inside in
    one_dropped c.self.inside.entries before.entries c.pop.new.self before.pairs c.remove.new.self c.args.ledger c.in-Some.entry c.pop.ensures.entries
    c.len.ensures.valid.0 c.remove.ensures.updates c.loop-entry.invariant.0 c.loop-entry.invariant.1 c.loop-entry.invariant.2

-- the loop ends if no entry of the ledger is left
pub returns : goal.returns
returns c =
    let last = c.loop-entry.self-inside in
    all_dropped (λ p. p.value.items) c.self.inside.entries last.entries c.args.self.now c.args.ledger c.self.view_is
    (none_left c.args.ledger last.entries.entries last.pairs c.loop-entry.invariant.0 c.in_default.ensures.none)
    c.loop-entry.invariant.1 c.loop-entry.invariant.2
