use Rattle.std.proofs.Common.{◌<◌, List, sym, subst, arith}
use Rattle.std.specs.List.{All}
use Rattle.std.proofs.lemmas.List.Elements.{All-cons}
use Rattle.bk_record.specs.Key.{EntryKey}
use Rattle.bk_record.specs.Location.{Place}
use Rattle.bk_load.proofs.before.free_ledger.Goals as goal

pub loop-key-preserved : goal.loop-key-preserved
loop-key-preserved c = λ m above rest.
    let below : EntryKey × Place → Type 0 = λ e. e.0.ledger < m in
    let here : c.in-Some.key.ledger < m = omega (arith, above, c.past-free.ensures.past, c.ledger.ensures.value) in
    c.loop-key.invariant m (omega (arith, above, c.past-free.ensures.above))
    (subst (λ (l : List (EntryKey × Place)). All below l) (sym c.in-Some.ensures.steps)
    (All-cons below (c.in-Some.key, c.in-Some.field-0-1) c.next.new.self here rest))
