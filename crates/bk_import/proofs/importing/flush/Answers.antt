use Rattle.bk_cache.specs.declared.swap.Swap.TheVariants.{Swapped}
use Rattle.bk_store.proofs.SameContents.{stays_on}
use Rattle.bk_import.proofs.Flushing.{swap_preserves, swapped_flushed, nothing_flushed}
use Rattle.bk_import.proofs.importing.flush.Goals as goal

pub returns-in-Swapped-clause-frame : goal.returns-in-Swapped-clause-frame
returns-in-Swapped-clause-frame g c =
    stays_on c.args.store.now c.swap.new.store c.write_all.new.store
    (swap_preserves c.args.store.now c.swap.new.store (Swapped c.in-Swapped.entries) c.in-Swapped.ensures.transition) c.write_all.ensures.frame

pub returns-in-Swapped-clause-published : goal.returns-in-Swapped-clause-published
returns-in-Swapped-clause-published g c =
    swapped_flushed c.args.store.now c.swap.new.store c.write_all.new.store c.in-Swapped.entries c.write_all.result c.in-Swapped.ensures.transition
    c.write_all.ensures.active c.write_all.ensures.published

pub returns-in-Nothing-clause-published : goal.returns-in-Nothing-clause-published
returns-in-Nothing-clause-published g c = nothing_flushed c.args.store.now c.swap.new.store c.in-Nothing.ensures.transition
