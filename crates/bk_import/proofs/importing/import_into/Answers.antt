use Rattle.bk_store.proofs.SameContents.{stays_on}
use Rattle.bk_import.proofs.Flushing.{stays_flushed}
use Rattle.bk_import.proofs.Gaining.{imports_then}
use Rattle.bk_import.proofs.importing.import_into.Goals as goal

pub returns-clause-imports : goal.returns-clause-imports
returns-clause-imports g c =
    imports_then c.args.store.now c.add_all.new.store c.seal.new.store (g.R.Read.remaining c.args.reader.now)
    c.in_ok-imported.ensures.imports c.in_ok-imported.ensures.honest
    (stays_on c.add_all.new.store c.flush.new.store c.seal.new.store c.in_ok-flush.ensures.frame c.in_ok-seal.ensures.frame)

pub returns-clause-published : goal.returns-clause-published
returns-clause-published g c =
    stays_flushed c.flush.new.store c.seal.new.store c.in_ok-flush.ensures.published c.in_ok-seal.ensures.caches.active c.in_ok-seal.ensures.caches.flush
