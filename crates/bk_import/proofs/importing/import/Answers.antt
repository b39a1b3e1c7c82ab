use Rattle.bk_import.proofs.Gaining.{opened_imports}
use Rattle.bk_import.proofs.importing.import.Goals as goal

pub returns-clause-imports : goal.returns-clause-imports
returns-clause-imports g c =
    opened_imports (g.D.LogDisk.honest c.args.disk) (g.D.LogDisk.files c.args.disk) c.args.settings c.args.dead.now c.in_ok-store.store c.import_into.new.store
    (g.R.Read.remaining c.args.reader.now) c.in_ok-store.ensures.honest c.in_ok-store.ensures.opened
    c.in_ok-imported.ensures.imports
