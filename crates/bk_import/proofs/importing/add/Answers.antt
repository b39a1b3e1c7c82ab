use Rattle.bk_import.proofs.Adding.{add_gains}
use Rattle.bk_import.proofs.importing.add.Goals as goal

pub returns-in-Ok-clause-gains : goal.returns-in-Ok-clause-gains
returns-in-Ok-clause-gains g c = λ honest.
    add_gains c.args.store.now c.add.new.self c.args.payload.now c.in-Ok.added c.reveal_invariant.ensures honest c.in-Ok.ensures
