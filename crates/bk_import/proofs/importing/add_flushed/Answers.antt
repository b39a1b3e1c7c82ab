use Rattle.std.proofs.Common.{◌∷◌, [], ◌∙◌}
use Rattle.bk_import.proofs.Adding.{add_gains, gains_after}
use Rattle.bk_import.proofs.importing.add_flushed.Goals as goal

pub returns-clause-gains : goal.returns-clause-gains
returns-clause-gains g c = λ honest.
    let stays = c.in_ok-flush.ensures.frame in
    gains_after c.args.store.now c.flush.new.store c.add.new.self (c.args.payload.now ∷ []) (stays.meaning honest)
    (add_gains c.flush.new.store c.add.new.self c.args.payload.now c.in_ok-add.field-0 c.reveal_invariant.ensures (stays.honest ∙ honest) c.in_ok-add.ensures)
