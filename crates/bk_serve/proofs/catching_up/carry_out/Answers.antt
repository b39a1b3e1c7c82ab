use Rattle.std.proofs.Common.{◌∙◌, true, false, sym}
use Rattle.bk_manifest.specs.State.{the_deletion, the_fence}
use Rattle.bk_serve.proofs.CatchUp.{noted, deleted, fenced}
use Rattle.bk_serve.proofs.catching_up.carry_out.Goals as goal

pub returns-in-Ok : goal.returns-in-Ok
returns-in-Ok g c =
    deleted c.args.ledger c.in-Ok.field-0 _ _ c.args.notes.now c.in-Ok.ensures
    (noted c.args.notes.now c.state.result.now (the_deletion c.args.ledger) true c.state.ensures (sym c.if-is_deleted.true ∙ c.is_deleted.ensures))

pub returns-in-Ok-fence : goal.returns-in-Ok-fence
returns-in-Ok-fence g c =
    fenced c.args.ledger c.in-Ok-fence.field-0 _ _ c.args.notes.now c.in-Ok-fence.ensures
    (noted c.args.notes.now c.state-2.result.now (the_fence c.args.ledger) true c.state-2.ensures (sym c.if-is_fenced.true ∙ c.is_fenced.ensures))
    (noted c.args.notes.now c.state.result.now (the_deletion c.args.ledger) false c.state.ensures (sym c.if-is_deleted.false ∙ c.is_deleted.ensures))
