use Rattle.bk_store.specs.Logs.{view_of}
use Rattle.bk_store.proofs.PublishTransitions.{not_failed, show_ok}
use Rattle.bk_store.proofs.fields.Fields.publish_log.Goals as goal

pub returns-in-Ok-clause-transition : goal.returns-in-Ok-clause-transition
returns-in-Ok-clause-transition g c =
    show_ok _ c.args.self.now c.self.view_is c.args.log c.requires.may.open_is _ _ _ _
    (view_of g.D.View.LogView.bytes g.D.View.LogView.honest g.D.View.LogView.sound c.in-Ok.view.value)
    c.view_log.ensures.honest (not_failed c.in-Ok.ensures.cause (λ wrong. cc)) c.show.ensures c.in-Ok.ensures.transition
