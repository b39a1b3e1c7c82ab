use Rattle.std.proofs.Common.{Ok, subst}
use Rattle.bk_compact.specs.Compacting.{EndCopyTransition}
use Rattle.bk_compact.specs.declared.answer.EndAnswer.{EndAnswer}
use Rattle.bk_offline_gc.proofs.Moving.{end_switches}
use Rattle.bk_offline_gc.proofs.compacting.publish.Goals as goal

pub returns-in-Ended-clause-ok : goal.returns-in-Ended-clause-ok
returns-in-Ended-clause-ok g c =
    let s = c.args.store.now in
    let t = c.end_copy.new.store in
    let turn = subst (λ (r : EndAnswer). EndCopyTransition s (Ok r) t) c.in-Ended.is c.in_ok-end_copy.ensures.transition in
    end_switches s t c.requires c.in-Ended.field-0 turn
