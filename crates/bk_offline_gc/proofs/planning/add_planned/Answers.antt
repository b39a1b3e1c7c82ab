use Rattle.std.proofs.Common.{Option, IfSome, subst}
use Rattle.std.proofs.lemmas.List.Elements.{All-push}
use Rattle.bk_offline_gc.specs.declared.planning.Fate.{Fate}
use Rattle.bk_offline_gc.specs.declared.planning.Planned.{Planned}
use Rattle.bk_offline_gc.specs.Planning.{HasFate, IsPlanned}
use Rattle.bk_offline_gc.proofs.planning.add_planned.Goals as goal

pub returns-in-Ok : goal.returns-in-Ok
returns-in-Ok g c = λ before.
    let fate = subst (λ (o : Option Fate). IfSome o (λ f. HasFate c.args.store.now c.args.threshold c.args.log f)) c.in-Some.is c.in_ok-fate_of.ensures in
    rw c.in-Ok.ensures.items (All-push (λ (p : Planned). IsPlanned c.args.store.now c.args.threshold p) c.args.planned.now.items
    (record { log = c.args.log; fate = c.in-Some.fate }) before fate)
