use Rattle.std.proofs.Common.{IsTrue, sym, subst}
use Rattle.bk_store.specs.Transitions.{TakeTransition}
use Rattle.bk_store.specs.Abstract.{StoreRefines}
use Rattle.bk_store.proofs.Refinement.{plain_take}
use Rattle.bk_store.proofs.laws.take_refines_abstract.Goals as goal

pub returns : goal.returns
returns g c = λ s t p key answer kept truth agrees turn.
    let keeps = kept.keeps in
    plain_take kept.parts keeps (keeps.promises (subst (λ x. IsTrue x.honest) (sym kept.seen) truth)) p (subst (λ x. StoreRefines x p) (sym kept.seen) agrees)
    g.V.LogView.bytes g.V.LogView.honest g.V.LogView.sound key answer t
    (subst (λ x. TakeTransition g.V.LogView.bytes g.V.LogView.honest g.V.LogView.sound x key answer t) (sym kept.seen) turn)
