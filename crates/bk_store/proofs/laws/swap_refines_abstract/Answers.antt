use Rattle.std.proofs.Common.{IsTrue, sym, subst}
use Rattle.bk_store.specs.Transitions.{SwapTransition}
use Rattle.bk_store.specs.Abstract.{StoreRefines}
use Rattle.bk_store.proofs.Refinement.{plain_swap}
use Rattle.bk_store.proofs.laws.swap_refines_abstract.Goals as goal

pub returns : goal.returns
returns c = λ s t p answer kept honest agrees turn.
    let keeps = kept.keeps in
    plain_swap kept.parts keeps (keeps.promises (subst (λ x. IsTrue x.honest) (sym kept.seen) honest)) p (subst (λ x. StoreRefines x p) (sym kept.seen) agrees)
    t answer (subst (λ x. SwapTransition x answer t) (sym kept.seen) turn)
