use Rattle.std.proofs.Common.{IsTrue, sym, subst}
use Rattle.bk_store.specs.Transitions.{AddTransition}
use Rattle.bk_store.specs.Abstract.{AbstractAdd, StoreRefines}
use Rattle.bk_store.proofs.Refinement.{plain_add}
use Rattle.bk_store.proofs.laws.add_refines_abstract.Goals as goal

pub returns : goal.returns
returns c = λ s t p kind payload answer kept honest agrees turn.
    let keeps = kept.keeps in
    let turn' = subst (λ x. AddTransition x kind payload answer t) (sym kept.seen) turn in
    let done = plain_add kept.parts keeps (keeps.promises (subst (λ x. IsTrue x.honest) (sym kept.seen) honest)) p
    (subst (λ x. StoreRefines x p) (sym kept.seen) agrees)
    t kind payload answer turn' in
    (done.0, subst (λ x. AbstractAdd x.caches.limit kind p payload answer done.0) kept.seen done.1, done.2)
