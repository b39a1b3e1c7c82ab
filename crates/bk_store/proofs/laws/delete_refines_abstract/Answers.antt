use Rattle.std.proofs.Common.{IsTrue, sym, subst}
use Rattle.bk_cache.specs.Caches.{AreApart}
use Rattle.bk_store.specs.Transitions.{DeleteTransition}
use Rattle.bk_store.specs.Abstract.{StoreRefines}
use Rattle.bk_store.proofs.Refinement.{plain_delete}
use Rattle.bk_store.proofs.laws.delete_refines_abstract.Goals as goal

pub returns : goal.returns
returns c = λ s t p ledger answer kept honest agrees turn.
    let keeps = kept.keeps in
    plain_delete kept.parts keeps (keeps.promises (subst (λ x. IsTrue x.honest) (sym kept.seen) honest)) p
    (subst (λ x. StoreRefines x p) (sym kept.seen) agrees)
    (subst (λ x. AreApart x.caches) (sym kept.seen) kept.apart) t ledger answer (subst (λ x. DeleteTransition x ledger answer t) (sym kept.seen) turn)
