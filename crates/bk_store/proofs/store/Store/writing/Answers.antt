use Rattle.std.proofs.Common.{◌≡◌, ℕ, Option, Some, None, sym, ap, subst}
use Rattle.bk_store.specs.State.{StoreParts}
use Rattle.bk_store.specs.Invariant.{StoreInvariant}
use Rattle.bk_store.specs.Primitives.{IsWritingLog}
use Rattle.bk_store.proofs.store.Store.writing.Goals as goal

writing_is : (p : StoreParts) → StoreInvariant p → (w : Option ℕ) → p.writing ≡ w → IsWritingLog p.state w
writing_is p keeps None none = λ id is. let there : p.writing ≡ Some id = (keeps.fits.logs.writing id).1 (is.log, is.held, is.state_is) in cc
writing_is p keeps (Some id) there =
    let now = (keeps.fits.logs.writing id).0 there in (
      record { log = now.0; held = now.1; state_is = now.2 },
      (λ other is. let same : p.writing ≡ Some other = (keeps.fits.logs.writing other).1 (is.log, is.held, is.state_is) in cc),
    )

pub returns : goal.returns
returns g c =
    subst (λ s. IsWritingLog s c.self-inside.inside.0.0.writing) c.self.view_is
    (writing_is c.self.inside.fields c.self.invariant _ (sym (ap (λ x. x.fields.writing) c.self-inside.view_is)))
