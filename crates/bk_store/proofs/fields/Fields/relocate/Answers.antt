use Rattle.std.proofs.Common.{◌+◌, ◌<◌, ◌^◌, Some, IfSome, refl, sym, ap, subst, ◌∙◌}
use Rattle.std.specs.FinMap as finite
use Rattle.bk_accounts.specs.Book.{named_in, after_unname}
use Rattle.bk_store.specs.Invariant.{StoreInvariant}
use Rattle.bk_store.proofs.Named.{unname_fits, name_fits}
use Rattle.bk_store.proofs.fields.Fields.relocate.Goals as goal

pub unname-requires : goal.unname-requires
unname-requires g c =
    subst (λ n. IfSome (named_in c.self.inside.accounts n) (λ named. 0 < named)) (sym c.log.ensures.value)
    (unname_fits _ (subst StoreInvariant (sym c.self.view_is) c.requires.keeps) c.args.key c.args.from (c.if-not-replace_if.ensures.condition.0 refl))

pub name-requires : goal.name-requires
name-requires g c =
    let keeps = subst StoreInvariant (sym c.self.view_is) c.requires.keeps in
    let few : finite.len (finite.insert c.self.inside.index c.args.key c.args.to) < 2 ^ 64 =
    subst (λ n. n < 2 ^ 64) (c.len-keys.ensures ∙ ap finite.len c.if-not-replace_if.ensures.replaced) c.len-keys.type_inv in
    subst (λ n. IfSome (named_in c.unname.new.self n) (λ named. named + 1 < 2 ^ 64)) (sym c.log-2.ensures.value)
    (subst (λ b. IfSome (named_in b c.args.to.log) (λ named. named + 1 < 2 ^ 64))
    (sym (c.unname.ensures ∙ ap (after_unname c.self.inside.accounts) c.log.ensures.value))
    (name_fits _ keeps c.args.key c.args.to (Some c.args.from) (c.if-not-replace_if.ensures.condition.0 refl) few))
