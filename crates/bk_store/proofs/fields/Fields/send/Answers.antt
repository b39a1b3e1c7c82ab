use Rattle.std.proofs.Common.{◌≡◌, ◌<◌, ◌+◌, ◌^◌, Option, Some, None, IfSome, sym, ap, subst, ◌∙◌}
use Rattle.std.specs.FinMap as finite
use Rattle.bk_record.specs.Location.{Place}
use Rattle.bk_accounts.specs.Book.{named_in, after_unname}
use Rattle.bk_store.specs.Invariant.{StoreInvariant}
use Rattle.bk_store.proofs.Named.{unname_fits, unnamed, name_fits}
use Rattle.bk_store.proofs.fields.Fields.send.Goals as goal
use Rattle.bk_store.proofs.fields.Fields.send.Goals.{in-Some, in_default}

pub unname-requires : goal.unname-requires
unname-requires g c =
    subst (λ n. IfSome (named_in c.self.inside.accounts n) (λ named. 0 < named)) (sym c.log.ensures.value)
    (unname_fits _ (subst StoreInvariant (sym c.self.view_is) c.requires) c.args.key c.in-Some.before (sym c.in_ok-before.ensures.before ∙ c.in-Some.is))

pub name-requires : goal.name-requires
name-requires g c =
    let keeps = subst StoreInvariant (sym c.self.view_is) c.requires in
    let few : finite.len (finite.insert c.self.inside.index c.args.key c.args.place) < 2 ^ 64 =
    subst (λ n. n < 2 ^ 64) (c.len-keys.ensures ∙ ap finite.len c.in_ok-before.ensures.ok) c.len-keys.type_inv in
    let owed : (was : Option Place) → finite.get c.self.inside.index c.args.key ≡ was
    → IfSome (named_in (unnamed c.self.inside.accounts was) c.args.place.log) (λ n. n + 1 < 2 ^ 64) =
    λ was is. name_fits _ keeps c.args.key c.args.place was is few in
    subst (λ n. IfSome (named_in c.match-before.self-inside.accounts n) (λ named. named + 1 < 2 ^ 64)) (sym c.log-2.ensures.value)
    (elim c.match-before.branch [
      | in-Some w ↦ subst (λ b. IfSome (named_in b c.args.place.log) (λ named. named + 1 < 2 ^ 64))
          (sym (ap (λ i. i.accounts) w.self-inside-is ∙ w.unname.ensures ∙ ap (after_unname c.self.inside.accounts) w.log.ensures.value))
          (owed (Some w.in-Some.before) (sym c.in_ok-before.ensures.before ∙ w.in-Some.is))
      | in_default w ↦ subst (λ b. IfSome (named_in b c.args.place.log) (λ named. named + 1 < 2 ^ 64))
          (sym (ap (λ i. i.accounts) w.self-inside-is)) (owed None (sym c.in_ok-before.ensures.before ∙ w.in_default.is))
    ])
