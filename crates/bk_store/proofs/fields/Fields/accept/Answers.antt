use Rattle.std.proofs.Common.{Ok, sym, ap, subst, ◌∙◌}
use Rattle.bk_cache.specs.Transitions.{CacheAddTransition}
use Rattle.bk_cache.specs.declared.cache_add.CacheAdd.TheVariants.{Taken}
use Rattle.bk_store.specs.Ledgers.{receipt_of, with_add}
use Rattle.bk_store.specs.Transitions.{AddTransition}
use Rattle.bk_store.specs.declared.answer.Added.TheVariants.{Accepted}
use Rattle.bk_store.proofs.TakenEntry.{taken_is_added}
use Rattle.bk_store.proofs.fields.Fields.accept.Goals as goal

pub returns-in-Ok-Taken-clause-transition : goal.returns-in-Ok-Taken-clause-transition
returns-in-Ok-Taken-clause-transition g c =
    let key = c.args.key in
    let payload = c.args.payload.value.items in
    let old = c.args.self.now in
    let known = c.ready.ensures.same ∙ ap (λ f. f.state.ledgers) c.self.view_is in
    let made = taken_is_added old.state c.put.new.self c.accept.new.self.known c.args.kind key payload c.accept.result
    c.requires.reads c.requires.lives c.requires.unbarred c.requires.unnamed
    (subst (λ f. CacheAddTransition f.state.caches key payload (Ok Taken) c.put.new.self) c.self.view_is
    (subst (λ r. CacheAddTransition c.self.inside.caches key payload (Ok r) c.put.new.self) c.in-Ok-Taken.field-0-is c.in-Ok-Taken.ensures.transition))
    (c.accept.ensures.receipt payload c.requires.digested ∙ ap (λ l. receipt_of l.trail key payload) known)
    (c.accept.ensures.known payload c.requires.digested ∙ ap (λ l. with_add l key payload) known) in
    subst (λ f. AddTransition old.state c.args.kind payload (Ok (Accepted c.accept.result)) (record f.state { caches = c.put.new.self; ledgers = c.accept.new.self.known }))
    (sym c.self.view_is) made
