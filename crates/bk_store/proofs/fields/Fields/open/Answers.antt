use Rattle.std.proofs.Common.{◌≡◌, IsTrue, IfErr, Err, refl, sym, ap, subst, ◌∙◌, arith}
use Rattle.std.proofs.lemmas.Result.{err_from_is_err_and}
use Rattle.bk_cache.specs.Caches.{new_caches}
use Rattle.bk_store.specs.Opening.{OpenFails}
use Rattle.bk_store.specs.Found.{AllDurable}
use Rattle.bk_store.proofs.RemovedFiles.{none_since}
use Rattle.bk_store.specs.declared.answer.OpenFault.TheVariants as open_faults
use Rattle.bk_store.proofs.OpenedInvariant.{taken_as, taken_unnamed, opened_keeps, opened_is, open_fails, listed_len}
use Rattle.bk_store.proofs.Seating.{seated_by}
use Rattle.bk_store.proofs.fields.Fields.open.Goals as goal

pub returns-then-len-slots-clause-fails : goal.returns-then-len-slots-clause-fails
returns-then-len-slots-clause-fails g c = λ honest.
    let allowed : IsTrue c.is_allowed.result = let told = c.if-not-is_allowed.false in cc in
    let many = listed_len (g.D.LogDisk.files c.args.disk) c.in_ok-ids.ids.items (c.in_ok-ids.ensures.transition honest).0 in
    (c.is_allowed.ensures.0 allowed, omega (arith, many, c.if-len-slots.true, c.len.ensures, c.in_ok-ids.ids.ok.0))

pub returns-in_err-next-clause-settings : goal.returns-in_err-next-clause-settings
returns-in_err-next-clause-settings g c =
    let allowed : IsTrue c.is_allowed.result = let told = c.if-not-is_allowed.false in cc in
    let told = err_from_is_err_and c.from_residual-in_err-next.result c.from_residual-in_err-next.ensures.1 in
    let is = told.1 ∙ ap Err told.2 in (
      λ wrong. absurd (c.in_err-next.ensures.never (let same = is in let other : c.from_residual-in_err-next.result ≡ Err open_faults.Settings = wrong in cc)),
      λ refused. absurd (refused (c.is_allowed.ensures.0 allowed)),
    )

pub returns-in_err-next-clause-fails : goal.returns-in_err-next-clause-fails
returns-in_err-next-clause-fails g c =
    let allowed : IsTrue c.is_allowed.result = let told = c.if-not-is_allowed.false in cc in
    let told = err_from_is_err_and c.from_residual-in_err-next.result c.from_residual-in_err-next.ensures.1 in
    subst (λ r. IfErr r (λ fault. IsTrue (g.D.LogDisk.honest c.args.disk) → OpenFails (g.D.LogDisk.files c.args.disk) c.args.settings fault))
    (sym (told.1 ∙ ap Err told.2))
    (λ honest.
    let turn = c.in_ok-ids.ensures.transition honest in
    let many = listed_len (g.D.LogDisk.files c.args.disk) c.in_ok-ids.ids.items turn.0 in
    open_fails (g.D.LogDisk.files c.args.disk) _ c.args.settings _ turn.1 (c.is_allowed.ensures.0 allowed)
    (omega (arith, many, c.if-len-slots.false, c.len.ensures, c.in_ok-ids.ids.ok.0)) (c.in_err-next.ensures.err (c.in_ok-ids.ensures.honest ∙ honest)))

pub name_all-requires : goal.name_all-requires
name_all-requires g c =
    taken_unnamed c.args.settings _ _ c.in_ok-dead.dead _ _ _ _
    (taken_as _ _ _ _ c.in_ok-dead.dead _ _ _ _ _ _ c.in_ok-next.ensures.ok c.new-tally.ensures c.new-logs.ensures refl (λ _. refl))

pub returns-clause-store_invariant : goal.returns-clause-store_invariant
returns-clause-store_invariant g c =
    let allowed : IsTrue c.is_allowed.result = let told = c.if-not-is_allowed.false in cc in
    let was = taken_as _ (g.D.LogDisk.honest c.args.disk) _ (g.D.LogDisk.files c.args.disk) c.in_ok-dead.dead _ _ _ _ _ _ c.in_ok-next.ensures.ok
    c.new-tally.ensures c.new-logs.ensures (sym c.in_ok-ids.ensures.honest) (λ is. sym (c.in_ok-ids.ensures.transition (sym c.in_ok-ids.ensures.honest ∙ is)).1) in
    opened_keeps c.args.settings (g.D.LogDisk.honest c.args.disk) (g.D.LogDisk.honest c.find_all.new.disk) (g.D.LogDisk.files c.args.disk)
    (g.D.LogDisk.files c.find_all.new.disk) (g.D.LogDisk.synced c.find_all.new.disk) (g.D.LogDisk.gone c.find_all.new.disk) (g.D.LogDisk.failures c.find_all.new.disk) c.in_ok-dead.dead _ c.in_ok-next.next c.find_all.new.tally
    c.find_all.new.logs was c.find_all.new.keeper (c.in_ok-next.ensures.honest ∙ c.in_ok-ids.ensures.honest)
    (λ is. c.in_ok-next.ensures.files (c.in_ok-ids.ensures.honest ∙ is) ∙ (c.in_ok-ids.ensures.transition is).1)
    (λ is. c.deref.ensures.value ∙ (c.in_ok-ids.ensures.transition is).0)
    c.in_ok-caches.caches c.new-3.result.places _ c.opened.result.known c.new-4.result.items
    (c.in_ok-caches.ensures.value ∙ ap (λ l. new_caches l c.args.settings.recent) c.from-2.ensures) c.new-3.ensures c.in_ok-index.ensures c.opened.ensures c.new-4.ensures.items
    (c.is_allowed.ensures.0 allowed)
    (seated_by c.args.settings c.in_ok-keeper.keeper c.find_all.new.keeper c.find_all.new.logs c.in_ok-keeper.ensures.free
    (c.in_ok-keeper.ensures.most ∙ c.from.ensures) c.in_ok-next.ensures.keeper c.in_ok-next.ensures.seated)
    (λ is.
    let was = sym c.in_ok-next.ensures.honest ∙ is in
    subst (λ fs. AllDurable fs (g.D.LogDisk.synced c.find_all.new.disk) c.deref.result.now) (sym (c.in_ok-next.ensures.files was)) (c.in_ok-next.ensures.synced was))
    (λ is.
    let was = sym c.in_ok-next.ensures.honest ∙ is in
    none_since (c.in_ok-next.ensures.durable was) (c.in_ok-ids.ensures.back (sym c.in_ok-ids.ensures.honest ∙ was)))

pub returns-clause-opened : goal.returns-clause-opened
returns-clause-opened g c =
    let was = taken_as _ (g.D.LogDisk.honest c.args.disk) _ (g.D.LogDisk.files c.args.disk) c.in_ok-dead.dead _ _ _ _ _ _ c.in_ok-next.ensures.ok
    c.new-tally.ensures c.new-logs.ensures (sym c.in_ok-ids.ensures.honest) (λ is. sym (c.in_ok-ids.ensures.transition (sym c.in_ok-ids.ensures.honest ∙ is)).1) in
    opened_is c.args.settings (g.D.LogDisk.honest c.args.disk) (g.D.LogDisk.honest c.find_all.new.disk) (g.D.LogDisk.files c.args.disk)
    (g.D.LogDisk.files c.find_all.new.disk) (g.D.LogDisk.synced c.find_all.new.disk) (g.D.LogDisk.gone c.find_all.new.disk) (g.D.LogDisk.failures c.find_all.new.disk) c.in_ok-dead.dead _ c.in_ok-next.next c.find_all.new.tally
    c.find_all.new.logs was c.find_all.new.keeper (c.in_ok-next.ensures.honest ∙ c.in_ok-ids.ensures.honest)
    (λ is. c.in_ok-next.ensures.files (c.in_ok-ids.ensures.honest ∙ is) ∙ (c.in_ok-ids.ensures.transition is).1)
    (λ is. c.deref.ensures.value ∙ (c.in_ok-ids.ensures.transition is).0)
    c.in_ok-caches.caches c.new-3.result.places _ c.opened.result.known c.new-4.result.items
    (c.in_ok-caches.ensures.value ∙ ap (λ l. new_caches l c.args.settings.recent) c.from-2.ensures) c.new-3.ensures c.in_ok-index.ensures c.opened.ensures c.new-4.ensures.items
    c.args.dead.now c.in_ok-dead.ensures
