use Rattle.std.proofs.Common.{◌≡◌, ℕ, List, ap, sym, subst, ◌∙◌}
use Rattle.bk_deleted.specs.Deleting.{Extends}
use Rattle.bk_deleted.proofs.Growing.{longer_still}
use Rattle.bk_deleted.proofs.deleted.deleted_in.Goals as goal
use Rattle.bk_deleted.proofs.deleted.deleted_in.Goals.{then-has_live+in_ok-live+in_ok-add_others, else-has_live}

pub returns-clause-named : goal.returns-clause-named
returns-clause-named g c =
    let dead : c.in_ok-named.named.items ≡ c.args.ask.now.dead.items = c.in_ok-named.ensures.items ∙ c.deref.ensures.value in
    let read : Extends c.args.ask.now.dead.items c.loop-file.named.items =
    subst (λ (items : List ℕ). Extends items c.loop-file.named.items) dead c.loop-file.invariant.named in
    elim c.if-has_live.branch [
      | then-has_live+in_ok-live+in_ok-add_others w ↦
          longer_still _ _ _ read (subst (λ (items : List ℕ). Extends c.loop-file.named.items items) (sym (ap (λ v. v.items) w.named-is)) w.in_ok-add_others.ensures)
      | else-has_live w ↦ subst (λ (items : List ℕ). Extends c.args.ask.now.dead.items items) (sym (ap (λ v. v.items) w.named-is)) read
    ]
