use Rattle.std.proofs.Common.{◌∙◌, ℕ, List, inl, inr, refl, subst}
use Rattle.bk_serve_core.specs.Replies.{told}
use Rattle.bk_serve.specs.Adds.{AddsEntry}
use Rattle.bk_serve.proofs.adding.add_content.Goals as goal

pub returns-in-Ok : goal.returns-in-Ok
returns-in-Ok g c =
    inr (subst (λ (payload : List ℕ). AddsEntry c.args.kind payload c.args.store.now (told c.add_entry.result) c.add_entry.new.store)
    (c.deref.ensures.value ∙ c.in-Ok.ensures) c.add_entry.ensures)

pub returns-in-Err : goal.returns-in-Err
returns-in-Err g c = inl (refl, refl)
