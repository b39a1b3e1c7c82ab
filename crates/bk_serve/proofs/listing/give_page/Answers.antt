use Rattle.std.proofs.Common.{◌∙◌, List, ℕ, ap, inl, inr, refl}
use Rattle.bk_serve_core.specs.Replies.{done, refused, page}
use Rattle.bk_serve_core.specs.declared.refusal.Refusal.TheVariants as f
use Rattle.bk_serve.proofs.listing.give_page.Goals as goal

pub returns-in-Ok : goal.returns-in-Ok
returns-in-Ok c =
    (done (page c.deref.result.now), inr (ap (λ (ids : List ℕ). done (page ids)) (c.deref.ensures.value ∙ c.in-Ok.ensures)), c.encode.ensures.ok)

pub returns-in-Err : goal.returns-in-Err
returns-in-Err c = (refused f.Memory, inl refl, c.encode-in-Err.ensures.ok)
