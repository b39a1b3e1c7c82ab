use Rattle.std.proofs.Common.{◌∙◌, inl, inr, refl, arith}
use Rattle.std.proofs.lemmas.List.{take_rest}
use Rattle.bk_serve_core.specs.Replies.{done, refused, entry}
use Rattle.bk_serve_core.specs.declared.refusal.Refusal.TheVariants as f
use Rattle.bk_serve.proofs.reading.give_payload.Goals as goal

pub returns-in-Some : goal.returns-in-Some
returns-in-Some c =
    let same = c.in-Some.ensures.lookup.0.2 ∙ take_rest c.args.payload.now 16 in
    let ledger_is = c.ledger.ensures.value in
    let entry_is = c.entry.ensures.value in
    (done (entry c.ledger.result c.entry.result c.in-Some.content.now), inl (cc), c.encode.ensures.ok)

pub returns-in-None : goal.returns-in-None
returns-in-None c =
    (refused f.Odd, inr (refl, elim c.in-None.ensures.lookup.0 [ inl short ↦ short | inr never ↦ absurd (omega (arith, never)) ]), c.encode-in-None.ensures.ok)
