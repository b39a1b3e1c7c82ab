use Rattle.std.proofs.Common.{◌∙◌, ap, refl, rules}
use Rattle.bk_manifest.specs.State.{attribute_bytes, the_attribute}
use Rattle.bk_serve_core.specs.Replies as r
use Rattle.bk_serve_core.specs.Replies.{done, refused}
use Rattle.bk_serve_core.specs.declared.refusal.Refusal.TheVariants as f
use Rattle.bk_serve.specs.Ledgers.{told_of_attribute}
use Rattle.bk_serve.specs.Ledgers.GetAnswers.{bad, gone, gets}
use Rattle.bk_serve.proofs.attributes.attribute.Goals as goal

pub returns-then-is_negative : goal.returns-then-is_negative
returns-then-is_negative g c = (refused f.Negative, bad (record { negative = search rules; says = refl }), c.encode.ensures.ok)

pub returns-then-is_dead : goal.returns-then-is_dead
returns-then-is_dead g c = (refused f.Deleted, gone (record { dead = cc; says = refl }), c.encode-then-is_dead.ensures.ok)

pub returns-in-Some : goal.returns-in-Some
returns-in-Some g c = (
  done (r.attribute c.in-Some.value.now),
  gets (cc) (λ honest. ap told_of_attribute (c.in-Some.ensures ∙ ap attribute_bytes (c.state.ensures honest (the_attribute c.args.ledger c.args.kind)))),
  c.encode-in-Some.ensures.ok,
)

pub returns-in-None : goal.returns-in-None
returns-in-None g c = (
  done r.no_attribute,
  gets (cc) (λ honest. ap told_of_attribute (c.in-None.ensures ∙ ap attribute_bytes (c.state.ensures honest (the_attribute c.args.ledger c.args.kind)))),
  c.encode-in-None.ensures.ok,
)
