use Rattle.std.proofs.Common.{◌∙◌, ap, refl}
use Rattle.bk_serve_core.specs.Replies.{refused}
use Rattle.bk_serve_core.specs.declared.refusal.Refusal.TheVariants as f
use Rattle.bk_serve.specs.Reads.ReadBackAnswers.{misses, differs, reads}
use Rattle.bk_serve.proofs.reading.begin_receipt.Goals as goal

pub returns-in-Stands : goal.returns-in-Stands
returns-in-Stands g c = λ t is. reads (rw c.trail.ensures at c.in-Stands.ensures) (c.take.ensures t is)

pub returns-in-Missing : goal.returns-in-Missing
returns-in-Missing g c = λ t is. misses (rw c.trail.ensures at c.in-Missing.ensures) (is ∙ ap (λ n. refused (f.Missing n)) c.front-front.ensures) refl

pub returns-in-Differs : goal.returns-in-Differs
returns-in-Differs g c = λ t is. let found = rw c.trail.ensures at c.in-Differs.ensures in differs found.0 found.1 is refl
