use Rattle.std.proofs.Common.{sym, ap, ◌∙◌, rules}
use Rattle.bk_store.specs.State.{StoreParts}
use Rattle.bk_store.proofs.fields.Fields.end_flush.Goals as goal

pub returns-clause-internals : goal.returns-clause-internals
returns-clause-internals g c = record {
  parts = search rules;
  still = search rules;
  alone = λ id there. sym (ap (λ (p : StoreParts). p.writing) c.self.view_is) ∙ c.keep_written.ensures.alone id there;
}
