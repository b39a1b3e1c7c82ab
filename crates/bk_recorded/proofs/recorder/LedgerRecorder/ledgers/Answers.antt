use Rattle.std.proofs.Common.{List, sym, ap, subst, ◌∙◌}
use Rattle.bk_manifest.specs.Fact.{Fact, facts}
use Rattle.bk_manifest.specs.State.{SameMeaning}
use Rattle.bk_manifest.specs.Keeping.{durable}
use Rattle.bk_recorded.proofs.Listed.{listed_are}
use Rattle.bk_recorded.proofs.recorder.LedgerRecorder.ledgers.Goals as goal

pub returns : goal.returns
returns g c = λ honest.
    let same = ap facts c.deref.ensures.value ∙ c.in_ok-records.ensures.standing in
    listed_are c.ledgers_of.result (durable c.args.self.now.manifest) (facts c.deref.result.now) c.ledgers_of.ensures.deleted c.ledgers_of.ensures.fenced
    (subst (λ (xs : List Fact). SameMeaning (durable c.args.self.now.manifest) xs) (sym same)
    (c.in_ok-records.ensures.meaning (durable c.args.self.now.manifest) (c.state.ensures honest)))
