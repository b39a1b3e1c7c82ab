use Rattle.std.proofs.Common.{◌≡◌, rules, subst, sym}
use Rattle.bk_serve.specs.Reads.{IsRefused, ReadBackAnswers, key_of}
use Rattle.bk_serve.specs.Reads.ReadBackAnswers.{refuses}
use Rattle.bk_serve.proofs.Ids.{refuses_ids}
use Rattle.bk_serve.proofs.reading.begin_read_back.Goals as goal

pub returns-in-Some : goal.returns-in-Some
returns-in-Some g c = λ t is.
    let same : c.in-Some.key ≡ key_of c.args.ledger c.args.entry = search rules in
    subst
    (λ k. ReadBackAnswers g.D.View.LogView.bytes g.D.View.LogView.honest g.D.View.LogView.sound c.args.number k.ledger k.entry c.args.digest.now c.args.store.now t c.begin_receipt.new.store)
    same (c.begin_receipt.ensures t is)

pub returns-in-None : goal.returns-in-None
returns-in-None g c = λ t is.
    refuses
    (subst (λ r. IsRefused c.args.ledger c.args.entry c.args.store.now r c.args.store.now) (sym is)
    (refuses_ids c.args.ledger c.args.entry c.args.store.now c.in-None.ensures))
