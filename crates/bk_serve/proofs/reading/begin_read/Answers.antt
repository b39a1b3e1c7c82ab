use Rattle.std.proofs.Common.{◌≡◌, inl, inr, rules, subst, sym}
use Rattle.bk_serve.specs.Reads.{IsRead, IsRefused, key_of}
use Rattle.bk_serve.proofs.Ids.{refuses_ids}
use Rattle.bk_serve.proofs.reading.begin_read.Goals as goal

pub returns-in-Some : goal.returns-in-Some
returns-in-Some g c = λ t is.
    let same : c.in-Some.key ≡ key_of c.args.ledger c.args.entry = search rules in
    inr (subst (λ k. IsRead g.D.View.LogView.bytes g.D.View.LogView.honest g.D.View.LogView.sound k c.args.store.now t c.take.new.store) same (c.take.ensures t is))

pub returns-in-None : goal.returns-in-None
returns-in-None g c = λ t is.
    inl
    (subst (λ r. IsRefused c.args.ledger c.args.entry c.args.store.now r c.args.store.now) (sym is)
    (refuses_ids c.args.ledger c.args.entry c.args.store.now c.in-None.ensures))
