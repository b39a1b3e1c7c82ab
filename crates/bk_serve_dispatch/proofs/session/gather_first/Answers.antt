use Rattle.std.proofs.Common.{◌≡◌, [], arith, nat_lt, refl, subst, sym, true}
use Rattle.std.proofs.lemmas.Bool.{lt-ltb}
use Rattle.bk_serve_dispatch.specs.Rounds.{Goes, Stands, stands}
use Rattle.bk_serve_dispatch.specs.Session.{none, point}
use Rattle.bk_serve_dispatch.proofs.session.gather_first.Goals as goal

pub returns-then-readers-gt1 : goal.returns-then-readers-gt1
returns-then-readers-gt1 g c =
    let ahead : nat_lt 1 c.args.readers.now.most ≡ true = lt-ltb 1 c.args.readers.now.most (let is = c.if-readers-gt1.true in omega arith) in
    subst (λ b. Stands b g.S.Service.answers g.S.Service.works g.S.Job.Job.gives (point c.args.last c.args.service.now (g.R.Read.remaining c.args.reader.now) (g.W.Write.contents c.args.writer.now)) c.gather.new.run.items c.gather.result c.gather.new.service (g.R.Read.remaining c.gather.new.reader) c.gather.new.buffers.frame.items (g.W.Write.contents c.gather.new.writer))
    (sym ahead)
    (c.gather.ensures (point c.args.last c.args.service.now (g.R.Read.remaining c.args.reader.now) (g.W.Write.contents c.args.writer.now)) []
    (subst (λ xs. Goes true g.S.Service.answers g.S.Service.works g.S.Job.Job.gives (point c.args.last c.args.service.now (g.R.Read.remaining c.args.reader.now) (g.W.Write.contents c.args.writer.now)) xs c.args.last c.args.service.now (g.R.Read.remaining c.args.reader.now) (g.W.Write.contents c.args.writer.now)) (sym c.requires) (stands none)))

pub returns-in-Some : goal.returns-in-Some
returns-in-Some g c = record {
  before = c.args.service.now;
  read = g.R.Read.remaining c.args.reader.now;
  told = g.W.Write.contents c.args.writer.now;
  goes = (subst (λ xs. Goes (nat_lt 1 c.args.readers.now.most) g.S.Service.answers g.S.Service.works g.S.Job.Job.gives (point c.args.last c.args.service.now (g.R.Read.remaining c.args.reader.now) (g.W.Write.contents c.args.writer.now)) xs c.args.last c.args.service.now (g.R.Read.remaining c.args.reader.now) (g.W.Write.contents c.args.writer.now)) (sym c.requires) (stands none));
  reads = (refl, c.in-Some.ensures.some, refl);
}

pub returns-in-None : goal.returns-in-None
returns-in-None g c = record {
  before = c.args.service.now;
  read = g.R.Read.remaining c.args.reader.now;
  told = g.W.Write.contents c.args.writer.now;
  goes = (subst (λ xs. Goes (nat_lt 1 c.args.readers.now.most) g.S.Service.answers g.S.Service.works g.S.Job.Job.gives (point c.args.last c.args.service.now (g.R.Read.remaining c.args.reader.now) (g.W.Write.contents c.args.writer.now)) xs c.args.last c.args.service.now (g.R.Read.remaining c.args.reader.now) (g.W.Write.contents c.args.writer.now)) (sym c.requires) (stands none));
  reads = (refl, c.in-None.ensures.none, refl);
}
