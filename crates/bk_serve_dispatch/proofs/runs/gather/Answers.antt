use Rattle.std.proofs.Common.{◌++◌, true, refl, sym, subst}
use Rattle.bk_serve_dispatch.specs.declared.runs.Next.TheVariants as next
use Rattle.bk_serve_dispatch.specs.Rounds.{Goes, Stands, keeps}
use Rattle.bk_serve_dispatch.proofs.Rounds.{goes_answered, goes_begun, stands_alone, stands_lost}
use Rattle.bk_serve_dispatch.proofs.runs.gather.Goals as goal
use Rattle.bk_serve_dispatch.proofs.runs.gather.Goals.{in-Begun, in-Answered}

pub loop-k-init : goal.loop-k-init
loop-k-init g c = λ start before goes. goes

pub loop-k-preserved : goal.loop-k-preserved
loop-k-preserved g c = λ start before goes.
    elim c.match-begin.branch [
      | in-Begun w ↦
          subst (λ n. Goes true g.S.Service.answers g.S.Service.works g.S.Job.Job.gives start (before ++ c.begin.new.run.items) n c.begin.new.service (g.R.Read.remaining c.read_next.new.reader) (g.W.Write.contents c.begin.new.writer)) (sym w.at-is)
          (goes_begun true g.S.Service.answers g.S.Service.works g.S.Job.Job.gives start before _ _ _ _ _ _ _ _ _ _ c.read_next.new.frame.items refl (keeps (c.loop-k.invariant start before goes) (c.write_out.ensures c.if-not-write_out.false)) c.in_default.ensures.none w.in-Begun.ensures.step)
      | in-Answered w ↦
          subst (λ n. Goes true g.S.Service.answers g.S.Service.works g.S.Job.Job.gives start (before ++ c.begin.new.run.items) n c.begin.new.service (g.R.Read.remaining c.read_next.new.reader) (g.W.Write.contents c.begin.new.writer)) (sym w.at-is)
          (goes_answered true g.S.Service.answers g.S.Service.works g.S.Job.Job.gives start before _ _ _ _ _ _ _ _ _ _ c.read_next.new.frame.items (keeps (c.loop-k.invariant start before goes) (c.write_out.ensures c.if-not-write_out.false)) c.in_default.ensures.none w.in-Answered.ensures.step)
    ]

pub returns-in-Some : goal.returns-in-Some
returns-in-Some g c = λ start before goes. record {
  before = c.loop-k.service;
  read = g.R.Read.remaining c.loop-k.reader;
  told = g.W.Write.contents c.write_out.new.writer;
  goes = (keeps (c.loop-k.invariant start before goes) (c.write_out.ensures c.if-not-write_out.false));
  reads = (refl, c.in-Some.ensures.some, refl);
}

pub returns-in-Alone : goal.returns-in-Alone
returns-in-Alone g c = λ start before goes.
    subst (λ f. Stands true g.S.Service.answers g.S.Service.works g.S.Job.Job.gives start (before ++ c.begin.new.run.items) (record { last = c.loop-k.at; next = next.Frame; adds = c.loop-k.adds }) c.begin.new.service (g.R.Read.remaining c.read_next.new.reader) f (g.W.Write.contents c.begin.new.writer))
    (sym c.in-Alone.ensures.frame)
    (stands_alone true g.S.Service.answers g.S.Service.works g.S.Job.Job.gives start before _ _ (record { last = c.loop-k.at; next = next.Frame; adds = c.loop-k.adds }) _ _ _ _ _ _ _ refl (keeps (c.loop-k.invariant start before goes) (c.write_out.ensures c.if-not-write_out.false))
    c.in_default.ensures.none c.in-Alone.ensures.step)

pub returns-in-Ended : goal.returns-in-Ended
returns-in-Ended g c = λ start before goes.
    subst (λ f. Stands true g.S.Service.answers g.S.Service.works g.S.Job.Job.gives start (before ++ c.begin.new.run.items) (record { last = c.loop-k.at; next = next.Lost c.in-Ended.end; adds = c.loop-k.adds }) c.begin.new.service (g.R.Read.remaining c.read_next.new.reader) f (g.W.Write.contents c.begin.new.writer))
    (sym c.in-Ended.ensures.frame)
    (stands_lost true g.S.Service.answers g.S.Service.works g.S.Job.Job.gives start before _ _ (record { last = c.loop-k.at; next = next.Lost c.in-Ended.end; adds = c.loop-k.adds }) _ _ _ _ _ _ _ c.in-Ended.end refl (keeps (c.loop-k.invariant start before goes) (c.write_out.ensures c.if-not-write_out.false))
    c.in_default.ensures.none c.in-Ended.ensures.step)

pub returns-then-not-is_next : goal.returns-then-not-is_next
returns-then-not-is_next g c = λ start before goes. record {
  before = c.loop-k.service;
  read = g.R.Read.remaining c.loop-k.reader;
  told = g.W.Write.contents c.write_out.new.writer;
  goes = (keeps (c.loop-k.invariant start before goes) (c.write_out.ensures c.if-not-write_out.false));
  reads = (refl, refl, refl);
}
