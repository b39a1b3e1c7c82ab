use Rattle.std.proofs.Common.{nat_lt, subst}
use Rattle.bk_serve_dispatch.specs.Rounds.{Stands}
use Rattle.bk_serve_dispatch.specs.Session.{point}
use Rattle.bk_serve_dispatch.proofs.Rounds.{stands_frame, stands_last, stands_told, tells_ends}
use Rattle.bk_serve_dispatch.proofs.session.take_turn.Goals as goal

pub returns-in-Ended-tell_run : goal.returns-in-Ended-tell_run
returns-in-Ended-tell_run g c = tells_ends (nat_lt 1 c.args.readers.now.most) g.S.Service.answers g.S.Service.works g.S.Job.Job.gives _ _ _ _ _ _ _ _ _ c.in-Ended-tell_run.end (stands_last (nat_lt 1 c.args.readers.now.most) g.S.Service.answers g.S.Service.works g.S.Job.Job.gives _ _ _ _ _ _ _ _ c.new-none.ensures.items (c.in-Left.ensures (nat_lt 1 c.args.readers.now.most) _ c.gather_first-at.ensures)) c.in-Ended-tell_run.ensures.0 c.in-Ended-tell_run.ensures.1

pub take_next-requires-clause-frame : goal.take_next-requires-clause-frame
take_next-requires-clause-frame g c κs within = λ what. stands_frame (nat_lt 1 c.args.readers.now.most) g.S.Service.answers g.S.Service.works g.S.Job.Job.gives _ c.in-Left.left.at _ _ _ _ _ what (c.in-Left.ensures (nat_lt 1 c.args.readers.now.most) _ c.gather_first-at.ensures)

pub returns-in-Left-tell_run : goal.returns-in-Left-tell_run
returns-in-Left-tell_run g c =
    let told = stands_told (nat_lt 1 c.args.readers.now.most) g.S.Service.answers g.S.Service.works g.S.Job.Job.gives _ _ _ _ _ _ _ _ _ c.in-Left-tell_run.ensures.1 (stands_last (nat_lt 1 c.args.readers.now.most) g.S.Service.answers g.S.Service.works g.S.Job.Job.gives _ _ _ _ _ _ _ _ c.new-none.ensures.items (c.in-Left.ensures (nat_lt 1 c.args.readers.now.most) _ c.gather_first-at.ensures)) c.in-Left-tell_run.ensures.2 in
    c.take_next.ensures (nat_lt 1 c.args.readers.now.most) (point c.args.last c.args.service.now (g.R.Read.remaining c.args.reader.now) (g.W.Write.contents c.args.writer.now)) (g.R.Read.remaining c.take_rounds.new.reader)
    (subst (λ xs. Stands (nat_lt 1 c.args.readers.now.most) g.S.Service.answers g.S.Service.works g.S.Job.Job.gives (point c.args.last c.args.service.now (g.R.Read.remaining c.args.reader.now) (g.W.Write.contents c.args.writer.now)) xs c.in-Left.left.at c.take_rounds.new.service (g.R.Read.remaining c.take_rounds.new.reader) c.take_rounds.new.buffers.frame.items (g.W.Write.contents c.tell_run.new.writer)) c.new-none.ensures.items told)
