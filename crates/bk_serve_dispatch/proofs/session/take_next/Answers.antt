use Rattle.std.proofs.Common.{◌≡◌, ◌∙◌, ap, false, sym, true}
use Rattle.bk_serve_dispatch.specs.Session.{is_lost}
use Rattle.bk_serve_dispatch.proofs.Rounds.{stands_over, stands_paid, stands_takes}
use Rattle.bk_serve_dispatch.proofs.session.take_next.Goals as goal

pub returns-in-Pause : goal.returns-in-Pause
returns-in-Pause g c = λ is_ahead start input stands. stands_paid is_ahead g.S.Service.answers g.S.Service.works g.S.Job.Job.gives start c.args.at _ input _ c.args.buffers.now.frame.items c.in-Pause.is stands

pub returns-in-Frame : goal.returns-in-Frame
returns-in-Frame g c = λ is_ahead start input stands.
    stands_takes is_ahead g.S.Service.answers g.S.Service.works g.S.Job.Job.gives start c.args.at _ _ input _ _ c.args.buffers.now.frame.items c.take_frame.result c.in-Frame.is stands
    (λ read reads. c.take_frame.ensures read input reads)

pub returns-in-Ended : goal.returns-in-Ended
returns-in-Ended g c = λ is_ahead start input stands. stands_over is_ahead g.S.Service.answers g.S.Service.works g.S.Job.Job.gives start c.args.at _ input _ c.args.buffers.now.frame.items c.in-Ended.end c.in-Ended.is stands

pub returns-in-Lost : goal.returns-in-Lost
returns-in-Lost g c = λ is_ahead start input stands.
    let e : true ≡ false = sym (ap is_lost c.in-Lost.is) ∙ c.requires.lives in
    absurd cc
