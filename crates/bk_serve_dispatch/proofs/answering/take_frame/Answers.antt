use Rattle.std.proofs.Common.{refl, subst, sym, true}
use Rattle.bk_serve_core.specs.Reading.{ReadsFrame}
use Rattle.bk_serve_dispatch.specs.Session.{refused}
use Rattle.bk_serve_dispatch.proofs.Turns.{carried_by}
use Rattle.bk_serve_dispatch.proofs.answering.take_frame.Goals as goal

pub returns-in-Ok : goal.returns-in-Ok
returns-in-Ok g c = λ input input_after reads.
    carried_by g.S.Service.answers c.args.last c.args.service.now _ input input_after (g.W.Write.contents c.args.writer.now) _ c.deref.result.now c.in-Ok.id _ c.answer.result
    (subst (λ f. ReadsFrame true input input_after f) (sym c.deref.ensures.value) reads) c.in-Ok.ensures.ok c.answer.ensures

pub returns-in-Err : goal.returns-in-Err
returns-in-Err g c = λ input input_after reads.
    (refl, refused refl (subst (λ f. ReadsFrame true input input_after f) (sym c.deref.ensures.value) reads) c.in-Err.ensures.err refl)
