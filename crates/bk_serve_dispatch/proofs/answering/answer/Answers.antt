use Rattle.std.proofs.Common.{◌≡◌, ◌∙◌, false, Result, Ok, Err, ◌++◌, OnOk, sym, ap, subst}
use Rattle.std.specs.Result.{is_err}
use Rattle.std.specs.Io.KnownBytes.{Appends}
use Rattle.bk_serve_core.specs.Fields.{frame_of}
use Rattle.bk_serve_core.specs.Requests.{ask}
use Rattle.bk_serve_core.specs.Replies.{told_bytes}
use Rattle.bk_serve_dispatch.proofs.Turns.{answered_by}
use Rattle.bk_serve_dispatch.proofs.answering.answer.Goals as goal

on_ok : {T E P : Type 0} (r : Result T E) → is_err r ≡ false → OnOk r P → P
on_ok (Ok x) e h = h
on_ok (Err x) e h = absurd cc

pub returns : goal.returns
returns g c =
    let said = on_ok c.call.result (sym c.is_err.ensures.value ∙ c.if-is_err.false) c.call.ensures.2 in
    let same : c.deref-2.result.now ≡ frame_of c.args.id (told_bytes c.call.ensures.0) =
    c.deref-2.ensures.value ∙ (said ∙ ap (λ x. x ++ frame_of c.args.id (told_bytes c.call.ensures.0)) c.clear.ensures.items) in
    let written = on_ok c.write_all.result (sym c.is_err-2.ensures.value ∙ c.if-is_err-2.false) c.write_all.ensures.bytes in
    answered_by g.S.Service.answers c.args.service.now (ask c.args.request.now) c.args.id c.call.new.self (g.W.Write.contents c.args.writer.now) (g.W.Write.contents c.write_all.new.self) c.deref-2.result.now c.turn_after.result c.call.ensures.0
    c.call.ensures.1 same
    (subst (λ x. Appends (g.W.Write.contents c.args.writer.now) (g.W.Write.contents c.write_all.new.self) x) (c.deref.ensures.value ∙ sym c.deref-2.ensures.value) written)
    c.turn_after.ensures
