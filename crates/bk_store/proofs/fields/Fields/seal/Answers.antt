use Rattle.std.proofs.Common.{◌≡◌, Some, is_some, sym, ap, subst, ◌∙◌}
use Rattle.std.specs.FinMap as finite
use Rattle.std.specs.Result.{OnOk}
use Rattle.bk_record.specs.Files.{file_of}
use Rattle.bk_log.specs.Writing as writers
use Rattle.bk_log.specs.Sealing.{HasMap}
use Rattle.bk_store.specs.State.{StoreParts}
use Rattle.bk_store.specs.Invariant.{StoreInvariant}
use Rattle.bk_store.specs.Primitives.{CanSealLog}
use Rattle.bk_store.proofs.Sealing.{sealable, seal_turn}
use Rattle.bk_store.proofs.fields.Fields.seal.Goals as goal

pub end_writing-requires-after_bounds : goal.end_writing-requires-after_bounds
end_writing-requires-after_bounds g c = λ κs lives.
    let is = sealable c.args.self.now c.requires.keeps c.args.log c.args.state c.requires.may in
    ap (λ (p : StoreParts). is_some (finite.get p.state.logs c.args.log)) c.self.view_is ∙ ap is_some is.writer.held

pub unreachable-requires : goal.unreachable-requires
unreachable-requires g c =
    let is = sealable _ (subst StoreInvariant (sym c.self.view_is) c.requires.keeps) c.args.log c.args.state
    (subst (λ (p : StoreParts). CanSealLog p.state c.args.log c.args.state) (sym c.self.view_is) c.requires.may) in
    let wrong = sym (c.end_writing.ensures.writer is.log is.writer.held ∙ is.writer.writer) ∙ c.in_default.is in
    cc

pub seal-requires-after_bounds : goal.seal-requires-after_bounds
seal-requires-after_bounds g c = λ κs lives honest going.
    let is = sealable _ (subst StoreInvariant (sym c.self.view_is) c.requires.keeps) c.args.log c.args.state
    (subst (λ (p : StoreParts). CanSealLog p.state c.args.log c.args.state) (sym c.self.view_is) c.requires.may) in
    let both : Some c.in-Some.writer ≡ Some is.w = sym c.in-Some.is ∙ c.end_writing.ensures.writer is.log is.writer.held ∙ is.writer.writer in
    let same : c.in-Some.writer ≡ is.w = cc in
    subst (λ w. writers.Writes (g.D.LogDisk.files c.self.inside.disk) w) (sym same) (is.writes honest)

pub returns-clause-transition : goal.returns-clause-transition
returns-clause-transition g c =
    let is = sealable _ (subst StoreInvariant (sym c.self.view_is) c.requires.keeps) c.args.log c.args.state
    (subst (λ (p : StoreParts). CanSealLog p.state c.args.log c.args.state) (sym c.self.view_is) c.requires.may) in
    let both : Some c.in-Some.writer ≡ Some is.w = sym c.in-Some.is ∙ c.end_writing.ensures.writer is.log is.writer.held ∙ is.writer.writer in
    let same : c.in-Some.writer ≡ is.w = cc in
    seal_turn _ c.args.self.now c.self.view_is c.args.log c.args.state is c.in-Some.writer c.seal.result _ _ _ _ same c.seal.ensures.honest c.seal.ensures.cause
    (c.end_writing.ensures.logs is.log is.writer.held) c.seal.ensures.failed
    (λ honest. record {
      sealed = c.seal.ensures.transition honest;
      entries = c.seal.ensures.entries honest;
      gains = c.seal.ensures.gains honest;
      mapped = λ fits ok.
          subst (λ r. OnOk r (HasMap (file_of (g.D.LogDisk.files c.seal.new.disk) c.in-Some.writer.log))) ok (c.seal.ensures.map honest fits);
    })
