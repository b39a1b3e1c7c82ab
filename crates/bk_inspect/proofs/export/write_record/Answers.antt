use Rattle.std.proofs.Common.{ℕ, List, [], take, drop, ◌∙◌, subst, arith}
use Rattle.std.specs.Io.KnownBytes.{Appends}
use Rattle.bk_inspect.proofs.Fits.{piece_more}
use Rattle.bk_inspect.proofs.Lines.{appends_then}
use Rattle.bk_inspect.proofs.export.write_record.Goals as goal

pub loop-done-preserved : goal.loop-done-preserved
loop-done-preserved g c = record {
  within = omega (arith, c.min-some.ensures);
  wrote = λ honest.
      let file = g.V.LogView.bytes c.args.view.now in
      let begin : ℕ = c.saturating_sub-begin.result in
      let done : ℕ = c.loop-done.done in
      let some : ℕ = c.min-some.result in
      let before = g.W.Write.contents c.args.writer.now in
      let mid = g.W.Write.contents c.loop-done.writer in
      let after = g.W.Write.contents c.write_all.new.self in
      subst (λ (z : List ℕ). Appends before after z) (piece_more [] file begin done some)
      (appends_then before mid after _ _ (c.loop-done.invariant.wrote honest)
      (subst (λ (z : List ℕ). Appends mid after z) (c.deref.ensures.value ∙ (c.in_ok-bytes.ensures.ok honest).1) c.in_ok-write_all.ensures.bytes));
}
