use Rattle.std.proofs.Common.{[], List, ℕ, sym, subst}
use Rattle.bk_disk.proofs.Failures.{grown-nil}
use Rattle.bk_inspect.specs.Sealing.{AppendsMap}
use Rattle.bk_inspect.proofs.Copies.{piece_read}
use Rattle.bk_inspect.proofs.aside.copy_piece.Goals as goal

pub returns-in-Ok-clause-transition : goal.returns-in-Ok-clause-transition
returns-in-Ok-clause-transition g c = λ honest kept.
    piece_read _ _ _ _ c.args.log c.args.at c.args.n c.in-Ok.bytes.items c.append.result (c.in-Ok.ensures.transition honest)
    (subst (λ (b : List ℕ). AppendsMap (g.A.Aside.drafts c.args.aside.now) c.args.log b c.append.result (g.A.Aside.drafts c.append.new.aside))
    c.deref.ensures.value (c.append.ensures.transition kept))

pub returns-in-Err-clause-transition : goal.returns-in-Err-clause-transition
returns-in-Err-clause-transition g c = λ honest kept. ([], sym (grown-nil _ c.args.log))
