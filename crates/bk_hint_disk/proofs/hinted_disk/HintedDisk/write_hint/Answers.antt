use Rattle.std.proofs.Common.{◌∙◌, ℕ, Option, IfSome, Vec, ap, sym, subst}
use Rattle.std.specs.Global.{Global}
use Rattle.std.specs.FinMap as map
use Rattle.bk_hint_disk.specs.Truth.{IsTrueHint}
use Rattle.bk_hint_disk.proofs.Truths.{true_grew, grew_equal, reads_equal, views_equal}
use Rattle.bk_hint_disk.proofs.Using.{puts_true}
use Rattle.bk_hint_disk.proofs.hinted_disk.HintedDisk.write_hint.Goals as goal

pub invariant_of-self : goal.invariant_of-self
invariant_of-self g c = λ honest sure believed.
    let was = sym c.read_at.ensures.honest ∙ honest in
    true_grew _ _ _ (grew_equal _ _ (reads_equal (λ v. v.items) _ _ _ 0 1024 _ (c.read_at.ensures.transition was))) (c.self.invariant was sure believed)

pub invariant_of-self-in-Err : goal.invariant_of-self-in-Err
invariant_of-self-in-Err g c = λ honest sure believed.
    let was = sym c.read_at.ensures.honest ∙ honest in
    true_grew _ _ _ (grew_equal _ _ (reads_equal (λ v. v.items) _ _ _ 0 1024 _ (c.read_at.ensures.transition was))) (c.self.invariant was sure believed)

pub invariant_of-self-in-Err-view : goal.invariant_of-self-in-Err-view
invariant_of-self-in-Err-view g c = λ honest sure believed.
    let viewed = sym c.view.ensures.honest ∙ honest in
    let was = sym c.read_at.ensures.honest ∙ viewed in
    let same = views_equal g.D.View.LogView.bytes g.D.View.LogView.honest _ _ _ _ (c.view.ensures.transition viewed)
    ∙ reads_equal (λ v. v.items) _ _ _ 0 1024 _ (c.read_at.ensures.transition was) in
    true_grew _ _ _ (grew_equal _ _ same) (c.self.invariant was sure believed)

pub returns-in-Err-view-clause-files : goal.returns-in-Err-view-clause-files
returns-in-Err-view-clause-files g c = λ h.
    let was = ap (λ d. d.honest) c.self.view_is ∙ h in
    let viewed = c.read_at.ensures.honest ∙ was in
    views_equal g.D.View.LogView.bytes g.D.View.LogView.honest _ _ _ _ (c.view.ensures.transition viewed)
    ∙ reads_equal (λ v. v.items) _ _ _ 0 1024 _ (c.read_at.ensures.transition was) ∙ ap (λ d. d.files) c.self.view_is

pub invariant_of-self-in-Ok-put : goal.invariant_of-self-in-Ok-put
invariant_of-self-in-Ok-put g c = λ honest sure believed.
    let viewed = sym c.view.ensures.honest ∙ honest in
    let was = sym c.read_at.ensures.honest ∙ viewed in
    let same = views_equal g.D.View.LogView.bytes g.D.View.LogView.honest _ _ _ _ (c.view.ensures.transition viewed)
    ∙ reads_equal (λ v. v.items) _ _ _ 0 1024 _ (c.read_at.ensures.transition was) in
    let s = sym c.put.ensures.honest ∙ sure in
    let base = true_grew _ _ _ (grew_equal _ _ same) (c.self.invariant was s believed) in
    let file = g.D.View.LogView.bytes c.in-Ok-view.view in
    let turn = c.in-Ok-view.ensures.transition viewed in
    let there = ap (λ fs. map.get fs c.args.log) turn.2 ∙ turn.0 in
    let fact = subst (λ (o : Option (Vec ℕ Global)). IfSome o (λ h. IsTrueHint file h.items)) c.in-Ok-Some.field-0-is (c.in-Ok-Some.ensures.records turn.1) in
    puts_true _ _ _ c.args.log _ file _ (c.put.ensures.transition s) base there (subst (IsTrueHint file) (sym c.deref-in-Ok-Some.ensures.value) fact)

pub invariant_of-self-in-Err-Memory : goal.invariant_of-self-in-Err-Memory
invariant_of-self-in-Err-Memory g c = λ honest sure believed.
    let viewed = sym c.view.ensures.honest ∙ honest in
    let was = sym c.read_at.ensures.honest ∙ viewed in
    let same = views_equal g.D.View.LogView.bytes g.D.View.LogView.honest _ _ _ _ (c.view.ensures.transition viewed)
    ∙ reads_equal (λ v. v.items) _ _ _ 0 1024 _ (c.read_at.ensures.transition was) in
    let s = sym c.put.ensures.honest ∙ sure in
    let base = true_grew _ _ _ (grew_equal _ _ same) (c.self.invariant was s believed) in
    let file = g.D.View.LogView.bytes c.in-Ok-view.view in
    let turn = c.in-Ok-view.ensures.transition viewed in
    let there = ap (λ fs. map.get fs c.args.log) turn.2 ∙ turn.0 in
    let fact = subst (λ (o : Option (Vec ℕ Global)). IfSome o (λ h. IsTrueHint file h.items)) c.in-Ok-Some.field-0-is (c.in-Ok-Some.ensures.records turn.1) in
    puts_true _ _ _ c.args.log _ file _ (c.put.ensures.transition s) base there (subst (IsTrueHint file) (sym c.deref-in-Ok-Some.ensures.value) fact)

pub invariant_of-self-in-Ok-Some : goal.invariant_of-self-in-Ok-Some
invariant_of-self-in-Ok-Some g c = λ honest sure believed.
    let viewed = sym c.view.ensures.honest ∙ honest in
    let was = sym c.read_at.ensures.honest ∙ viewed in
    let same = views_equal g.D.View.LogView.bytes g.D.View.LogView.honest _ _ _ _ (c.view.ensures.transition viewed)
    ∙ reads_equal (λ v. v.items) _ _ _ 0 1024 _ (c.read_at.ensures.transition was) in
    let s = sym c.put.ensures.honest ∙ sure in
    let base = true_grew _ _ _ (grew_equal _ _ same) (c.self.invariant was s believed) in
    let file = g.D.View.LogView.bytes c.in-Ok-view.view in
    let turn = c.in-Ok-view.ensures.transition viewed in
    let there = ap (λ fs. map.get fs c.args.log) turn.2 ∙ turn.0 in
    let fact = subst (λ (o : Option (Vec ℕ Global)). IfSome o (λ h. IsTrueHint file h.items)) c.in-Ok-Some.field-0-is (c.in-Ok-Some.ensures.records turn.1) in
    puts_true _ _ _ c.args.log _ file _ (c.put.ensures.transition s) base there (subst (IsTrueHint file) (sym c.deref-in-Ok-Some.ensures.value) fact)

pub invariant_of-self-in-Ok-None : goal.invariant_of-self-in-Ok-None
invariant_of-self-in-Ok-None g c = λ honest sure believed.
    let viewed = sym c.view.ensures.honest ∙ honest in
    let was = sym c.read_at.ensures.honest ∙ viewed in
    let same = views_equal g.D.View.LogView.bytes g.D.View.LogView.honest _ _ _ _ (c.view.ensures.transition viewed)
    ∙ reads_equal (λ v. v.items) _ _ _ 0 1024 _ (c.read_at.ensures.transition was) in
    true_grew _ _ _ (grew_equal _ _ same) (c.self.invariant was sure believed)

pub invariant_of-self-in-Err-make_hint : goal.invariant_of-self-in-Err-make_hint
invariant_of-self-in-Err-make_hint g c = λ honest sure believed.
    let viewed = sym c.view.ensures.honest ∙ honest in
    let was = sym c.read_at.ensures.honest ∙ viewed in
    let same = views_equal g.D.View.LogView.bytes g.D.View.LogView.honest _ _ _ _ (c.view.ensures.transition viewed)
    ∙ reads_equal (λ v. v.items) _ _ _ 0 1024 _ (c.read_at.ensures.transition was) in
    true_grew _ _ _ (grew_equal _ _ same) (c.self.invariant was sure believed)
