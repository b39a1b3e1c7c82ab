use Rattle.std.proofs.Common.{◌∙◌, ◌&&◌, IsTrue, ap, sym, subst}
use Rattle.std.specs.FinMap as map
use Rattle.std.proofs.lemmas.Bool.{and_parts}
use Rattle.std.specs.Cmp.Derive.{both_true}
use Rattle.bk_record.specs.Files.{Files}
use Rattle.bk_disk.proofs.DurableGrows.{keeps_trans}
use Rattle.bk_hint_disk.specs.Hints.{bytes_in}
use Rattle.bk_hint_disk.specs.Truth.{AreTrue}
use Rattle.bk_hint_disk.proofs.Truths.{true_grew, grew_equal, reads_equal, views_equal}
use Rattle.bk_hint_disk.proofs.Using.{gets_same, table_holds}
use Rattle.bk_hint_disk.proofs.hinted_disk.log_disk.HintedDiskLogDisk.view.Goals.{then-not-self-via-then-not-self, then-not-self-via-else-not-self+then-not-take}
use Rattle.bk_hint_disk.proofs.hinted_disk.log_disk.HintedDiskLogDisk.view.Goals as goal

pub invariant_of-self : goal.invariant_of-self
invariant_of-self g c = λ honest sure believed.
    let was = sym c.view.ensures.honest ∙ honest in
    let kept : IsTrue (g.D.LogDisk.honest c.then-not-self.self-inside.inner) → IsTrue (g.H.Hints.honest c.then-not-self.self-inside.hints)
    → IsTrue c.then-not-self.self-inside.believed
    → AreTrue (g.H.Hints.hints c.then-not-self.self-inside.hints) (g.D.LogDisk.files c.then-not-self.self-inside.inner) = elim c.then-not-self.branch [
      | then-not-self-via-then-not-self w ↦ subst (λ i. IsTrue (g.D.LogDisk.honest i.inner) → IsTrue (g.H.Hints.honest i.hints) → IsTrue i.believed
          → AreTrue (g.H.Hints.hints i.hints) (g.D.LogDisk.files i.inner)) (sym w.self-inside-is) c.self.invariant
      | then-not-self-via-else-not-self+then-not-take w ↦ subst (λ i. IsTrue (g.D.LogDisk.honest i.inner) → IsTrue (g.H.Hints.honest i.hints) → IsTrue i.believed
          → AreTrue (g.H.Hints.hints i.hints) (g.D.LogDisk.files i.inner)) (sym w.self-inside-is) c.self.invariant
    ] in
    true_grew _ _ _ (grew_equal _ _ (views_equal g.D.View.LogView.bytes g.D.View.LogView.honest _ _ _ _ (c.view.ensures.transition was))) (kept was sure believed)

pub invariant_of-self-then-not-self : goal.invariant_of-self-then-not-self
invariant_of-self-then-not-self g c = λ honest sure believed.
    let was = sym c.view.ensures.honest ∙ honest in
    let kept : IsTrue (g.D.LogDisk.honest c.then-not-self.self-inside.inner) → IsTrue (g.H.Hints.honest c.then-not-self.self-inside.hints)
    → IsTrue c.then-not-self.self-inside.believed
    → AreTrue (g.H.Hints.hints c.then-not-self.self-inside.hints) (g.D.LogDisk.files c.then-not-self.self-inside.inner) = elim c.then-not-self.branch [
      | then-not-self-via-then-not-self w ↦ subst (λ i. IsTrue (g.D.LogDisk.honest i.inner) → IsTrue (g.H.Hints.honest i.hints) → IsTrue i.believed
          → AreTrue (g.H.Hints.hints i.hints) (g.D.LogDisk.files i.inner)) (sym w.self-inside-is) c.self.invariant
      | then-not-self-via-else-not-self+then-not-take w ↦ subst (λ i. IsTrue (g.D.LogDisk.honest i.inner) → IsTrue (g.H.Hints.honest i.hints) → IsTrue i.believed
          → AreTrue (g.H.Hints.hints i.hints) (g.D.LogDisk.files i.inner)) (sym w.self-inside-is) c.self.invariant
    ] in
    true_grew _ _ _ (grew_equal _ _ (views_equal g.D.View.LogView.bytes g.D.View.LogView.honest _ _ _ _ (c.view.ensures.transition was))) (kept was sure believed)

pub invariant_of-self-in-Err-Disk : goal.invariant_of-self-in-Err-Disk
invariant_of-self-in-Err-Disk g c = λ honest sure believed.
    let was = sym c.read_at.ensures.honest ∙ honest in
    true_grew _ _ _ (grew_equal _ _ (reads_equal (λ v. v.items) _ _ _ 0 1024 _ (c.read_at.ensures.transition was))) (c.self.invariant was sure believed)

pub invariant_of-self-in_err-inner-2 : goal.invariant_of-self-in_err-inner-2
invariant_of-self-in_err-inner-2 g c = λ honest sure believed.
    let viewed = sym c.view-2.ensures.honest ∙ honest in
    let was = sym c.read_at.ensures.honest ∙ viewed in
    let same = views_equal g.D.View.LogView.bytes g.D.View.LogView.honest _ _ _ _ (c.view-2.ensures.transition viewed)
    ∙ reads_equal (λ v. v.items) _ _ _ 0 1024 _ (c.read_at.ensures.transition was) in
    true_grew _ _ _ (grew_equal _ _ same) (c.self.invariant was sure believed)

pub returns-in_err-inner-2-clause-durable : goal.returns-in_err-inner-2-clause-durable
returns-in_err-inner-2-clause-durable g c = λ h.
    let was = (and_parts _ _ (ap (λ d. d.honest && d.sure) c.self.view_is ∙ h)).0 in
    rw (sym c.self.view_is) (keeps_trans _ _ _ _ _ _ (c.read_at.ensures.durable was) (c.view-2.ensures.durable (c.read_at.ensures.honest ∙ was)))

pub invariant_of-self-in_default : goal.invariant_of-self-in_default
invariant_of-self-in_default g c = λ honest sure believed.
    let viewed = sym c.view-2.ensures.honest ∙ honest in
    let was = sym c.read_at.ensures.honest ∙ viewed in
    let same = views_equal g.D.View.LogView.bytes g.D.View.LogView.honest _ _ _ _ (c.view-2.ensures.transition viewed)
    ∙ reads_equal (λ v. v.items) _ _ _ 0 1024 _ (c.read_at.ensures.transition was) in
    let s = sym c.get-found.ensures.honest ∙ sure in
    subst (λ (h : Files). AreTrue h (g.D.LogDisk.files c.view-2.new.self)) (sym (gets_same bytes_in _ _ _ _ (c.get-found.ensures.transition s)))
    (true_grew _ _ _ (grew_equal _ _ same) (c.self.invariant was s believed))

pub returns-in_default-clause-durable : goal.returns-in_default-clause-durable
returns-in_default-clause-durable g c = λ h.
    let was = (and_parts _ _ (ap (λ d. d.honest && d.sure) c.self.view_is ∙ h)).0 in
    rw (sym c.self.view_is) (keeps_trans _ _ _ _ _ _ (c.read_at.ensures.durable was) (c.view-2.ensures.durable (c.read_at.ensures.honest ∙ was)))

pub invariant_of-self-2 : goal.invariant_of-self-2
invariant_of-self-2 g c = λ honest sure believed.
    let viewed = sym c.view-2.ensures.honest ∙ honest in
    let was = sym c.read_at.ensures.honest ∙ viewed in
    let same = views_equal g.D.View.LogView.bytes g.D.View.LogView.honest _ _ _ _ (c.view-2.ensures.transition viewed)
    ∙ reads_equal (λ v. v.items) _ _ _ 0 1024 _ (c.read_at.ensures.transition was) in
    let s = sym c.get-found.ensures.honest ∙ sure in
    subst (λ (h : Files). AreTrue h (g.D.LogDisk.files c.view-2.new.self)) (sym (gets_same bytes_in _ _ _ _ (c.get-found.ensures.transition s)))
    (true_grew _ _ _ (grew_equal _ _ same) (c.self.invariant was s believed))

pub returns-clause-durable : goal.returns-clause-durable
returns-clause-durable g c = λ h.
    let was = (and_parts _ _ (ap (λ d. d.honest && d.sure) c.self.view_is ∙ h)).0 in
    rw (sym c.self.view_is) (keeps_trans _ _ _ _ _ _ (c.read_at.ensures.durable was) (c.view-2.ensures.durable (c.read_at.ensures.honest ∙ was)))

pub returns-clause-transition : goal.returns-clause-transition
returns-clause-transition g c = λ h.
    let parts = and_parts _ _ (ap (λ d. d.honest && d.sure) c.self.view_is ∙ h) in
    let was = parts.0 in
    let turn = c.in_ok-inner-2.ensures.transition (c.read_at.ensures.honest ∙ was) in
    let read = reads_equal (λ v. v.items) _ _ _ 0 1024 _ (c.read_at.ensures.transition was) in
    let there = ap (λ fs. map.get fs c.args.log) (sym read) ∙ turn.0 in
    let fact = c.self.invariant was parts.1 c.if-not-self.false in
    let holds = table_holds _ _ _ c.args.log _ _ _ _ fact there (c.get-found.ensures.transition parts.1) c.in-Some.ensures c.table-table.ensures in
    rw (sym c.self.view_is) (there, both_true turn.1 holds, turn.2 ∙ read)
