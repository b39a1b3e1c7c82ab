use Rattle.std.proofs.Common.{◌≡◌, ◌+◌, ◌-◌, ◌≤◌, List, slice_get, sym, ap, ◌∙◌, arith}
use Rattle.bk_hint.specs.declared.listed.Listed.{Listed}
use Rattle.bk_hint.proofs.Reaching.{begins_at, ends, finds, left_legal, passes, run_fits}
use Rattle.bk_hint.proofs.Runwise.{legal_run, run_many}
use Rattle.bk_hint.proofs.cursor.EntryCursor.nth.Goals.{then-place-self, else-place-self}
use Rattle.bk_hint.proofs.cursor.EntryCursor.nth.Goals as goal

pub walk-init : goal.walk-init
walk-init c =
    elim c.if-place-self.branch [
      | then-place-self w ↦
          let runs = w.runs-self-inside.ensures in
          rw w.self-inside-is (record {
            same = c.self.view_is;
            reached = begins_at c.self.inside.contents.now w.runs-self-inside.result runs.list runs.in_order;
            rest = c.same-rest.ensures ∙ ap (λ inside. inside.runs) w.self-inside-is;
            behind = omega arith;
          })
      | else-place-self w ↦
          rw w.self-inside-is (record {
            same = c.self.view_is;
            reached = c.self.invariant;
            rest = c.same-rest.ensures ∙ ap (λ inside. inside.runs) w.self-inside-is;
            behind = omega (arith, w.if-place-self.false);
          })
    ]

pub at-requires-clause-legal : goal.at-requires-clause-legal
at-requires-clause-legal c =
    legal_run c.walk.self-inside.runs c.next.new.self c.in-Some.run' (sym c.walk.invariant.rest ∙ c.in-Some.ensures.steps)
    (left_legal c.walk.self-inside.contents.now c.walk.self-inside.runs c.walk.self-inside.before c.walk.invariant.reached)

pub returns-then-left-from-clause-found : goal.returns-then-left-from-clause-found
returns-then-left-from-clause-found c =
    let at = c.args.place - c.walk.self-inside.before in
    let placed : c.args.place ≡ c.walk.self-inside.before + at = omega (arith, c.walk.invariant.behind) in
    sym (finds c.walk.self-inside.contents.now c.walk.self-inside.runs c.next.new.self c.in-Some.run' c.walk.self-inside.before c.args.place at c.at.result
    (sym c.walk.invariant.rest ∙ c.in-Some.ensures.steps) c.walk.invariant.reached placed c.at.ensures)
    ∙ ap (λ (es : List Listed). slice_get es c.args.place) c.walk.invariant.same

pub overflow_add-self : goal.overflow_add-self
overflow_add-self c =
    let fits = run_fits c.walk.self-inside.contents.now c.walk.self-inside.runs c.next.new.self c.in-Some.run' c.walk.self-inside.before
    (sym c.walk.invariant.rest ∙ c.in-Some.ensures.steps) c.walk.invariant.reached in
    omega (arith, fits, c.count.ensures)

pub walk-preserved : goal.walk-preserved
walk-preserved c =
    let next = c.walk.self-inside.before + c.count.result in
    let moved = passes c.walk.self-inside.contents.now c.walk.self-inside.runs c.next.new.self c.in-Some.run' c.walk.self-inside.before next
    (sym c.walk.invariant.rest ∙ c.in-Some.ensures.steps) c.walk.invariant.reached
    (ap (λ n. c.walk.self-inside.before + n) c.count.ensures) in
    let many = run_many c.in-Some.run' in
    let below : next ≤ c.args.place = omega (arith, c.count.ensures, many, c.if-left-from.false, c.from.ensures, c.walk.invariant.behind) in
    record { same = c.walk.invariant.same; reached = rw c.same-self-inside.ensures moved; rest = sym c.same-self-inside.ensures; behind = below }

pub returns-clause-found : goal.returns-clause-found
returns-clause-found c =
    sym (ends c.walk.self-inside.contents.now c.walk.self-inside.runs c.walk.self-inside.before c.args.place (sym c.walk.invariant.rest ∙ c.in_default.ensures.steps.0) c.walk.invariant.reached c.walk.invariant.behind)
    ∙ ap (λ (es : List Listed). slice_get es c.args.place) c.walk.invariant.same
