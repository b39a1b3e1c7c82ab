use Rattle.std.proofs.Common.{sym, ◌∙◌, arith}
use Rattle.bk_hint.proofs.Runwise.{legal_run, legal_others, place_found, place_behind}
use Rattle.bk_hint.proofs.contents.Contents.nth.Goals as goal

pub at-requires-clause-legal : goal.at-requires-clause-legal
at-requires-clause-legal c = legal_run c.loop-run.run-iterator c.next.new.self c.in-Some.run' c.in-Some.ensures.steps c.loop-run.invariant.legal

pub returns-then-left-from : goal.returns-then-left-from
returns-then-left-from c =
    sym (place_found c.loop-run.run-iterator c.next.new.self c.in-Some.run' c.loop-run.left c.at.result c.in-Some.ensures.steps c.at.ensures)
    ∙ c.loop-run.invariant.placed

pub loop-run-preserved : goal.loop-run-preserved
loop-run-preserved c = record {
  placed = sym (place_behind c.loop-run.run-iterator c.next.new.self c.in-Some.run' c.loop-run.left _ c.in-Some.ensures.steps (omega arith))
      ∙ c.loop-run.invariant.placed;
  legal = legal_others c.loop-run.run-iterator c.next.new.self c.in-Some.run' c.in-Some.ensures.steps c.loop-run.invariant.legal;
}
