use Rattle.std.proofs.Common.{Some, sym, ap, subst, ◌∙◌, ◌+◌}
use Rattle.bk_store.specs.Logs.{view_of}
use Rattle.bk_collect.proofs.Reading.{IsReading, reading_starts, reading_on, reading_past, reading_ends}
use Rattle.bk_collect.proofs.rebuilding.read_logs.Goals as goal
use Rattle.bk_collect.proofs.rebuilding.read_logs.Goals.{in-Some-shown+in_ok-take_in, in_default-shown}

pub loop-log-init : goal.loop-log-init
loop-log-init g c = reading_starts c.args.store.now c.new-index.result c.new-index.ensures

pub loop-log-preserved : goal.loop-log-preserved
loop-log-preserved g c =
    let log = c.in-Some.log in
    let s = c.args.store.now in
    elim c.match-shown.branch [
      | in-Some-shown+in_ok-take_in w ↦
          let shown = sym w.in-Some-shown.ensures
          ∙ ap (λ v. Some (view_of g.D.View.LogView.bytes g.D.View.LogView.honest g.D.View.LogView.sound v)) (sym w.deref.ensures) in
          subst (IsReading s (log + 1)) (sym w.index-is)
          (reading_on s c.loop-log.from c.loop-log.index c.loop-log.invariant log c.in-Some.ensures.value c.reveal_invariant.ensures _ shown w.take_in.new.index
          w.in_ok-take_in.ensures.ok)
      | in_default-shown w ↦
          subst (IsReading s (log + 1)) (sym w.index-is)
          (reading_past s c.loop-log.from c.loop-log.index c.loop-log.invariant log c.in-Some.ensures.value (sym w.in_default-shown.ensures))
    ]

pub returns-clause-made : goal.returns-clause-made
returns-clause-made g c = reading_ends c.args.store.now c.loop-log.from c.loop-log.index c.loop-log.invariant c.in_default.ensures.value
