use Rattle.std.proofs.Common.{◌≡◌, [], ◌∷◌, ◌++◌, ◌+◌, arith, take, sym, subst}
use Rattle.std.proofs.lemmas.Grind.{common_steps}
use Rattle.std.proofs.lemmas.List.{take_all}
use Rattle.bk_disk.specs.Disk.{AreSound}
use Rattle.bk_drive.specs.Recorded.{Performs}
use Rattle.bk_drive.proofs.Driving.{performs_none}
use Rattle.bk_drive.proofs.Recording.{asked_none, asked_on, asked_refused, asked_all, steps_on, all_told, refused_told}
use Rattle.bk_drive.proofs.recorded.perform.Goals as goal

pub loop-step-init : goal.loop-step-init
loop-step-init g c = record {
  counted = c.in-Ok.ensures.len;
  room = c.in-Ok.ensures.capacity;
  asked = asked_none _ _ c.args.steps.now;
  made = subst (λ l. Performs (AreSound g.D.View.LogView.sound) c.args.store.now c.args.readers.now [] l c.args.store.now c.args.readers.now)
      (sym c.in-Ok.ensures.items) (performs_none _ _ _ c.requires);
}

pub loop-step-preserved : goal.loop-step-preserved
loop-step-preserved g c =
    let items : c.push.new.self.items ≡ c.loop-step.answers.items ++ c.turn.result ∷ [] = rw c.unwrap.ensures at c.push.ensures.items in
    let done = c.turn.ensures in
    record {
      counted = grind (arith, common_steps);
      room = grind (arith, common_steps);
      asked = asked_on g.R.Recorder.record_gives _ _ _ c.args.steps.now c.loop-step.step-index c.step-item.result c.loop-step-test.true c.step-item.is
          (subst (λ b. g.R.Recorder.record_gives c.loop-step.recorder c.step-item.result b c.record.new.self) c.if-not-record.false c.record.ensures)
          c.loop-step.invariant.asked;
      made = subst (λ l. Performs (AreSound g.D.View.LogView.sound) c.args.store.now c.args.readers.now (take (c.loop-step.step-index + 1) c.args.steps.now) l
          c.turn.new.store c.turn.new.readers) (sym items)
          (steps_on _ _ _ _ _ _ _ _ c.turn.result c.args.steps.now c.loop-step.step-index c.step-item.result c.loop-step-test.true c.step-item.is
          c.loop-step.invariant.made (record {
            honest = done.honest;
            settings = done.settings;
            later = done.later;
            disk = done.disk;
            leases = done.leases;
            closes = done.closes;
            closed = done.closed;
            transition = done.transition;
            plain = done.plain;
          }));
    }

pub returns-then-not-record-clause-ok : goal.returns-then-not-record-clause-ok
returns-then-not-record-clause-ok g c =
    let made = c.loop-step.invariant.made in
    record {
      performed = take c.loop-step.step-index c.args.steps.now;
      told = c.loop-step.answers.items;
      recorded = asked_refused g.R.Recorder.record_gives _ _ _ c.args.steps.now c.loop-step.step-index c.step-item.result c.loop-step-test.true
          c.step-item.is
          (subst (λ b. g.R.Recorder.record_gives c.loop-step.recorder c.step-item.result b c.record.new.self) c.if-not-record.true c.record.ensures)
          c.loop-step.invariant.asked;
      made = made;
      answered = refused_told c.args.steps.now c.loop-step.step-index _ c.loop-step.answers.items _ c.loop-step-test.true made.each
          (omega (arith, c.loop-step.invariant.counted)) c.push_unrecorded.ensures;
    }

pub returns-clause-ok : goal.returns-clause-ok
returns-clause-ok g c =
    let whole = take_all c.loop-step.step-index c.args.steps.now c.loop-step-test.false in
    let made = subst (λ l. Performs (AreSound g.D.View.LogView.sound) c.args.store.now c.args.readers.now l c.loop-step.answers.items
    c.loop-step.store c.loop-step.readers) whole c.loop-step.invariant.made in
    record {
      performed = c.args.steps.now;
      told = c.loop-step.answers.items;
      recorded = asked_all _ _ _ c.args.steps.now c.loop-step.step-index c.loop-step-test.false c.loop-step.invariant.asked;
      made = made;
      answered = all_told c.args.steps.now c.loop-step.answers.items made.each;
    }
