use Rattle.std.proofs.Common.{◌≡◌, ◌≤◌, IsTrue, Option, Some, None, Err, IsErrOf, IsNone, List, [], ℕ, false, ◌++◌, refl, sym, ap, ◌∙◌, subst, arith}
use Rattle.std.specs.FinMap as finite
use Rattle.bk_record.specs.Files.{Files}
use Rattle.bk_record.specs.Location.{Place}
use Rattle.bk_disk.specs.Disk.{IsFile}
use Rattle.bk_inspect.specs.Walking.{TakesTurn}
use Rattle.bk_inspect.proofs.Reading.{honest_still, read_then}
use Rattle.bk_inspect.proofs.Walks.{Walked, walked_none, walked_more, walked_past, walked_all, turn_there}
use Rattle.bk_inspect.proofs.walk.take_in_logs.Goals as goal
use Rattle.bk_inspect.proofs.walk.take_in_logs.Goals.{in-Ok-take_in_view, in-Err-Log}

pub loop-turns-init : goal.loop-turns-init
loop-turns-init g c = record {
  reads = c.in_ok-turns.ensures.reads;
  bound = omega arith;
  walked = λ honest. let ok = c.in_ok-turns.ensures.ok honest in walked_none _ _ _ _ 0 _ ok.0 ok.1.0 ok.1.1 (λ first has. has);
}

pub loop-turns-preserved-in-Err-NoLog : goal.loop-turns-preserved-in-Err-NoLog
loop-turns-preserved-in-Err-NoLog g c =
    let turned = read_then _ _ _ _ _ _ c.loop-turns.invariant.reads c.next.ensures.reads in
    let files = g.D.LogDisk.files c.args.disk.now in
    let turns = c.loop-turns.turns in
    record {
      reads = read_then _ _ _ _ _ _ turned c.judged_view.ensures.reads;
      bound = c.loop-turns.invariant.bound;
      walked = λ honest.
          let w = c.loop-turns.invariant.walked honest in
          let turn = subst (λ (o : Option ℕ). TakesTurn turns.ids.items turns.at o c.next.new.self.ids.items c.next.new.self.at) c.in-Some.is
          (c.in_ok-log.ensures.order w.still).1 in
          absurd (turn_there files turns.ids.items _ turns.at _ c.in-Some.log w.ids_are turn
          (subst (λ (fs : Files). IsNone (finite.get fs c.in-Some.log)) (turned.1 honest)
          (c.in-Err-NoLog.ensures.gone (honest_still _ _ _ _ turned honest) (ap Err c.in-Err-NoLog.field-0-is))));
    }

pub loop-turns-preserved : goal.loop-turns-preserved
loop-turns-preserved g c =
    let turned = read_then _ _ _ _ _ _ c.loop-turns.invariant.reads c.next.ensures.reads in
    let files = g.D.LogDisk.files c.args.disk.now in
    let turns = c.loop-turns.turns in
    let log : ℕ = c.in-Some.log in
    record {
      reads = read_then _ _ _ _ _ _ turned c.judged_view.ensures.reads;
      bound = elim c.match-take_in_view.branch [
        | in-Ok-take_in_view w ↦ omega (arith, w.status-is, c.max-status.ensures, c.in-Ok.ensures.status, c.loop-turns.invariant.bound)
        | in-Err-Log w ↦ omega (arith, w.status-is)
      ];
      walked = λ honest.
          let walked = c.loop-turns.invariant.walked honest in
          let order = c.in_ok-log.ensures.order walked.still in
          let turn = subst (λ (o : Option ℕ). TakesTurn turns.ids.items turns.at o c.next.new.self.ids.items c.next.new.self.at) c.in-Some.is order.1 in
          let viewed = c.in-Ok.ensures.ok (honest_still _ _ _ _ turned honest) in
          let bytes = g.D.View.LogView.bytes c.in-Ok.judged.view in
          let here = subst (λ (fs : Files). IsFile fs log bytes) (turned.1 honest)
          (subst (λ (f : List ℕ). IsFile (g.D.LogDisk.files c.next.new.disk) log f) (sym viewed.2.1.0) viewed.1) in
          elim c.match-take_in_view.branch [
            | in-Ok-take_in_view w ↦ subst (λ (n : ℕ). Walked files c.next.new.self.ids.items c.next.new.self.at c.next.new.self.is_missing n
                (λ taken. (first : g.row.T.Denot) → g.T.TakesEntries.has first c.args.taking.now [] → g.T.TakesEntries.has first c.take_in_view.new.taking taken))
                (sym w.status-is)
                (walked_more files turns.ids.items _ turns.at _ log turns.is_missing _ c.loop-turns.status c.max-status.result _ _ _ walked turn order.0
                (λ (calm : c.max-status.result ≡ 0). omega (arith, c.max-status.ensures, calm)) here
                (λ before has first began. w.in-Ok-take_in_view.ensures viewed.2.1.1 first before (has first began)))
            | in-Err-Log w ↦ subst (λ (n : ℕ). Walked files c.next.new.self.ids.items c.next.new.self.at c.next.new.self.is_missing n
                (λ taken. (first : g.row.T.Denot) → g.T.TakesEntries.has first c.args.taking.now [] → g.T.TakesEntries.has first c.take_in_view.new.taking taken))
                (sym w.status-is)
                (walked_past files turns.ids.items _ turns.at _ log turns.is_missing _ c.loop-turns.status _ _ walked turn order.0)
          ];
    }

pub returns : goal.returns
returns g c =
    let turns = c.loop-turns.turns in
    record {
      status = c.loop-turns.invariant.bound;
      reads = read_then _ _ _ _ _ _ c.loop-turns.invariant.reads c.next.ensures.reads;
      all = λ honest fine first began.
          let w = c.loop-turns.invariant.walked honest in
          let turn = subst (λ (o : Option ℕ). TakesTurn turns.ids.items turns.at o c.next.new.self.ids.items c.next.new.self.at) c.in_default.is
          (c.in_ok-log.ensures.order w.still).1 in
          walked_all (g.D.LogDisk.files c.args.disk.now) turns.ids.items _ turns.at _ turns.is_missing c.loop-turns.status _ w turn fine first began;
    }
