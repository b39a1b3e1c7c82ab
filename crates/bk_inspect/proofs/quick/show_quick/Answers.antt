use Rattle.std.proofs.Common.{◌≡◌, ℕ, Option, Err, IsNone, sym, ap, subst, arith}
use Rattle.std.specs.FinMap as finite
use Rattle.bk_record.specs.Files.{Files}
use Rattle.bk_inspect.specs.Outlines.{HasOutline}
use Rattle.bk_inspect.specs.Reading.{OfFile}
use Rattle.bk_inspect.specs.Walking.{TakesTurn}
use Rattle.bk_inspect.proofs.Outlines.{outlined_none, outlined_more, outlined_gone, outlined_all, row_written, status_bound}
use Rattle.bk_inspect.proofs.Reading.{honest_still, read_then}
use Rattle.bk_inspect.proofs.quick.show_quick.Goals as goal

pub loop-turns-init : goal.loop-turns-init
loop-turns-init g c = record {
  reads = c.in_ok-turns.ensures.reads;
  bound = omega arith;
  lines = λ honest. let ok = c.in_ok-turns.ensures.ok honest in outlined_none _ _ _ _ 0 _ ok.0 ok.1.0 ok.1.1;
}

pub loop-turns-preserved-in-Err-NoLog : goal.loop-turns-preserved-in-Err-NoLog
loop-turns-preserved-in-Err-NoLog g c =
    let turned = read_then _ _ _ _ _ _ c.loop-turns.invariant.reads c.next.ensures.reads in
    let files = g.D.LogDisk.files c.args.disk.now in
    let turns = c.loop-turns.turns in
    record {
      reads = read_then _ _ _ _ _ _ turned c.outline_of.ensures.reads;
      bound = c.loop-turns.invariant.bound;
      lines = λ honest.
          let o = c.loop-turns.invariant.lines honest in
          let turn = subst (λ (o : Option ℕ). TakesTurn turns.ids.items turns.at o c.next.new.self.ids.items c.next.new.self.at) c.in-Some.is
          (c.in_ok-log.ensures.order o.still).1 in
          outlined_gone files turns.ids.items _ _ turns.at _ _ c.in-Some.log turns.is_missing _ c.loop-turns.status _ _ o turn
          (subst (λ (fs : Files). IsNone (finite.get fs c.in-Some.log)) (turned.1 honest)
          (c.in-Err-NoLog.ensures.gone (honest_still _ _ _ _ turned honest) (ap Err c.in-Err-NoLog.field-0-is)));
    }

pub loop-turns-preserved : goal.loop-turns-preserved
loop-turns-preserved g c =
    let turned = read_then _ _ _ _ _ _ c.loop-turns.invariant.reads c.next.ensures.reads in
    let files = g.D.LogDisk.files c.args.disk.now in
    let turns = c.loop-turns.turns in
    let log : ℕ = c.in-Some.log in
    let outline = c.in-Ok.outline in
    record {
      reads = read_then _ _ _ _ _ _ turned c.outline_of.ensures.reads;
      bound = omega (arith, c.max-status.ensures, status_bound outline _ c.status.ensures, c.loop-turns.invariant.bound);
      lines = λ honest.
          let o = c.loop-turns.invariant.lines honest in
          let order = c.in_ok-log.ensures.order o.still in
          let turn = subst (λ (o : Option ℕ). TakesTurn turns.ids.items turns.at o c.next.new.self.ids.items c.next.new.self.at) c.in-Some.is order.1 in
          let found = subst (λ (fs : Files). OfFile fs log (λ file. HasOutline file outline)) (turned.1 honest)
          (c.in-Ok.ensures.ok (honest_still _ _ _ _ turned honest)) in
          outlined_more files turns.ids.items _ turns.at _ log turns.is_missing _ c.loop-turns.status c.max-status.result _ _ _ o turn order.0
          (λ (calm : c.max-status.result ≡ 0). omega (arith, c.max-status.ensures, calm))
          (λ (calm : c.max-status.result ≡ 0). row_written files log outline _ _ _ found c.status.ensures c.in_ok-write_outline.ensures
          (omega (arith, c.max-status.ensures, calm)));
    }

pub returns-clause-done : goal.returns-clause-done
returns-clause-done g c = λ honest fine.
    let turns = c.loop-turns.turns in
    let o = c.loop-turns.invariant.lines honest in
    let turn = subst (λ (o : Option ℕ). TakesTurn turns.ids.items turns.at o c.next.new.self.ids.items c.next.new.self.at) c.in_default.is
    (c.in_ok-log.ensures.order o.still).1 in
    outlined_all (g.D.LogDisk.files c.args.disk.now) turns.ids.items _ turns.at _ turns.is_missing c.loop-turns.status _ _ o turn fine
