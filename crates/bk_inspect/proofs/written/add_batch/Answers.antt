use Rattle.std.proofs.Common.{ℕ, ◌+◌, ◌*◌, ◌≤◌, ◌++◌, List, length, take, drop, sym, subst, arith}
use Rattle.bk_head.specs.Faults.{OrMemory, PairFault, ReachesNew}
use Rattle.bk_inspect.specs.declared.fault.DirFault.{DirFault}
use Rattle.bk_inspect.specs.Maps.{PairFaultIf}
use Rattle.bk_inspect.proofs.Lost.{piece_told}
use Rattle.bk_head.specs.Ledgers.{map_of}
use Rattle.bk_head.specs.Parts.{AddsPairs}
use Rattle.bk_inspect.proofs.Maps.{pairs_more}
use Rattle.bk_inspect.proofs.written.add_batch.Goals as goal

pub loop-done-preserved : goal.loop-done-preserved
loop-done-preserved g c = (
  omega (arith, c.min-some.ensures, c.loop-done-test.true),
  λ honest before fresh made.
      let file = g.V.LogView.bytes c.args.view.now in
      let read = c.in_ok-bytes.ensures.ok honest in
      let a = c.loop-done.invariant.1 honest before fresh made in
      let piece = c.in-Ok.ensures (before ++ a.good) a.distinct a.map_is in
      pairs_more file c.args.from c.loop-done.done c.min-some.result c.in_ok-bytes.bytes.items before (map_of c.loop-done.map) (map_of c.add_pairs.new.map)
      (omega (arith, c.min-some.ensures, c.loop-done-test.true)) read.0 read.1 a
      (subst (λ (x : List ℕ). AddsPairs (before ++ a.good) x (map_of c.add_pairs.new.map)) c.deref.ensures.value piece),
)

pub returns-in-Err-clause-err : goal.returns-in-Err-clause-err
returns-in-Err-clause-err g c = λ honest before fresh made.
    let file = g.V.LogView.bytes c.args.view.now in
    let count = c.args.count in
    let bytes = c.in_ok-bytes.bytes.items in
    let read = c.in_ok-bytes.ensures.ok honest in
    let a = c.loop-done.invariant.1 honest before fresh made in
    let piece = c.in-Err.ensures (before ++ a.good) a.distinct a.map_is in
    let some : c.loop-done.done + c.min-some.result ≤ count = omega (arith, c.min-some.ensures, c.loop-done-test.true) in
    let within : c.args.from + 16 * count ≤ length file =
    omega (arith, read.0.0, read.0.1, c.requires.within honest, c.min-some.ensures, c.loop-done-test.true) in
    subst (λ (f : DirFault). PairFaultIf before (take (16 * count) (drop c.args.from file)) f) (sym c.of_head.ensures)
    (piece_told file c.args.from c.loop-done.done c.min-some.result count bytes before (map_of c.loop-done.map) _ c.in-Err.fault
    (c.bounds.ensures honest) some within read.1 a
    (subst (λ (x : List ℕ). OrMemory c.in-Err.fault (ReachesNew (before ++ a.good) x) (PairFault (before ++ a.good) x c.in-Err.fault)) c.deref.ensures.value piece))
