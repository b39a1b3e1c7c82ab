use Rattle.std.proofs.Common.{ℕ, ◌+◌, ◌≤◌, List, length, drop, ap, subst, nat_cmp, arith}
use Rattle.std.specs.FinMap.{from_entries}
use Rattle.std.proofs.lemmas.List.{take_rest, length-drop}
use Rattle.std.proofs.lemmas.Result.{err_from_is_err_and}
use Rattle.bk_head.specs.Ledgers.{map_of}
use Rattle.bk_head.specs.Faults.{HasPairs, FaultAt, FirstFault, AsksForMemory}
use Rattle.bk_head.proofs.Batching.{spells_nothing, spells_more, has-front, or_fault, stands_without_memory, stops, stops_at_pair}
use Rattle.bk_head.proofs.reading.read_batches.Goals as goal

pub loop-at-init : goal.loop-at-init
loop-at-init c = (omega arith, spells_nothing (map_of c.new-map.result) (ap (λ (es : List (ℕ × ℕ)). from_entries {R = nat_cmp} es) c.new-map.ensures.empty))

pub returns-in_err-pairs-clause-err : goal.returns-in_err-pairs-clause-err
returns-in_err-pairs-clause-err c =
    let tail = c.args.tail.now in
    let at = c.loop-at.at in
    let fault = c.in_err-pairs.field-0.0 in
    let s = c.loop-at.invariant.1 in
    let stands = subst (λ (x : List ℕ). FaultAt (c.args.offset + at) s.pairs x fault) (take_rest tail at) (c.in_err-pairs.ensures.err s.pairs) in
    let p = err_from_is_err_and c.from_residual.result c.from_residual.ensures.1 in
    rw (p.1, p.2) (or_fault fault (AsksForMemory tail) (FirstFault c.args.offset tail fault)
    (stands_without_memory (c.args.offset + at) s.pairs (drop at tail) fault stands)
    (stops c.args.offset at tail (map_of c.loop-at.map) fault c.loop-at.invariant.0 s stands))

pub returns-in_err-add_pairs-clause-err : goal.returns-in_err-add_pairs-clause-err
returns-in_err-add_pairs-clause-err c =
    let tail = c.args.tail.now in
    let at = c.loop-at.at in
    let pairs = c.in_ok-pairs.pairs.now in
    let s = c.loop-at.invariant.1 in
    let has = subst (λ (x : List ℕ). HasPairs x pairs) (take_rest tail at) c.in_ok-pairs.ensures.ok in
    let p = err_from_is_err_and c.from_residual-in_err-add_pairs.result c.from_residual-in_err-add_pairs.ensures.1 in
    rw (p.1, p.2) (stops_at_pair c.args.offset at tail pairs (map_of c.loop-at.map) c.in_err-add_pairs.field-0.0 c.loop-at.invariant.0 s has
    (c.in_err-add_pairs.ensures s.pairs s.distinct s.map_is))

pub loop-at-preserved : goal.loop-at-preserved
loop-at-preserved c =
    let tail = c.args.tail.now in
    let at = c.loop-at.at in
    let pairs = c.in_ok-pairs.pairs.now in
    let s = c.loop-at.invariant.1 in
    let has = subst (λ (x : List ℕ). HasPairs x pairs) (take_rest tail at) c.in_ok-pairs.ensures.ok in
    let within : 24 + length pairs ≤ length (drop at tail) = (has-front (drop at tail) pairs has).1 in (
      omega (arith, within, length-drop at tail),
      spells_more tail pairs at (map_of c.loop-at.map)
          (map_of c.add_pairs.new.map) c.loop-at.invariant.0 s has (c.in_ok-add_pairs.ensures s.pairs s.distinct s.map_is),
    )
