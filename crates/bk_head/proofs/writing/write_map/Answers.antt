use Rattle.std.proofs.Common.{◌≡◌, ℕ, false, Result, Ok, Err, List, ◌++◌, length, sym, ap, ◌∙◌, arith, vec_capacity, OnOk}
use Rattle.std.specs.Result.{is_err}
use Rattle.std.specs.Int.{div_ceil}
use Rattle.bk_head.specs.Ledgers.{map_of}
use Rattle.bk_head.specs.Written.{written_pairs}
use Rattle.bk_head.proofs.MapViews.{entries-map_of, len-map_of}
use Rattle.bk_head.proofs.Spelling.{written_spells, length-written_pairs}
use Rattle.bk_head.proofs.Unwritten.{Wants, goes_start, goes_end, wants_begun, head_fits, pair_fits, wants_pair}
use Rattle.bk_head.proofs.writing.write_map.Goals as goal
use Rattle.bk_head.proofs.writing.write_map.Goals.{After-pair_bytes, then-room-eq0, else-room-eq0}

pub overflow_mul-left : goal.overflow_mul-left
overflow_mul-left c = omega (arith, c.requires.few, len-map_of c.args.map.now c.len-left.ensures.ordered, c.len-left.ensures.len)

pub overflow_add-div_ceil : goal.overflow_add-div_ceil
overflow_add-div_ceil c = omega (arith, c.requires.few, len-map_of c.args.map.now c.len-left.ensures.ordered, c.len-left.ensures.len, c.div_ceil.ensures)

pub returns-then-is_err-clause-spells : goal.returns-then-is_err-clause-spells
returns-then-is_err-clause-spells c = written_spells (map_of c.args.map.now) c.requires

pub returns-clause-spells : goal.returns-clause-spells
returns-clause-spells c = written_spells (map_of c.args.map.now) c.requires

on_ok : {T E P : Type 0} (r : Result T E) → is_err r ≡ false → OnOk r P → P
on_ok (Ok x) e h = h
on_ok (Err x) e h = absurd cc

pub loop-ledger-init : goal.loop-ledger-init
loop-ledger-init c =
    let room = on_ok c.reserve.result (sym c.is_err.ensures.value ∙ c.if-is_err.false) c.reserve.ensures.ok in
    let long : c.len-left.result ≡ length c.args.map.now.entries = c.len-left.ensures.len in
    record {
      goes = goes_start c.reserve.new.self.items c.args.out.now.items c.len-left.result c.into_iter-ledger-iterator.result c.args.map.now.entries
          c.reserve.ensures.items long c.into_iter-ledger-iterator.ensures.into_iter_gives.0;
      fits = omega (
        arith,
        room,
        c.reserve.ensures.len,
        c.args.out.now.ok.0,
        length-written_pairs c.args.map.now.entries,
        c.div_ceil.ensures,
        ap
            (λ n. div_ceil n 10000) long,
        long,
      );
    }

pub append-requires : goal.append-requires
append-requires c =
    let fits = head_fits c.loop-ledger.out.items c.args.out.now.items c.batch_head.result c.loop-ledger.room c.loop-ledger.left c.min-room.result
    (c.in-Some.ledger.now, c.in-Some.size.now) c.loop-ledger.ledger-iterator c.next.new.self c.args.map.now.entries
    (vec_capacity c.loop-ledger.out) c.in-Some.ensures.steps c.if-room-eq0.true c.min-room.ensures c.loop-ledger.invariant.goes c.batch_head.ensures
    c.loop-ledger.invariant.fits in
    omega (arith, fits, c.loop-ledger.out.ok.0)

-- after both branches a batch has begun
wants : (c : After-pair_bytes) → Wants c.if-room-eq0.out.items c.args.out.now.items c.if-room-eq0.room c.loop-ledger.left
    c.loop-ledger.ledger-iterator c.args.map.now.entries (vec_capacity c.if-room-eq0.out)
wants c = elim c.if-room-eq0.branch [
  | then-room-eq0 w ↦ rw (w.out-is, w.room-is)
      (wants_begun c.loop-ledger.out.items c.args.out.now.items w.append.new.out.items w.batch_head.result c.loop-ledger.room c.loop-ledger.left
      w.min-room.result (c.in-Some.ledger.now, c.in-Some.size.now) c.loop-ledger.ledger-iterator c.next.new.self c.args.map.now.entries
      (vec_capacity w.append.new.out) c.in-Some.ensures.steps w.if-room-eq0.true w.min-room.ensures c.loop-ledger.invariant.goes
      w.append.ensures.items w.batch_head.ensures (omega (arith, c.loop-ledger.invariant.fits, w.append.ensures.room)))
  | else-room-eq0 w ↦ rw (w.out-is, w.room-is)
      (record { goes = c.loop-ledger.invariant.goes; some = omega (arith, w.if-room-eq0.false); fits = c.loop-ledger.invariant.fits })
]

pub append-requires-in-loop-ledger : goal.append-requires-in-loop-ledger
append-requires-in-loop-ledger c =
    let fits = pair_fits c.if-room-eq0.out.items c.args.out.now.items c.pair_bytes.result c.if-room-eq0.room c.loop-ledger.left
    (c.in-Some.ledger.now, c.in-Some.size.now) c.loop-ledger.ledger-iterator c.next.new.self c.args.map.now.entries
    (vec_capacity c.if-room-eq0.out) c.in-Some.ensures.steps (wants (goal.at.append-requires-in-loop-ledger c).After-pair_bytes) c.pair_bytes.ensures in
    omega (arith, fits, c.if-room-eq0.out.ok.0)

pub loop-ledger-preserved : goal.loop-ledger-preserved
loop-ledger-preserved c =
    let w = wants (goal.at.loop-ledger-preserved c).After-pair_bytes in
    record {
      goes = wants_pair c.if-room-eq0.out.items c.args.out.now.items c.append-in-loop-ledger.new.out.items c.pair_bytes.result c.if-room-eq0.room
          c.loop-ledger.left (c.in-Some.ledger.now, c.in-Some.size.now) c.loop-ledger.ledger-iterator c.next.new.self c.args.map.now.entries
          (vec_capacity c.if-room-eq0.out) c.in-Some.ensures.steps w c.append-in-loop-ledger.ensures.items c.pair_bytes.ensures;
      fits = omega (arith, w.fits, c.append-in-loop-ledger.ensures.room);
    }

pub returns-clause-ok : goal.returns-clause-ok
returns-clause-ok c =
    goes_end c.loop-ledger.out.items c.args.out.now.items c.loop-ledger.room c.loop-ledger.left c.loop-ledger.ledger-iterator c.args.map.now.entries
    c.in-None.ensures.steps.0 c.loop-ledger.invariant.goes
    ∙ ap (λ (x : List (ℕ × ℕ)). c.args.out.now.items ++ written_pairs x) (sym (entries-map_of c.args.map.now c.len-left.ensures.ordered))
