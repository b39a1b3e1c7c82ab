use Rattle.std.proofs.Common.{ℕ, ◌+◌, List, ap, nat_cmp, arith}
use Rattle.std.specs.FinMap.{from_entries}
use Rattle.bk_head.specs.Ledgers.{map_of}
use Rattle.bk_head.proofs.MapViews.{map_of-insert}
use Rattle.bk_head.proofs.Writable.{small_empty, small_insert, writable}
use Rattle.bk_base_tests.proofs.tests.head.writing.map_of_ledgers.Goals as goal

pub loop-number-init : goal.loop-number-init
loop-number-init c = small_empty (map_of c.new-map.result) (ap (λ (es : List (ℕ × ℕ)). from_entries {R = nat_cmp} es) c.new-map.ensures.empty)

pub loop-number-preserved : goal.loop-number-preserved
loop-number-preserved c =
    small_insert (map_of c.loop-number.map) (map_of c.insert.new.self) (c.args.first + c.loop-number.number) c.args.size c.loop-number.number
    (map_of-insert c.loop-number.map c.insert.new.self (c.args.first + c.loop-number.number) c.args.size c.in_ok-insert.ensures.updates.0)
    (omega arith, omega arith) c.loop-number.invariant

pub returns : goal.returns
returns c = writable (map_of c.loop-number.map) c.loop-number.number (omega arith) c.loop-number.invariant
