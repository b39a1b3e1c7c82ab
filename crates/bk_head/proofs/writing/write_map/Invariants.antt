use Rattle.std.proofs.Common.{◌+◌, ◌≤◌, length, vec_capacity}
use Rattle.bk_head.specs.Written.{written_pairs}
use Rattle.bk_head.proofs.Unwritten.{Goes}
use Rattle.bk_head.proofs.writing.write_map.Given as goal

-- loop invariant: the bytes written and those still to be written are the written form, for which
-- there is room
abbrev pub invariant-loop-ledger : goal.invariant-loop-ledger
invariant-loop-ledger l = record {
  goes : Goes l.out.items l.fn.out.items l.room l.left l.ledger-iterator l.map.entries;
  fits : length l.fn.out.items + length (written_pairs l.map.entries) ≤ vec_capacity l.out;
}
