use Rattle.std.proofs.Common.{arith, subst, take_all}
use Rattle.std.specs.Io.KnownBytes.{Consumes}
use Rattle.bk_serve_core.proofs.frame.read_length.Goals as goal

pub returns : goal.returns
returns g c = record {
  field = c.fill.new.buffer;
  four = omega (arith, c.in_ok-got.ensures.len);
  says = c.from_be_bytes-length.ensures;
  least = omega (arith, c.if-length-lt-SHORTEST_FRAME.false);
  most = omega (arith, c.if-length-gt-LONGEST_FRAME.false);
  bytes = subst (Consumes _ _) (take_all c.in_ok-got.got c.fill.new.buffer (omega (arith, c.in_ok-got.ensures.len, c.if-got-lt4.false))) c.in_ok-got.ensures.bytes;
}
