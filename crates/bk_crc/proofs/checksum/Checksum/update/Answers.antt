use Rattle.std.proofs.Common.{◌<◌, ℕ, ◌++◌, get_or, take, refl, sym, ◌∙◌, arith}
use Rattle.std.proofs.lemmas.List.{append-nil, take_all}
use Rattle.bk_crc.proofs.Tables.{table_more, message_more}
use Rattle.bk_crc.proofs.checksum.Checksum.update.Goals as goal

pub loop-byte-init : goal.loop-byte-init
loop-byte-init c = record {
  polynomial = refl;
  holds = λ polynomial message held. rw (append-nil message) held;
}

pub loop-byte-preserved : goal.loop-byte-preserved
loop-byte-preserved c = record {
  polynomial = c.loop-byte.invariant.polynomial;
  holds = λ polynomial message held.
      let before = c.loop-byte.invariant.holds polynomial message held in
      let at : ℕ = c.loop-byte.byte-index in
      let low : get_or c.args.bytes.now at 0 < 256 = omega (arith, c.type_inv.bytes at) in
      let own = sym c.loop-byte.invariant.polynomial ∙ before.same in
      record {
        same = before.same;
        remainder = rw (← message_more message c.args.bytes.now at c.loop-byte-test.true)
            (table_more polynomial c.table_of-table.result.now (message ++ take at c.args.bytes.now) (get_or c.args.bytes.now at 0) c.loop-byte.self.register
            (rw own at c.table_of-table.ensures) low before.remainder);
      };
}

pub returns : goal.returns
returns c = λ polynomial message held.
    rw (take_all c.loop-byte.byte-index c.args.bytes.now c.loop-byte-test.false) at (c.loop-byte.invariant.holds polynomial message held)
