use Rattle.std.proofs.Common.{rules}
use Rattle.bk_script.proofs.Texts.{hex_more}
use Rattle.bk_script.proofs.text.write_data.Goals as goal

pub loop-byte-preserved : goal.loop-byte-preserved
loop-byte-preserved g c = λ p.
    hex_more _ _ _ _ _ _ _ c.loop-byte-test.true (c.loop-byte.invariant p) c.write_byte.ensures (search rules)
