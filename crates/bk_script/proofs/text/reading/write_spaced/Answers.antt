use Rattle.std.proofs.Common.{rules}
use Rattle.bk_script.proofs.Texts.{spaced_more}
use Rattle.bk_script.proofs.text.reading.write_spaced.Goals as goal

pub loop-number-preserved : goal.loop-number-preserved
loop-number-preserved g c = λ p.
    spaced_more _ _ _ _ _ _ _ c.loop-number-test.true (c.loop-number.invariant p) c.write.ensures.writes (search rules)
