use Rattle.std.proofs.Common.{All, take, length}
use Rattle.bk_script.specs.Script.{lines_in, IsGood}
use Rattle.bk_script.proofs.Scripts.{Spell}
use Rattle.bk_script.proofs.script.read_steps.Given as goal

abbrev pub invariant-loop-index : goal.invariant-loop-index
invariant-loop-index l = All IsGood (take (length l.yielded) (lines_in l.input)) × Spell (take (length l.yielded) (lines_in l.input)) l.steps.items
