use Rattle.std.proofs.Common.{take}
use Rattle.std.specs.Io.KnownBytes.{Appends}
use Rattle.bk_script.specs.Text.{lines_of}
use Rattle.bk_script.proofs.run.write_answers.Given as goal

abbrev pub invariant-loop-answer : goal.invariant-loop-answer
invariant-loop-answer g l = Appends (g.W.Write.contents l.initial.writer) (g.W.Write.contents l.writer) (lines_of (take l.answer-index l.answers))
