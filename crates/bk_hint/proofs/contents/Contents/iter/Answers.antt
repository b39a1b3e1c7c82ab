use Rattle.std.proofs.Common.{subst}
use Rattle.bk_hint.specs.Entries.{AreFrom, past, origin}
use Rattle.bk_hint.proofs.contents.Contents.iter.Goals as goal

pub returns-clause-in_order : goal.returns-clause-in_order
returns-clause-in_order c = subst (AreFrom (past origin)) c.self.view_is c.self.invariant.sound.in_order
