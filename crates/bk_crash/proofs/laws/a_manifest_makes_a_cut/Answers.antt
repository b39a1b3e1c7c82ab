use Rattle.bk_crash.proofs.Remaining.{opened_leaves, nothing_lacks}
use Rattle.bk_crash.proofs.laws.a_manifest_makes_a_cut.Goals as goal

pub returns-clause-leaves : goal.returns-clause-leaves
returns-clause-leaves c = λ files gone kept left seen limits records noted k was damage opens. opened_leaves files gone kept left limits records noted k was damage seen opens

pub returns-clause-whole : goal.returns-clause-whole
returns-clause-whole c = λ files gone kept left limits records noted k was damage l. nothing_lacks files gone kept left limits records noted k was damage l
