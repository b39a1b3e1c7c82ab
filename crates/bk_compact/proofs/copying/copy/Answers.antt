use Rattle.bk_compact.proofs.CompactFrames.{copy_still}
use Rattle.bk_compact.proofs.Turns.{copy_tells}
use Rattle.bk_compact.proofs.copying.copy.Goals as goal

pub returns-then-count-gt0-clause-cause : goal.returns-then-count-gt0-clause-cause
returns-then-count-gt0-clause-cause g c = copy_tells c.args.store.now c.args.count c.go_on.result c.go_on.new.store c.go_on.ensures.transition

pub returns-then-count-gt0-clause-frame : goal.returns-then-count-gt0-clause-frame
returns-then-count-gt0-clause-frame g c = copy_still c.args.store.now c.go_on.new.store c.args.count c.go_on.result c.go_on.ensures.transition

pub returns-clause-cause : goal.returns-clause-cause
returns-clause-cause g c = copy_tells c.args.store.now c.args.count c.examine_none.result c.examine_none.new.store c.examine_none.ensures.transition

pub returns-clause-frame : goal.returns-clause-frame
returns-clause-frame g c = copy_still c.args.store.now c.examine_none.new.store c.args.count c.examine_none.result c.examine_none.ensures.transition
