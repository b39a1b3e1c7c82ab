use Rattle.std.proofs.Common.{refl}
use Rattle.bk_drive.proofs.run.call.Goals as goal

pub returns-in-Swap-clause-transition : goal.returns-in-Swap-clause-transition
returns-in-Swap-clause-transition g c = rw c.in-Swap.is (c.swap.result, refl, c.swap.ensures.transition)

pub returns-in-WriteOne-clause-transition : goal.returns-in-WriteOne-clause-transition
returns-in-WriteOne-clause-transition g c = rw c.in-WriteOne.is (c.write_one.result, refl, c.write_one.ensures.transition)

pub returns-in-Publish-clause-transition : goal.returns-in-Publish-clause-transition
returns-in-Publish-clause-transition g c = rw c.in-Publish.is (c.publish.result, refl, c.publish.ensures.transition)

pub returns-in-Roll-clause-transition : goal.returns-in-Roll-clause-transition
returns-in-Roll-clause-transition g c = rw c.in-Roll.is (c.roll.result, refl, c.roll.ensures.transition)

pub returns-in-Retire-clause-transition : goal.returns-in-Retire-clause-transition
returns-in-Retire-clause-transition g c = rw c.in-Retire.is (c.retire.result, refl, c.retire.ensures.transition)

pub returns-in-Rebuild-clause-transition : goal.returns-in-Rebuild-clause-transition
returns-in-Rebuild-clause-transition g c = rw c.in-Rebuild.is (c.rebuild.result, refl, c.rebuild.ensures.transition)

pub returns-in-Close-clause-transition : goal.returns-in-Close-clause-transition
returns-in-Close-clause-transition g c = rw c.in-Close.is (c.close.result, refl, c.close.ensures.transition)

pub returns-in-Remove-clause-transition : goal.returns-in-Remove-clause-transition
returns-in-Remove-clause-transition g c = rw c.in-Remove.is (c.remove.result, refl, c.remove.ensures.transition)

pub returns-in-Begin-clause-transition : goal.returns-in-Begin-clause-transition
returns-in-Begin-clause-transition g c = rw c.in-Begin.is (c.begin.result, refl, c.begin.ensures.transition)

pub returns-in-Copy-clause-transition : goal.returns-in-Copy-clause-transition
returns-in-Copy-clause-transition g c = rw c.in-Copy.is (c.copy.result, refl, c.copy.ensures.transition)

pub returns-in-EndCopy-clause-transition : goal.returns-in-EndCopy-clause-transition
returns-in-EndCopy-clause-transition g c = rw c.in-EndCopy.is (c.end_copy.result, refl, c.end_copy.ensures.transition)

pub returns-in-Switch-clause-transition : goal.returns-in-Switch-clause-transition
returns-in-Switch-clause-transition g c = rw c.in-Switch.is (c.switch.result, refl, c.switch.ensures.transition)

pub returns-in-Finish-clause-transition : goal.returns-in-Finish-clause-transition
returns-in-Finish-clause-transition g c = rw c.in-Finish.is (c.finish.result, refl, c.finish.ensures.transition)

pub returns-in-GiveUp-clause-transition : goal.returns-in-GiveUp-clause-transition
returns-in-GiveUp-clause-transition g c = rw c.in-GiveUp.is (c.give_up.result, refl, c.give_up.ensures.transition)
