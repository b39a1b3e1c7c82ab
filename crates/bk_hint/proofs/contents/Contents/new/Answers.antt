use Rattle.bk_hint.proofs.Steps.{kept_new, none_new}
use Rattle.bk_hint.proofs.contents.Contents.new.Goals as goal

pub invariant_of-result : goal.invariant_of-result
invariant_of-result c = rw (c.new.ensures.items, c.new-2.ensures.items, c.origin.ensures) kept_new

pub returns : goal.returns
returns c = rw (c.new.ensures.items, c.new-2.ensures.items) none_new
