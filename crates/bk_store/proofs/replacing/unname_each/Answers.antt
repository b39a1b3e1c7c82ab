use Rattle.std.proofs.Common.{ap, ◌∙◌}
use Rattle.std.specs.FinMap as map
use Rattle.bk_store.proofs.Unnaming.{unnamed}
use Rattle.bk_store.proofs.InvariantReplaceIndex.{unnaming_done}
use Rattle.bk_store.proofs.replacing.unname_each.Goals as goal

pub loop-place-preserved : goal.loop-place-preserved
loop-place-preserved c = λ log.
    let so_far = rw c.in-Some.ensures.steps at c.loop-place.invariant in
    ap (λ b. map.get b log) (rw c.log.ensures.value at c.unname.ensures)
    ∙ unnamed (λ _. 0) c.args.accounts.now c.loop-place.accounts (c.in-Some.field-0-0, c.in-Some.place) c.next.new.self so_far log

pub returns : goal.returns
returns c = unnaming_done c.args.accounts.now c.loop-place.accounts (rw c.in-None.ensures.steps.0 at c.loop-place.invariant)
