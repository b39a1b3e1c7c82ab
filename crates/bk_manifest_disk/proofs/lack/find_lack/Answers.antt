use Rattle.std.proofs.Common.{◌≡◌, List, take, ap, subst, ◌∙◌}
use Rattle.std.specs.List.{AllByRecursion}
use Rattle.std.proofs.lemmas.List.{take_all}
use Rattle.bk_manifest.specs.Fact.{Fact, facts}
use Rattle.bk_manifest.specs.State.{standing}
use Rattle.bk_manifest_disk.specs.Table.{IsChecked}
use Rattle.bk_manifest_disk.proofs.Lacks.{bytes_there}
use Rattle.bk_manifest_disk.proofs.lack.find_lack.Goals as goal

pub returns-clause-none : goal.returns-clause-none
returns-clause-none c = λ records is.
    let all : facts (take c.loop-one.one-index c.deref-one-items.result.now) ≡ standing c.args.state.now =
    ap facts (take_all c.loop-one.one-index c.deref-one-items.result.now c.loop-one-test.false) ∙ ap facts c.deref-one-items.ensures.value ∙ c.in_ok-records.ensures.standing in
    bytes_there (standing c.args.state.now) records c.args.state.now c.args.lengths.now
    (subst (λ (fs : List Fact). AllByRecursion (IsChecked c.args.state.now c.args.lengths.now) fs) all c.loop-one.invariant) is
    (c.in_ok-records.ensures.meaning records is)
