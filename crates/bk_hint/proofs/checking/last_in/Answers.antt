use Rattle.std.proofs.Common.{◌≡◌, ◌<◌, length, arith, rules}
use Rattle.std.proofs.lemmas.Bool.Decides.{nat_tests}
use Rattle.bk_hint.proofs.Checks.{checks_start, checks_end, checks_left}
use Rattle.bk_hint.proofs.checking.last_in.Goals as goal

pub steps-init : goal.steps-init
steps-init c = checks_start c.args.heads.now c.args.steps.now c.origin-last.result c.origin-last.ensures

pub returns-then-is_empty-clause-kept : goal.returns-then-is_empty-clause-kept
returns-then-is_empty-clause-kept c =
    let cases = c.in_default.ensures.cases in
    let none : length c.steps.rest.now ≡ 0 = first_of (omega arith, grind (arith, nat_tests), search rules) in
    let none_left : length c.steps.left.now ≡ 0 = grind (arith, nat_tests) in
    checks_end c.args.heads.now c.args.steps.now c.steps.last c.steps.left.now c.steps.rest.now c.steps.invariant none none_left

pub returns-else-is_empty-clause-none : goal.returns-else-is_empty-clause-none
returns-else-is_empty-clause-none c =
    let cases = c.in_default.ensures.cases in
    let none : length c.steps.rest.now ≡ 0 = first_of (omega arith, grind (arith, nat_tests), search rules) in
    let some : 0 < length c.steps.left.now = grind (arith, nat_tests) in
    λ _ sound. checks_left c.args.heads.now c.args.steps.now c.steps.last c.steps.left.now c.steps.rest.now c.steps.invariant none some sound
