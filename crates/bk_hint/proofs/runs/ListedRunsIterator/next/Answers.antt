use Rattle.std.proofs.Common.{◌≡◌, [], ◌∷◌, sym, ◌∙◌, arith, rules}
use Rattle.std.proofs.lemmas.Grind.{common_steps}
use Rattle.bk_hint.specs.Runs.{runs_of}
use Rattle.bk_hint.proofs.Turning.{turn_repeatable, run_goes_on, run_gives, none_left}
use Rattle.bk_hint.proofs.runs.ListedRunsIterator.next.Goals as goal

pub behind-self-inside-requires-clause-id : goal.behind-self-inside-requires-clause-id
behind-self-inside-requires-clause-id c =
    (turn_repeatable c.self.inside.last c.self.inside.heads.now c.self.inside.steps.now c.in-Some.first c.in-Some.again c.in-Some.heads.now c.in-Some.steps.now
    c.self.invariant c.in-Some.ensures).id

pub invariant_of-self : goal.invariant_of-self
invariant_of-self c =
    run_goes_on c.in-Some.first c.in-Some.again c.in-Some.heads.now c.in-Some.steps.now c.behind-self-inside.result c.in-Some.ensures.goes_on
    c.behind-self-inside.ensures

pub returns-in-Some-clause-steps : goal.returns-in-Some-clause-steps
returns-in-Some-clause-steps c =
    sym c.self.view_is
    ∙ run_gives c.self.inside.last c.self.inside.heads.now c.self.inside.steps.now c.in-Some.first c.in-Some.again c.in-Some.heads.now c.in-Some.steps.now
    c.behind-self-inside.result c.in-Some.ensures c.behind-self-inside.ensures

pub returns-in-Some-clause-goes : goal.returns-in-Some-clause-goes
returns-in-Some-clause-goes c =
    let gives : c.args.self.now ≡ record { first = c.in-Some.first; again = c.in-Some.again } ∷ runs_of c.behind-self-inside.result c.in-Some.heads.now c.in-Some.steps.now =
    sym c.self.view_is
    ∙ run_gives c.self.inside.last c.self.inside.heads.now c.self.inside.steps.now c.in-Some.first c.in-Some.again c.in-Some.heads.now c.in-Some.steps.now
    c.behind-self-inside.result c.in-Some.ensures c.behind-self-inside.ensures in
    first_of (search rules, grind (arith, common_steps))

pub returns-in-None-clause-steps : goal.returns-in-None-clause-steps
returns-in-None-clause-steps c =
    let none : c.args.self.now ≡ [] =
    sym c.self.view_is ∙ none_left c.self.inside.last c.self.inside.heads.now c.self.inside.steps.now c.in-None.ensures in
    (none, none)
