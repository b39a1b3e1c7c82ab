use Rattle.std.proofs.Common.{◌≡◌, ℕ, ◌-◌, [], ◌∷◌, sym, ap, ◌∙◌, arith, rules}
use Rattle.std.proofs.lemmas.Grind.{common_steps}
use Rattle.bk_hint.specs.declared.listed.Listed.{Listed}
use Rattle.bk_hint.specs.Walking.{left_of}
use Rattle.bk_hint.proofs.Walks.{repeat_id, repeat_goes_on, repeat_gives, nothing}
use Rattle.bk_hint.proofs.entries.EntriesIterator.next.Goals as goal

pub repeated-next-requires-clause-id : goal.repeated-next-requires-clause-id
repeated-next-requires-clause-id c =
    repeat_id c.self.inside.last c.self.inside.again c.self.inside.heads.now c.self.inside.steps.now c.self.invariant (omega arith)

pub invariant_of-self : goal.invariant_of-self
invariant_of-self c =
    repeat_goes_on c.self.inside.last c.self.inside.again c.self.inside.heads.now c.self.inside.steps.now c.same-self-inside.result c.self.invariant (omega arith)
    (c.same-self-inside.ensures ∙ c.repeated-next.ensures)

pub returns-then-self-gt0-clause-steps : goal.returns-then-self-gt0-clause-steps
returns-then-self-gt0-clause-steps c =
    let heads = c.self.inside.heads.now in
    let steps = c.self.inside.steps.now in
    let less : ℕ = c.self.inside.again - 1 in
    sym c.self.view_is ∙ repeat_gives c.self.inside.last c.self.inside.again heads steps c.repeated-next.result (omega arith) c.repeated-next.ensures
    ∙ ap (λ (e : Listed). c.repeated-next.result ∷ left_of e less heads steps) (sym c.same-self-inside.ensures)

pub returns-then-self-gt0-clause-goes : goal.returns-then-self-gt0-clause-goes
returns-then-self-gt0-clause-goes c =
    let heads = c.self.inside.heads.now in
    let steps = c.self.inside.steps.now in
    let less : ℕ = c.self.inside.again - 1 in
    let gives : c.args.self.now ≡ c.repeated-next.result ∷ left_of c.same-self-inside.result less heads steps =
    sym c.self.view_is ∙ repeat_gives c.self.inside.last c.self.inside.again heads steps c.repeated-next.result (omega arith) c.repeated-next.ensures
    ∙ ap (λ (e : Listed). c.repeated-next.result ∷ left_of e less heads steps) (sym c.same-self-inside.ensures) in
    first_of (search rules, grind (arith, common_steps))

pub returns-in-None-clause-steps : goal.returns-in-None-clause-steps
returns-in-None-clause-steps c =
    let none : c.args.self.now ≡ [] =
    sym c.self.view_is ∙ nothing c.self.inside.last c.self.inside.again c.self.inside.heads.now c.self.inside.steps.now (omega arith) c.in-None.ensures in
    (none, none)
