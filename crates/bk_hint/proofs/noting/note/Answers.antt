use Rattle.std.proofs.Common.{◌≡◌, ℕ, ◌+◌, ◌-◌, ◌^◌, ◌<◌, List, [], ◌∷◌, ◌++◌, refl, sym, ap, ◌∙◌, subst, arith, rules}
use Rattle.std.proofs.lemmas.Result.{on_ok_weaker}
use Rattle.bk_hint.specs.declared.listed.Listed.{Listed}
use Rattle.bk_hint.specs.Entries.{next_of, last_of, origin, entries_of, Lists}
use Rattle.bk_hint.proofs.Steps.{begun, stepped, repeated, gained}
use Rattle.bk_hint.proofs.noting.note.Goals as goal

pub returns-then-next-last-clause-ok : goal.returns-then-next-last-clause-ok
returns-then-next-last-clause-ok c =
    let heads = c.args.heads.now.items in
    let steps = c.args.steps.now.items in
    let last : Listed = c.args.last.now in
    let next : Listed = c.args.next.now in
    let kept = c.requires.kept in
    let behind : next ≡ next_of last next.size = c.if-follows.ensures.0 refl in
    let size : next.size ≡ last.size = search rules in
    let is : next_of last last.size ≡ next = ap (next_of last) (sym size) ∙ sym behind in
    on_ok_weaker c.repeat.result
    (λ repeats. gained heads steps last next heads c.repeat.new.steps.items kept c.requires.behind c.requires.legal
    (repeated heads steps c.repeat.new.steps.items next kept.sound.heads_fit repeats
    (ap (λ (l : Listed). next_of l l.size) (sym kept.last_is) ∙ is)))
    c.repeat.ensures.ok

pub returns-then-follows-clause-ok : goal.returns-then-follows-clause-ok
returns-then-follows-clause-ok c =
    let heads = c.args.heads.now.items in
    let steps = c.args.steps.now.items in
    let last : Listed = c.args.last.now in
    let next : Listed = c.args.next.now in
    let kept = c.requires.kept in
    let legal = c.requires.legal in
    let behind : next ≡ next_of last next.size = c.if-follows.ensures.0 refl in
    let step : ℕ = next.size - 4 in
    let size : step + 4 ≡ next.size = omega (arith, legal.least) in
    let some : 0 < step = omega (arith, legal.least) in
    let low : step < 2 ^ 31 = omega (arith, legal.least, legal.most) in
    let is : next_of (last_of origin (entries_of origin heads steps)) (step + 4) ≡ next =
    ap (λ (l : Listed). next_of l (step + 4)) (sym kept.last_is) ∙ ap (next_of last) size ∙ sym behind in
    let now : c.push.new.self.items ≡ steps ++ step ∷ [] = c.in_ok-push.ensures.items in
    gained heads steps last next heads c.push.new.self.items kept c.requires.behind legal
    (subst (λ (ws : List ℕ). Lists heads ws (entries_of origin heads steps ++ next ∷ [])) (sym now)
    (stepped heads steps step next kept.sound.heads_fit some low is))

pub returns-clause-ok : goal.returns-clause-ok
returns-clause-ok c =
    let heads = c.args.heads.now.items in
    let steps = c.args.steps.now.items in
    let last : Listed = c.args.last.now in
    let next : Listed = c.args.next.now in
    let kept = c.requires.kept in
    on_ok_weaker c.begin.result
    (λ begins_here. gained heads steps last next c.begin.new.heads.items c.begin.new.steps.items kept c.requires.behind c.requires.legal
    (subst (λ (p : List _ × List ℕ). Lists p.0 p.1 (entries_of origin heads steps ++ next ∷ []))
    (sym (λ i. (begins_here.heads_are i, begins_here.steps_are i)))
    (begun heads steps begins_here.head next kept.sound.heads_fit begins_here.first)))
    c.begin.ensures.ok
