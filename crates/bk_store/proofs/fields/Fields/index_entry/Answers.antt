use Rattle.std.proofs.Common.{ℕ, Vec, Global, Some, option_map, sym, ap, ◌∙◌}
use Rattle.bk_store.proofs.Named.{name_turn}
use Rattle.bk_store.proofs.fields.Fields.index_entry.Goals as goal

pub returns-in-Ok-clause-transition : goal.returns-in-Ok-clause-transition
returns-in-Ok-clause-transition g c =
    name_turn _ _ c.args.key c.args.place c.requires.keeps c.requires.may (c.self.view_is ∙ c.in_ok-send.ensures.ok) c.in-Ok.payload.value.items
    (ap (λ (v : Vec ℕ Global). Some v.items) c.in-Ok.ensures.cases
    ∙ sym (ap (option_map (λ b. b.now.value.items)) c.in-Some.is) ∙ c.get.ensures.value) c.get.ensures.sound c.remember.new.self c.remember.ensures.recent
