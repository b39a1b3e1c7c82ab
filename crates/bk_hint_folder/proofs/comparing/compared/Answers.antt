use Rattle.std.proofs.Common.{◌∙◌, ℕ, List, Option, IfSome, Vec, refl, sym, subst}
use Rattle.std.specs.Global.{Global}
use Rattle.bk_hint_disk.specs.Truth.{IsTrueHint}
use Rattle.bk_hint_folder.proofs.comparing.compared.Goals as goal

pub returns-then-is_same : goal.returns-then-is_same
returns-then-is_same g c = λ honest _.
    let file = g.V.LogView.bytes c.args.view.now in
    let fact = subst (λ (o : Option (Vec ℕ Global)). IfSome o (λ h. IsTrueHint file h.items)) c.in-Ok-Some.field-0-is (c.in-Ok-Some.ensures.records honest) in
    let same = sym c.deref.ensures.value ∙ c.if-is_same.ensures refl in
    (subst (λ (h : List ℕ). IsTrueHint file h) same fact, (c.in-Ok.field-0, c.in-Ok.ensures.usable honest))
