use Rattle.std.proofs.Common.{Some, None, if◌then◌else◌, ◌∙◌, ap, sym}
use Rattle.bk_disk.specs.Doubts.{lost, trouble_of}
use Rattle.bk_disk.proofs.Doubts.{trouble_of-get}
use Rattle.bk_disk.proofs.trouble.Troubles.find.Goals as goal

pub returns-in-Some : goal.returns-in-Some
returns-in-Some c =
    sym (ap (λ d. trouble_of d c.args.log) (sym c.self.view_is)
    ∙ trouble_of-get c.self.inside.logs c.self.inside.is_full c.args.log (Some c.in-Some.trouble)
    (sym c.get.ensures.value ∙ sym c.copied.ensures ∙ c.in-Some.is))

pub returns-in-None : goal.returns-in-None
returns-in-None c =
    sym (ap (λ d. trouble_of d c.args.log) (sym c.self.view_is)
    ∙ trouble_of-get c.self.inside.logs c.self.inside.is_full c.args.log None (sym c.get.ensures.value ∙ sym c.copied.ensures ∙ c.in-None.is)
    ∙ ap (λ all. if all then Some lost else None) c.if-self.true)

pub returns-in-None-2 : goal.returns-in-None-2
returns-in-None-2 c =
    sym (ap (λ d. trouble_of d c.args.log) (sym c.self.view_is)
    ∙ trouble_of-get c.self.inside.logs c.self.inside.is_full c.args.log None (sym c.get.ensures.value ∙ sym c.copied.ensures ∙ c.in-None.is)
    ∙ ap (λ all. if all then Some lost else None) c.if-self.false)
