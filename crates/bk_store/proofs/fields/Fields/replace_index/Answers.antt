use Rattle.std.proofs.Common.{rules, sym, subst}
use Rattle.bk_store.specs.State.{StoreParts}
use Rattle.bk_store.specs.Deletion.{AreNamedBy}
use Rattle.bk_store.proofs.InvariantReplaceIndex.{unnamed_all, renamed}
use Rattle.bk_store.proofs.fields.Fields.replace_index.Goals as goal
use Rattle.bk_store.proofs.fields.Fields.replace_index.Goals.{in-Some, in_default}

pub name_each-requires : goal.name_each-requires
name_each-requires g c = unnamed_all c.self.inside.accounts c.unname_each.new.accounts c.unname_each.ensures

pub returns-clause-internals : goal.returns-clause-internals
returns-clause-internals g c =
    let named : AreNamedBy c.args.index c.args.self.now.accounts c.name_each.new.accounts =
    subst (λ (p : StoreParts). AreNamedBy c.args.index p.accounts c.name_each.new.accounts) c.self.view_is
    (renamed c.args.index c.self.inside.accounts c.unname_each.new.accounts c.name_each.new.accounts c.unname_each.ensures c.name_each.ensures) in
    elim c.match-self.branch [
      | in-Some w ↦ (
        subst (λ x. AreNamedBy x.index c.args.self.now.accounts x.accounts) (sym w.self-inside-is) named,
        search rules,
      )
      | in_default w ↦ (
        subst (λ x. AreNamedBy x.index c.args.self.now.accounts x.accounts) (sym w.self-inside-is) named,
        search rules,
      )
    ]
