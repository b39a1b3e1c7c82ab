use Rattle.std.proofs.Common.{◌≡◌, ◌^◌, ◌<◌, List, sym, subst, ◌∙◌, arith}
use Rattle.bk_manifest.specs.File.{header_of}
use Rattle.bk_manifest.specs.Fact.{Fact}
use Rattle.bk_manifest.specs.State.{IsStateOf}
use Rattle.bk_manifest.proofs.Believing.{header_believed, none_durable}
use Rattle.bk_manifest.proofs.Kept.{none_noted}
use Rattle.bk_manifest.proofs.manifest.Manifest.create.Goals as goal

pub invariant_of-result : goal.invariant_of-result
invariant_of-result g c =
    let small : c.args.generation < 2 ^ 64 = omega arith in
    record {
      room = none_noted c.new-state.result _ c.new-noted.ensures.items;
      believed = λ honest.
          let was = sym c.replace.ensures.honest ∙ honest in
          let bytes : g.F.ManifestFile.bytes c.replace.new.self ≡ header_of c.args.generation =
          c.in_ok-replace.ensures.ok was ∙ c.deref.ensures.value ∙ c.in_ok-header.ensures in
          header_believed _ _ c.args.generation small bytes (c.in_ok-replace.ensures.durable was);
      means = λ honest.
          let was = sym c.replace.ensures.honest ∙ honest in
          let bytes : g.F.ManifestFile.bytes c.replace.new.self ≡ header_of c.args.generation =
          c.in_ok-replace.ensures.ok was ∙ c.deref.ensures.value ∙ c.in_ok-header.ensures in
          subst (λ (fs : List Fact). IsStateOf fs c.new-state.result) (sym (none_durable _ _ c.args.generation small bytes (c.in_ok-replace.ensures.durable was)))
          c.new-state.ensures;
    }

pub returns-clause-empty : goal.returns-clause-empty
returns-clause-empty g c = λ was.
    let bytes : g.F.ManifestFile.bytes c.replace.new.self ≡ header_of c.args.generation =
    c.in_ok-replace.ensures.ok was ∙ c.deref.ensures.value ∙ c.in_ok-header.ensures in
    let small : c.args.generation < 2 ^ 64 = omega arith in
    none_durable _ _ c.args.generation small bytes (c.in_ok-replace.ensures.durable was)
