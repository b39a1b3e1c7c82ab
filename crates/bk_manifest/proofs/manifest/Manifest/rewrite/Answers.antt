use Rattle.std.proofs.Common.{sym, ap, subst, ◌∙◌, inl}
use Rattle.std.specs.Prelude.{IsTrue}
use Rattle.bk_manifest.specs.State.{last_about, without_deletions}
use Rattle.bk_manifest.specs.Keeping.{Kept, durable, durable_up_to, IsOneOf}
use Rattle.bk_manifest.proofs.States.{memory_stays}
use Rattle.bk_manifest.proofs.Kept.{same_means, still_means}
use Rattle.bk_manifest.proofs.manifest.Manifest.rewrite.Goals as goal

pub invariant_of-result : goal.invariant_of-result
invariant_of-result g c =
    let k = c.self.invariant in
    let left = without_deletions c.args.forgotten.now (durable_up_to c.self.inside.end (g.F.ManifestFile.bytes c.self.inside.file)) in
    let is = λ (was : IsTrue (g.F.ManifestFile.honest c.self.inside.file)). c.in_default.ensures.ok (durable_up_to c.self.inside.end (g.F.ManifestFile.bytes c.self.inside.file)) (k.means was) in
    record {
      room = memory_stays _ c.self.inside.state c.forget_deletions.new.self c.forget_deletions.ensures.keeps k.room;
      believed = λ honest.
          let was = sym c.replaced.ensures.honest ∙ honest in
          (c.in-Ok.ensures.ok was left (is was)).believed;
      means = λ honest.
          let was = sym c.replaced.ensures.honest ∙ honest in
          same_means left (durable_up_to c.in-Ok.end (g.F.ManifestFile.bytes c.replaced.new.file)) c.forget_deletions.new.self (is was)
          (c.in-Ok.ensures.ok was left (is was)).same;
    }

pub returns-in-Err-clause-err : goal.returns-in-Err-clause-err
returns-in-Err-clause-err g c = λ now.
    let k = c.self.invariant in
    let was : IsTrue (g.F.ManifestFile.honest c.self.inside.file) = ap (λ (m : Kept). m.honest) c.self.view_is ∙ now in
    subst (λ (m : Kept). IsOneOf (g.F.ManifestFile.bytes c.self.inside.file) (g.F.ManifestFile.synced c.self.inside.file) (durable m) (without_deletions c.args.forgotten.now (durable m)))
    c.self.view_is
    (inl (still_means _ _ c.self.inside.generation c.self.inside.end (k.believed was)))

pub returns-in-Err-replaced-clause-err : goal.returns-in-Err-replaced-clause-err
returns-in-Err-replaced-clause-err g c = λ now.
    let k = c.self.invariant in
    let was : IsTrue (g.F.ManifestFile.honest c.self.inside.file) = ap (λ (m : Kept). m.honest) c.self.view_is ∙ now in
    subst (λ (m : Kept). IsOneOf (g.F.ManifestFile.bytes c.replaced.new.file) (g.F.ManifestFile.synced c.replaced.new.file) (durable m) (without_deletions c.args.forgotten.now (durable m)))
    c.self.view_is
    (c.in-Err-replaced.ensures.err was c.self.inside.generation c.self.inside.end (without_deletions c.args.forgotten.now (durable_up_to c.self.inside.end (g.F.ManifestFile.bytes c.self.inside.file))) (k.believed was) (c.in_default.ensures.ok (durable_up_to c.self.inside.end (g.F.ManifestFile.bytes c.self.inside.file)) (k.means was)))

pub returns-in-Ok-clause-ok : goal.returns-in-Ok-clause-ok
returns-in-Ok-clause-ok g c = λ now.
    let k = c.self.invariant in
    let was : IsTrue (g.F.ManifestFile.honest c.self.inside.file) = ap (λ (m : Kept). m.honest) c.self.view_is ∙ now in
    λ s.
    ap (λ (m : Kept). last_about s (without_deletions c.args.forgotten.now (durable m))) (sym c.self.view_is)
    ∙ (c.in-Ok.ensures.ok was (without_deletions c.args.forgotten.now (durable_up_to c.self.inside.end (g.F.ManifestFile.bytes c.self.inside.file))) (c.in_default.ensures.ok (durable_up_to c.self.inside.end (g.F.ManifestFile.bytes c.self.inside.file)) (k.means was))).same s
