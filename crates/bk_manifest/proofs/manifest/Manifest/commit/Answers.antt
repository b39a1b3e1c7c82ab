use Rattle.std.proofs.Common.{◌≡◌, refl, sym, ap, ◌∙◌}
use Rattle.std.specs.Prelude.{◌++◌, IsTrue}
use Rattle.bk_manifest.specs.Fact.{facts}
use Rattle.bk_manifest.specs.Keeping.{Kept, durable}
use Rattle.bk_manifest.proofs.Kept.{batch_kept, none_noted}
use Rattle.bk_manifest.proofs.manifest.Manifest.commit.Goals as goal

pub invariant_of-self-2 : goal.invariant_of-self-2
invariant_of-self-2 g c =
    let k = c.self.invariant in
    let it = λ (was : IsTrue (g.F.ManifestFile.honest c.self.inside.file)).
    batch_kept _ _ _ _ _ _ _ (facts c.deref.result.now) (facts c.self.inside.noted.items) (facts c.replace-noted.result.items) c.self.inside.state c.settle.new.self
    (k.believed was) (k.means was) (c.in_ok-end.ensures.ok was (k.believed was).inside)
    (rw c.deref.ensures.value refl) (rw c.replace-noted.ensures.value refl) c.settle.ensures in
    record {
      room = none_noted c.settle.new.self _ (rw c.replace-noted.ensures.after c.new-none.ensures.items);
      believed = λ honest. (it (sym c.appended.ensures.honest ∙ honest)).believed;
      means = λ honest. (it (sym c.appended.ensures.honest ∙ honest)).means;
    }

pub returns-clause-ok : goal.returns-clause-ok
returns-clause-ok g c = λ now.
    let k = c.self.invariant in
    let was : IsTrue (g.F.ManifestFile.honest c.self.inside.file) = ap (λ (m : Kept). m.honest) c.self.view_is ∙ now in
    (batch_kept _ _ _ _ _ _ _ (facts c.deref.result.now) (facts c.self.inside.noted.items) (facts c.replace-noted.result.items) c.self.inside.state c.settle.new.self
    (k.believed was) (k.means was) (c.in_ok-end.ensures.ok was (k.believed was).inside)
    (rw c.deref.ensures.value refl) (rw c.replace-noted.ensures.value refl) c.settle.ensures).records
    ∙ ap (λ (m : Kept). durable m ++ m.pending) c.self.view_is
