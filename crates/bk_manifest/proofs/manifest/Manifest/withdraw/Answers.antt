use Rattle.std.proofs.Common.{◌≡◌, [], refl, sym, ap, ◌∙◌}
use Rattle.std.specs.Prelude.{IsTrue}
use Rattle.std.proofs.lemmas.List.{append-nil}
use Rattle.bk_manifest.specs.Keeping.{Kept, durable, durable_up_to}
use Rattle.bk_manifest.proofs.Kept.{batch_kept, none_after, none_noted}
use Rattle.bk_manifest.proofs.manifest.Manifest.withdraw.Goals as goal

pub invariant_of-self-2 : goal.invariant_of-self-2
invariant_of-self-2 g c =
    let k = c.self.invariant in
    let it = λ (was : IsTrue (g.F.ManifestFile.honest c.self.inside.file)).
    batch_kept _ _ _ _ _ _ _ [] [] [] c.self.inside.state c.self.inside.state
    (k.believed was) (k.means was) (c.in_ok-end.ensures.ok was (k.believed was).inside) refl refl (none_after c.self.inside.state) in
    record {
      room = none_noted c.self.inside.state _ c.clear.ensures.items;
      believed = λ honest. (it (sym c.appended.ensures.honest ∙ honest)).believed;
      means = λ honest. (it (sym c.appended.ensures.honest ∙ honest)).means;
    }

pub returns-clause-same : goal.returns-clause-same
returns-clause-same g c = λ now.
    let k = c.self.invariant in
    let was : IsTrue (g.F.ManifestFile.honest c.self.inside.file) = ap (λ (m : Kept). m.honest) c.self.view_is ∙ now in
    (batch_kept _ _ _ _ _ _ _ [] [] [] c.self.inside.state c.self.inside.state
    (k.believed was) (k.means was) (c.in_ok-end.ensures.ok was (k.believed was).inside) refl refl (none_after c.self.inside.state)).records
    ∙ append-nil (durable_up_to c.self.inside.end (g.F.ManifestFile.bytes c.self.inside.file)) ∙ ap durable c.self.view_is
