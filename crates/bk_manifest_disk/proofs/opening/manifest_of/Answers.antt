use Rattle.std.proofs.Common.{◌≡◌, ◌∙◌, [], List, ℕ, ap, sym, arith}
use Rattle.std.proofs.lemmas.Bool.Decides.{nat_tests}
use Rattle.std.proofs.lemmas.Grind.{common_steps}
use Rattle.std.proofs.lemmas.List.{nil_from_length}
use Rattle.bk_manifest.specs.File.{content_of}
use Rattle.bk_manifest.specs.Keeping.{facts_found}
use Rattle.bk_manifest_disk.proofs.OpenedByManifest.{nothing_found}
use Rattle.bk_manifest_disk.proofs.opening.manifest_of.Goals as goal

pub returns-then-is_empty-clause-found : goal.returns-then-is_empty-clause-found
returns-then-is_empty-clause-found g c = λ h.
    let read = c.in_ok-read.ensures.ok h in
    let none : c.in_ok-read.field-0.items ≡ [] = nil_from_length _ (grind (arith, nat_tests, common_steps)) in
    c.in_ok-manifest.ensures.empty (c.read.ensures.honest ∙ h) ∙ sym (ap (λ (b : List ℕ). facts_found (content_of b)) (sym read ∙ none) ∙ nothing_found)
