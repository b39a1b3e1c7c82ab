use Rattle.std.proofs.Common.{◌≡◌, List, length, refl, sym, ap, subst, ◌∙◌, arith}
use Rattle.std.proofs.lemmas.List.{length-map}
use Rattle.bk_manifest.specs.declared.record.Record.{Record}
use Rattle.bk_manifest.specs.Fact.{Fact, fact}
use Rattle.bk_manifest.specs.File.{content, content_of}
use Rattle.bk_manifest.specs.State.{IsStateOf}
use Rattle.bk_manifest.proofs.Believing.{opened}
use Rattle.bk_manifest.proofs.Kept.{none_noted, content_with}
use Rattle.bk_manifest.proofs.manifest.Manifest.open.Goals as goal

pub invariant_of-manifest : goal.invariant_of-manifest
invariant_of-manifest g c = record {
  room = none_noted c.in_ok-state.state _ c.new-noted.ensures.items;
  believed = λ honest.
      let mid = sym c.sync.ensures.honest ∙ honest in
      let was = sym c.read.ensures.honest ∙ mid in
      let same : g.F.ManifestFile.bytes c.sync.new.self ≡ c.deref.result.now =
      (c.sync.ensures.same mid).bytes_are ∙ (c.read.ensures.same was).bytes_are ∙ sym (c.in_ok-bytes.ensures.ok was) ∙ sym c.deref.ensures.value in
      (opened _ c.deref.result.now _ (content c.in_ok-contents.contents) same c.in_ok-contents.ensures.found (c.in_ok-sync.ensures.ok mid)).believed;
  means = λ honest.
      let mid = sym c.sync.ensures.honest ∙ honest in
      let was = sym c.read.ensures.honest ∙ mid in
      let same : g.F.ManifestFile.bytes c.sync.new.self ≡ c.deref.result.now =
      (c.sync.ensures.same mid).bytes_are ∙ (c.read.ensures.same was).bytes_are ∙ sym (c.in_ok-bytes.ensures.ok was) ∙ sym c.deref.ensures.value in
      let records = (opened _ c.deref.result.now _ (content c.in_ok-contents.contents) same c.in_ok-contents.ensures.found (c.in_ok-sync.ensures.ok mid)).records in
      subst (λ (fs : List Fact). IsStateOf fs c.in_ok-state.state) (sym records) c.in_ok-state.ensures;
}

pub returns-clause-found : goal.returns-clause-found
returns-clause-found g c = λ was.
    let mid = c.read.ensures.honest ∙ was in
    let same : g.F.ManifestFile.bytes c.sync.new.self ≡ c.deref.result.now =
    (c.sync.ensures.same mid).bytes_are ∙ (c.read.ensures.same was).bytes_are ∙ sym (c.in_ok-bytes.ensures.ok was) ∙ sym c.deref.ensures.value in
    let records = (opened _ c.deref.result.now _ (content c.in_ok-contents.contents) same c.in_ok-contents.ensures.found (c.in_ok-sync.ensures.ok mid)).records in
    let file : g.F.ManifestFile.bytes c.args.file ≡ c.deref.result.now = sym (c.in_ok-bytes.ensures.ok was) ∙ sym c.deref.ensures.value in
    let items : List Record = c.in_ok-contents.contents.records.items in
    record {
      read = content_with _ _ _ _ _ _ (ap content_of file ∙ c.in_ok-contents.ensures.exact) records;
      count = omega (arith, c.len-records.ensures, c.in_ok-contents.contents.records.ok.0, length-map items fact, ap length records);
      pending = rw c.new-noted.ensures.items refl;
    }
