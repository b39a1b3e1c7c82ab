use Rattle.std.proofs.Common.{ℕ, ◌++◌, List, Option, IfSome, refl, subst, arith}
use Rattle.bk_crc.specs.Checksum.{IsChecksum}
use Rattle.bk_crc.specs.declared.polynomial.Polynomial.TheVariants.{Castagnoli}
use Rattle.bk_head.specs.Ledgers.{map_of, SpellsMap}
use Rattle.bk_hint.specs.declared.facts.LogFacts.{LogFacts}
use Rattle.bk_hint.specs.declared.listed.Listed.{Listed}
use Rattle.bk_hint_view.specs.Rows.{AreRecords}
use Rattle.bk_hint_disk.specs.Usable.{FitsTail, IsFrontOf}
use Rattle.bk_hint_disk.proofs.Collecting.{made_true}
use Rattle.bk_hint_disk.proofs.Sampling.{sample_of}
use Rattle.bk_hint_disk.proofs.Sealing.{usable}
use Rattle.bk_hint_disk.proofs.making.make_hint.Goals as goal

pub returns-in-Ok-encode-clause-records : goal.returns-in-Ok-encode-clause-records
returns-in-Ok-encode-clause-records g c = λ h.
    let file = g.V.LogView.bytes c.args.view.now in
    let are = subst (λ (o : Option (List Listed)). IfSome o (AreRecords file)) c.in-Some-2.is (c.in_ok-contents.ensures h) in
    let is = c.in-Ok-encode.ensures in
    made_true file _ _ _ is are

pub returns-in-Ok-encode-clause-usable : goal.returns-in-Ok-encode-clause-usable
returns-in-Ok-encode-clause-usable g c = λ h.
    let file = g.V.LogView.bytes c.args.view.now in
    let entries = c.in-Some-2.contents in
    let at = c.in-Some.seal.at in
    let header = c.args.header.now in
    let tail = c.in-Ok.tail.items in
    let are = subst (λ (o : Option (List Listed)). IfSome o (AreRecords file)) c.in-Some-2.is (c.in_ok-contents.ensures h) in
    let facts : LogFacts = record { log = c.args.log; length = c.end-length.result; checksum = c.checksum_of.result } in
    let front : IsFrontOf header c.end-length.result c.in-Ok-encode.hint.items c.args.log facts entries at = record {
      is = c.in-Ok-encode.ensures;
      of_log = refl;
      length_is = refl;
      sealed = c.in-Some.ensures.sealed;
      before_map = omega (arith, c.end.ensures, c.if-end-seal.false);
    } in
    let fits : FitsTail header tail facts entries = record {
      checked = subst (λ (t : List ℕ). IsChecksum Castagnoli (header ++ t) c.checksum_of.result) c.deref-2.ensures.value c.checksum_of.ensures;
      ledgers = c.in-Ok-map_of.map;
      spelled = subst (λ (t : List ℕ). SpellsMap t (map_of c.in-Ok-map_of.map)) c.deref.ensures.value c.in-Ok-map_of.ensures;
      fits = c.in-Ok-true.ensures.0 c.in-Ok-true.field-0-test;
    } in (
      entries,
      usable header file c.in-Ok-encode.hint.items tail c.end-length.result c.args.log facts entries at (c.end-length.ensures h) front (c.in-Ok.ensures h) fits (sample_of file entries are),
    )
