use Rattle.std.proofs.Common.{◌≡◌, ℕ, Option, [], refl, sym, ◌∙◌, subst, arith}
use Rattle.std.specs.FinMap as finite
use Rattle.bk_record.specs.Files.{Files}
use Rattle.bk_inspect.specs.declared.command.EntryRange.{EntryRange}
use Rattle.bk_inspect.specs.Exporting.{IsExport, recorded, WritesAll}
use Rattle.bk_inspect.specs.LastRecords.{HasLast}
use Rattle.bk_inspect.specs.Walking.{entries_in_logs}
use Rattle.bk_inspect.proofs.Exports.{text_flushed}
use Rattle.bk_inspect.proofs.Exported.{round_done, round_whole}
use Rattle.bk_inspect.proofs.Reading.{honest_still, read_then}
use Rattle.bk_inspect.proofs.export.show_export.Goals as goal

pub returns-in-None-clause-done : goal.returns-in-None-clause-done
returns-in-None-clause-done g c = λ honest fine.
    let inv = c.loop.invariant in
    let none : c.loop.status ≡ 0 = omega (arith, c.max-status.ensures, fine) in
    let all : c.in_ok-take_in_logs.field-0 ≡ 0 = omega (arith, c.max-status.ensures, fine) in
    let first = inv.first honest none in
    let old = g.D.LogDisk.files c.args.disk.now in
    let seen = read_then _ _ _ _ _ _ inv.reads c.take_in_logs.ensures.reads in
    let last = c.new-last.result in
    let now = c.take_in_logs.new.taking in
    let began = subst (λ (r : EntryRange). HasLast r last.records []) (sym c.new-last.ensures.0) c.new-last.ensures.1 in
    let taken = c.in_ok-take_in_logs.ensures.all (honest_still _ _ _ _ inv.reads honest) all last (refl, began) in
    let wrote = subst (λ (o : Option ℕ). WritesAll (g.D.LogDisk.files c.take_in_logs.new.disk) now.records.entries o
    (recorded c.args.form c.args.kind (g.W.Write.contents c.loop.writer)) (recorded c.args.form c.args.kind (g.W.Write.contents c.write_entries.new.writer)))
    c.in-None.is (c.in_ok-write_entries.ensures.written (honest_still _ _ _ _ seen honest)) in
    let result = round_done old (g.D.LogDisk.files c.take_in_logs.new.disk) c.args.range c.loop.left now.range now.records _ _ _
    (c.bounds.ensures honest) (seen.1 honest) first.0 (taken.0 ∙ c.new-last.ensures.0)
    (subst (λ (fs : Files). HasLast now.range now.records (entries_in_logs (finite.entries fs))) (inv.reads.1 honest ∙ sym (seen.1 honest)) taken.1)
    c.in_ok-write_entries.ensures.ordered first.1 wrote in
    text_flushed c.args.form c.args.kind (IsExport c.args.range old) (g.W.Write.contents c.args.writer.now) (g.W.Write.contents c.write_entries.new.writer)
    (g.W.Write.contents c.flush.new.self) result c.flush.ensures.bytes

pub loop-preserved : goal.loop-preserved
loop-preserved g c =
    let inv = c.loop.invariant in
    let seen = read_then _ _ _ _ _ _ inv.reads c.take_in_logs.ensures.reads in
    record {
      reads = read_then _ _ _ _ _ _ seen c.write_entries.ensures.reads;
      bound = omega (arith, c.max-status.ensures, inv.bound, c.in_ok-take_in_logs.ensures.status);
      first = λ honest fine.
          let all : c.in_ok-take_in_logs.field-0 ≡ 0 = omega (arith, c.max-status.ensures, fine) in
          let last = c.new-last.result in
          let now = c.take_in_logs.new.taking in
          let began = subst (λ (r : EntryRange). HasLast r last.records []) (sym c.new-last.ensures.0) c.new-last.ensures.1 in
          let taken = c.in_ok-take_in_logs.ensures.all (honest_still _ _ _ _ inv.reads honest) all last (refl, began) in
          let wrote = subst (λ (o : Option ℕ). WritesAll (g.D.LogDisk.files c.take_in_logs.new.disk) now.records.entries o
          (recorded c.args.form c.args.kind (g.W.Write.contents c.loop.writer)) (recorded c.args.form c.args.kind (g.W.Write.contents c.write_entries.new.writer)))
          c.in-Some.is (c.in_ok-write_entries.ensures.written (honest_still _ _ _ _ seen honest)) in
          absurd (round_whole (g.D.LogDisk.files c.args.disk.now) (g.D.LogDisk.files c.loop.disk) (g.D.LogDisk.files c.take_in_logs.new.disk) now.range now.records
          c.in-Some.entry (recorded c.args.form c.args.kind (g.W.Write.contents c.loop.writer))
          (recorded c.args.form c.args.kind (g.W.Write.contents c.write_entries.new.writer)) (c.bounds.ensures honest) (inv.reads.1 honest) (seen.1 honest) taken.1 c.in_ok-write_entries.ensures.ordered wrote);
    }
