use Rattle.std.proofs.Common.{◌∙◌, ap, sym, subst}
use Rattle.std.specs.FinMap as map
use Rattle.bk_record.proofs.NumberMaps.{get-entries}
use Rattle.bk_record.specs.Files.{Files}
use Rattle.bk_manifest_disk.specs.Opening.{Lacks}
use Rattle.bk_manifest_disk.specs.Limiting.{AreWithin}
use Rattle.bk_manifest_disk.proofs.Found.{limits_within, bytes_in_files, lack_in_files, none_holds, some_holds, same_lack}
use Rattle.bk_manifest_disk.proofs.looking.limit_logs.Goals as goal

pub new-requires-clause-within : goal.new-requires-clause-within
new-requires-clause-within g c = λ κs bounds honest.
    let h = sym c.in_ok-lengths.ensures.honest ∙ honest in
    let found = c.in_ok-lengths.ensures.found h in
    subst (λ (fs : Files). AreWithin (map.from_entries c.in_ok-lengths.field-0.limits.entries) fs) (sym (c.in_ok-lengths.ensures.same h))
    (limits_within c.args.state.now (g.D.LogDisk.files c.args.inner) _ (λ q. get-entries c.in_ok-lengths.field-0.limits.entries q ∙ found.limits q))

pub returns-clause-limited : goal.returns-clause-limited
returns-clause-limited g c = λ h.
    let found = c.in_ok-lengths.ensures.found h in
    record {
      hidden = λ q. ap (λ d. map.get d.limits q) c.new.ensures ∙ get-entries c.in_ok-lengths.field-0.limits.entries q ∙ found.limits q;
      told = found.reports;
      new = found.adopted;
      durable = λ records is. bytes_in_files c.args.state.now (g.D.LogDisk.files c.args.inner) c.in_ok-lengths.field-0.lengths found.lengths records is
          (none_holds c.in_ok-lack.field-0 _ c.in_default.is c.in_ok-lack.ensures.none records is);
    }

pub returns-in-Some-clause-lack : goal.returns-in-Some-clause-lack
returns-in-Some-clause-lack g c = λ h l is records st.
    let found = c.in_ok-lengths.ensures.found h in
    subst (Lacks c.args.state.now (g.D.LogDisk.files c.args.inner)) (same_lack c.in-Some.lack l is)
    (lack_in_files c.args.state.now (g.D.LogDisk.files c.args.inner) c.in_ok-lengths.field-0.lengths found.lengths records st c.in-Some.lack (some_holds c.in_ok-lack.field-0 _ c.in-Some.lack c.in-Some.is c.in_ok-lack.ensures.some records st))
