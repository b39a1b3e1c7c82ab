use Rattle.std.proofs.Common.{◌≡◌, ◌<◌, ◌^◌, length, rules, get_or, ap, sym, subst, ◌∙◌, arith}
use Rattle.std.specs.List.{All}
use Rattle.bk_disk.specs.Logs.{files_of}
use Rattle.bk_disk.specs.Disk.{IsLogFile}
use Rattle.bk_disk.proofs.FileMaps.{files_of-insert}
use Rattle.bk_disk.proofs.Bounds.{AreLogFiles-none, AreLogFiles-insert}
use Rattle.bk_disk.proofs.Listings.{id_listed, size_listed, one_more_listed}
use Rattle.bk_disk.proofs.mem_disk.MemDisk.of.Goals as goal

pub of-requires : goal.of-requires
of-requires c =
    let entry = c.loop-log-item.result in
    let found = c.args.files.items in
    let here : entry ≡ get_or found c.loop-log.log-index entry = c.loop-log-item.is
    ∙ ap (λ xs. get_or xs c.loop-log.log-index entry) c.deref-log-items.ensures.value in
    let low : c.loop-log.log-index < length found = omega (arith, sym (ap length c.deref-log-items.ensures.value)) in
    let bytes : c.deref.result.now ≡ entry.1.items = c.deref.ensures.value in
    omega (arith, ap length bytes, size_listed found c.loop-log.log-index entry c.requires low here)

pub loop-log-init : goal.loop-log-init
loop-log-init c = rw c.new-logs.ensures.empty (record { so_far = search rules; bounded = AreLogFiles-none })

pub loop-log-preserved : goal.loop-log-preserved
loop-log-preserved c =
    let entry = c.loop-log-item.result in
    let found = c.args.files.items in
    let at = c.loop-log.log-index in
    let file = c.in_ok-of.field-0 in
    let here : entry ≡ get_or found at entry = c.loop-log-item.is ∙ ap (λ xs. get_or xs at entry) c.deref-log-items.ensures.value in
    let low : at < length found = omega (arith, sym (ap length c.deref-log-items.ensures.value)) in
    let bytes : file ≡ c.deref.result.now = c.in_ok-of.ensures.value in
    let same : file ≡ entry.1.items = bytes ∙ c.deref.ensures.value in
    let one : IsLogFile entry.0 file = record {
      id = id_listed found at entry c.requires low here;
      size = omega (arith, ap length same, size_listed found at entry c.requires low here);
      bytes = subst (All (λ b. b < 2 ^ 8)) (sym bytes) c.in_ok-of.ensures.bytes;
    } in
    record {
      so_far = one_more_listed c.loop-log.logs c.insert.new.self found at entry file c.requires low here same c.loop-log.invariant.so_far
          c.in_ok-insert.ensures.updates;
      bounded = rw (files_of-insert c.loop-log.logs c.insert.new.self entry.0 file c.in_ok-insert.ensures.updates)
          (AreLogFiles-insert (files_of c.loop-log.logs) entry.0 file c.loop-log.invariant.bounded one);
    }

pub invariant_of-result : goal.invariant_of-result
invariant_of-result c = c.loop-log.invariant.bounded
