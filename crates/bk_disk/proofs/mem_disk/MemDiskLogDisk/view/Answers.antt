use Rattle.std.proofs.Common.{◌≡◌, ◌<◌, ◌^◌, sym, ◌∙◌, subst, rules}
use Rattle.std.specs.List.{All}
use Rattle.bk_disk.proofs.FileMaps.{get-files_of}
use Rattle.bk_disk.proofs.mem_disk.MemDiskLogDisk.view.Goals as goal

pub new-requires : goal.new-requires
new-requires c =
    let same : c.in_ok-bytes.bytes ≡ c.in-Some.file.now = search rules in
    subst (All (λ b. b < 2 ^ 8)) (sym same)
    (c.self.invariant.each c.args.log c.in-Some.file.now (get-files_of c.self.inside.logs c.args.log ∙ sym c.in-Some.ensures.value)).bytes
