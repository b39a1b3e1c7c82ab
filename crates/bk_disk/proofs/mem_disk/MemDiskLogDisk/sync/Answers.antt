use Rattle.std.proofs.Common.{rules}
use Rattle.bk_disk.proofs.DurableGrows.{syncs_keep}
use Rattle.bk_disk.proofs.FileMaps.{file_maps}
use Rattle.bk_disk.proofs.mem_disk.MemDiskLogDisk.sync.Goals as goal

pub returns-clause-syncs : goal.returns-clause-syncs
returns-clause-syncs c = λ h. syncs_keep c.args.self.now c.args.log c.if-contains_key.result (search (rules, file_maps))
