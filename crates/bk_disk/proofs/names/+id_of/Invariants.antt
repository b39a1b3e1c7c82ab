use Rattle.std.proofs.Common.{length}
use Rattle.bk_disk.proofs.names.+id_of.Given as goal

abbrev pub decreases-id_of : goal.decreases-id_of
decreases-id_of l = length l.text.now
