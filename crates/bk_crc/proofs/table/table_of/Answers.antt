use Rattle.std.proofs.Common.{refl}
use Rattle.bk_crc.specs.declared.polynomial.Polynomial.TheVariants.{Castagnoli, Ieee}
use Rattle.bk_crc.specs.Checksum.{powers, of_powers, generator}
use Rattle.bk_crc.proofs.Dividing.{halved, divided}
use Rattle.bk_crc.proofs.Tables.{entries, is_table}
use Rattle.bk_crc.proofs.table.table_of.Goals as goal

pub returns-in-Castagnoli : goal.returns-in-Castagnoli
unfolding powers of_powers generator halved divided entries
returns-in-Castagnoli c = rw c.in-Castagnoli.is (is_table Castagnoli _ refl)

pub returns-in-Ieee : goal.returns-in-Ieee
unfolding powers of_powers generator halved divided entries
returns-in-Ieee c = rw c.in-Ieee.is (is_table Ieee _ refl)
