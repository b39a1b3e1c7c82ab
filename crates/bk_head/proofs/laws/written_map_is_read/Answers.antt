use Rattle.std.specs.FinMap as ledgers
use Rattle.std.proofs.Common.{length, arith}
use Rattle.bk_head.proofs.Again.{read_again}
use Rattle.bk_head.proofs.OneReading.{one_map}
use Rattle.bk_head.proofs.Spelling.{written_spells}
use Rattle.bk_head.proofs.Unwritten.{are_written}
use Rattle.bk_head.proofs.laws.written_map_is_read.Goals as goal

pub returns-clause-one : goal.returns-clause-one
returns-clause-one c = one_map

pub returns-clause-batches : goal.returns-clause-batches
returns-clause-batches c = λ map. are_written (length (ledgers.entries map)) (ledgers.entries map) (omega arith)

pub returns-clause-spells : goal.returns-clause-spells
returns-clause-spells c = written_spells

pub returns-clause-read : goal.returns-clause-read
returns-clause-read c = read_again
