use Rattle.std.proofs.Common.{refl}
use Rattle.bk_serve.specs.Works.{no_tally, none}
use Rattle.bk_serve.proofs.Steps.{of_request}
use Rattle.bk_serve.proofs.compacting.compact.Goals as goal

pub returns-then-not-is_threshold : goal.returns-then-not-is_threshold
returns-then-not-is_threshold g c = (no_tally, none)

pub returns-then-not-is_threshold-2 : goal.returns-then-not-is_threshold-2
returns-then-not-is_threshold-2 g c = (no_tally, none)

pub returns-in-Ok : goal.returns-in-Ok
returns-in-Ok g c = (c.compact_both.new.tally, of_request _ _ _ _ refl c.compact_both.ensures, refl, refl)

pub returns-in-Err : goal.returns-in-Err
returns-in-Err g c = (c.compact_both.new.tally, of_request _ _ _ _ refl c.compact_both.ensures)

pub returns-then-is_busy : goal.returns-then-is_busy
returns-then-is_busy g c = (no_tally, none)
