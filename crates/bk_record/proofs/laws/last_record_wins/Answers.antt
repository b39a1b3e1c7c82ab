use Rattle.bk_record.proofs.LastEntries.{scan_takes_last}
use Rattle.bk_record.proofs.laws.last_record_wins.Goals as goal

pub returns : goal.returns
returns c = scan_takes_last
