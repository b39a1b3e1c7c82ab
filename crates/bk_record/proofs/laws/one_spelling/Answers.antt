use Rattle.bk_record.proofs.Spellings.{read_one_way}
use Rattle.bk_record.proofs.laws.one_spelling.Goals as goal

pub returns : goal.returns
returns c = read_one_way
