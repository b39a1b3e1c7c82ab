use Rattle.bk_record.proofs.OnePiece.{one_piece}
use Rattle.bk_record.proofs.laws.one_piece.Goals as goal

pub returns : goal.returns
returns c = one_piece
