use Rattle.std.proofs.Common.{sym, ◌∙◌, subst, IsOk}
use Rattle.bk_record.proofs.ReadKeys.{read_key-keyed, read_key-ledger}
use Rattle.bk_log.proofs.writer.put.ledger_of.Goals as goal

pub unwrap-requires : goal.unwrap-requires
unwrap-requires c = subst IsOk (sym c.key_of.ensures) (read_key-keyed _ c.requires.payload.0 c.requires.keyed)

pub returns-clause-value : goal.returns-clause-value
returns-clause-value c = c.ledger.ensures.value ∙ read_key-ledger _ _ (sym c.key_of.ensures ∙ c.unwrap.ensures)
