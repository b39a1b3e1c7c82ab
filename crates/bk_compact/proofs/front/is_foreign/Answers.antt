use Rattle.std.proofs.Common.{not, is_some, sym, ap}
use Rattle.bk_record.proofs.ReadKeys.{read_key-some, read_key-no}
use Rattle.bk_compact.proofs.front.is_foreign.Goals as goal

pub returns-in-Ok : goal.returns-in-Ok
returns-in-Ok c = sym (ap (λ o. not (is_some o)) (read_key-some _ _ c.requires (sym c.in-Ok.ensures)))

pub returns-in-Err : goal.returns-in-Err
returns-in-Err c = sym (ap (λ o. not (is_some o)) (read_key-no _ _ c.requires (sym c.in-Err.ensures)))
