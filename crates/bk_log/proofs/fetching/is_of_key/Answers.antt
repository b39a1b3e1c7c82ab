use Rattle.std.proofs.Common.{sym, ◌∙◌, ap, Some}
use Rattle.std.proofs.lemmas.Bool.{false≢true}
use Rattle.bk_record.proofs.SortedPairs.{Some-same}
use Rattle.bk_record.proofs.ReadKeys.{read_key-some, read_key-none}
use Rattle.bk_log.proofs.Keys.{same_key, key_is_itself}
use Rattle.bk_log.proofs.fetching.is_of_key.Goals as goal

pub returns-in-Ok : goal.returns-in-Ok
returns-in-Ok c =
    let read = read_key-some _ _ c.requires (sym c.key_of.ensures ∙ c.in-Ok.is) in
    (λ h. read ∙ ap Some (same_key _ _ (sym c.eq.ensures ∙ h)), λ is. c.eq.ensures ∙ key_is_itself _ _ (Some-same (sym read ∙ is)))

pub returns-in-Err : goal.returns-in-Err
returns-in-Err c = (λ h. absurd (false≢true h), λ is. absurd (read_key-none _ _ _ c.requires (sym c.key_of.ensures ∙ c.in-Err.is) is))
