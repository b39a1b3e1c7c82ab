use Rattle.std.proofs.Common.{Some, nat_eq, sym, subst, rules}
use Rattle.std.specs.Option.{option_eq}
use Rattle.std.proofs.lemmas.Fn.{filter_same}
use Rattle.bk_record.specs.Files.{In}
use Rattle.bk_store.proofs.FlushLogs.{still_in, passes_in, equal_some, some_equal}
use Rattle.bk_store.proofs.flushing.keep_written.Goals as goal

pub returns-clause-still : goal.returns-clause-still
returns-clause-still c = λ id there is.
    let kept = filter_same _ (λ n. option_eq nat_eq (Some n) c.args.writing) _ (λ x b f' r. search rules) _ _ c.retain.ensures.filtered in
    subst (λ xs. In id xs) (sym kept) (still_in (λ n. option_eq nat_eq (Some n) c.args.writing) id _ there (equal_some c.args.writing id is))

pub returns-clause-alone : goal.returns-clause-alone
returns-clause-alone c = λ id there.
    let kept = filter_same _ (λ n. option_eq nat_eq (Some n) c.args.writing) _ (λ x b f' r. search rules) _ _ c.retain.ensures.filtered in
    some_equal c.args.writing id (passes_in (λ n. option_eq nat_eq (Some n) c.args.writing) id _ (subst (λ xs. In id xs) kept there))
