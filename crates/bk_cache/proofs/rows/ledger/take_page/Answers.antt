use Rattle.std.proofs.Common.{◌≡◌, length, length-append, sym, ap, subst, ◌∙◌, rules}
use Rattle.std.specs.List.{filter, sum_by}
use Rattle.std.specs.Map.{values_of}
use Rattle.std.specs.BTreeMap.{is_at}
use Rattle.bk_record.specs.Key.{key_cmp}
use Rattle.bk_cache.specs.Rows.{all_pairs, ArePages}
use Rattle.bk_cache.proofs.RowLedgers.{none_left, other_left, others_stay, size_gone, bytes_add, are_taken, other}
use Rattle.bk_cache.proofs.rows.ledger.take_page.Goals as goal

pub returns-in_err-number-clause-none : goal.returns-in_err-number-clause-none
returns-in_err-number-clause-none c =
    let first_is : c.unwrap-first.result ≡ record { ledger = c.args.ledger; entry = 0 } = search rules in
    rw c.from_residual.ensures
    (none_left c.args.ledger c.args.pages.now.entries c.requires.are c.unwrap-first.result first_is c.range.result (c.range.ensures.between tt)
    c.in_err-number.ensures.steps.0)

pub returns-then-ledger-clause-none : goal.returns-then-ledger-clause-none
returns-then-ledger-clause-none c =
    let first_is : c.unwrap-first.result ≡ record { ledger = c.args.ledger; entry = 0 } = search rules in
    other_left c.args.ledger c.args.pages.now.entries c.requires.are c.unwrap-first.result first_is c.range.result (c.range.ensures.between tt)
    _ _ c.in_ok-number.ensures.steps (λ own. c.if-ledger.true (c.ledger.ensures.value ∙ own))

pub returns-clause-are : goal.returns-clause-are
returns-clause-are c =
    subst (λ ps. ArePages ps) (sym c.remove.ensures.entries) (are_taken c.args.pages.now.entries c.requires.are c.in_ok-number.number.now)

pub returns-clause-others : goal.returns-clause-others
returns-clause-others c =
    let own : c.in_ok-number.number.now.ledger ≡ c.args.ledger = sym c.ledger.ensures.value ∙ c.if-ledger.false in
    ap (λ ps. filter (other c.args.ledger) (all_pairs ps)) c.remove.ensures.entries
    ∙ others_stay c.args.ledger c.in_ok-number.number.now own c.args.pages.now.entries (c.requires.are).each

pub returns-clause-count : goal.returns-clause-count
returns-clause-count c =
    size_gone (is_at (key_cmp c.in_ok-number.number.now)) length length-append c.args.pages.now.entries _ c.remove.ensures.entries _ c.remove.ensures.value

pub returns-clause-bytes : goal.returns-clause-bytes
returns-clause-bytes c =
    size_gone (is_at (key_cmp c.in_ok-number.number.now)) (λ es. sum_by length (values_of es)) bytes_add c.args.pages.now.entries _ c.remove.ensures.entries _
    c.remove.ensures.value
