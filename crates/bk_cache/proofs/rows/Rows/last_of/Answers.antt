use Rattle.std.proofs.Common.{◌≡◌, option_map, sym, ap, ◌∙◌, rules}
use Rattle.std.specs.BTreeMap.Range.{entries_between}
use Rattle.std.specs.declared.ops.Bound.TheVariants.{Included}
use Rattle.bk_record.specs.Key.{key_cmp}
use Rattle.bk_cache.proofs.RowLedgers.{none_last, last_paged}
use Rattle.bk_cache.proofs.rows.Rows.last_of.Goals as goal

pub returns-in_err-page : goal.returns-in_err-page
returns-in_err-page c =
    let first_is : c.unwrap-first.result ≡ record { ledger = c.args.ledger; entry = 0 } = search rules in
    let last_is : c.unwrap-last.result ≡ record { ledger = c.args.ledger; entry = 9223372036854775807 } = search rules in
    let between = c.range.ensures.between tt ∙ (λ i. entries_between key_cmp (Included (first_is i)) (Included (last_is i)) c.self.inside.pages.entries) in
    rw (c.from_residual.ensures, ← c.self.view_is)
    (sym (ap (option_map (λ e. e.0)) (none_last c.self.inside.pages.entries c.self.invariant c.args.ledger c.range.result between c.in_err-page.ensures.steps.0)))

pub returns : goal.returns
returns c =
    let first_is : c.unwrap-first.result ≡ record { ledger = c.args.ledger; entry = 0 } = search rules in
    let last_is : c.unwrap-last.result ≡ record { ledger = c.args.ledger; entry = 9223372036854775807 } = search rules in
    let between = c.range.ensures.between tt ∙ (λ i. entries_between key_cmp (Included (first_is i)) (Included (last_is i)) c.self.inside.pages.entries) in
    c.last.ensures ∙ rw (← c.self.view_is)
    (sym (ap (option_map (λ e. e.0)) (last_paged c.self.inside.pages.entries c.self.invariant c.args.ledger c.range.result between _ _ c.in_ok-page.ensures.steps)))
