use Rattle.std.proofs.Common.{◌≡◌, ◌+◌, ◌-◌, length, not, eqb, List, sym, ap, ◌∙◌, arith}
use Rattle.std.specs.List.{filter, sum_by}
use Rattle.std.specs.Map.{values_of}
use Rattle.std.specs.FinMap.{from_sorted}
use Rattle.bk_cache.specs.Recents.{Entry}
use Rattle.bk_cache.proofs.KeptPairs.{many, kept_filter, left_is, gone_are, none_gone}
use Rattle.bk_cache.proofs.LedgerKeys.{left-past}
use Rattle.bk_cache.proofs.cache.Cache.drop_ledger.Goals as goal

-- no key has such a ledger
pub returns-then-ledger-gt-LAST_ID-clause-left : goal.returns-then-ledger-gt-LAST_ID-clause-left
returns-then-ledger-gt-LAST_ID-clause-left c =
    c.self.view_is
    ∙ sym (left-past c.self.inside.rows c.self.inside.len c.self.inside.used c.self.invariant c.args.self.now c.self.view_is c.args.ledger (λ below. omega arith))

pub returns-then-ledger-gt-LAST_ID-clause-count : goal.returns-then-ledger-gt-LAST_ID-clause-count
returns-then-ledger-gt-LAST_ID-clause-count c = none_gone c.args.self.now c.args.ledger
    (left-past c.self.inside.rows c.self.inside.len c.self.inside.used c.self.invariant c.args.self.now c.self.view_is c.args.ledger (λ below. omega arith))

pub invariant_of-self-2 : goal.invariant_of-self-2
invariant_of-self-2 c =
    let left = c.drop_ledger-count.ensures.left in
    let count : c.self.inside.len - c.drop_ledger-count.result.0 ≡ length (filter (λ e. not (eqb e.0.ledger c.args.ledger)) c.self.inside.rows) =
    omega (arith, c.drop_ledger-count.ensures.count, c.self.invariant.numbered, ap (λ (es : List Entry). length es) left) in
    let bytes : c.self.inside.used - c.drop_ledger-count.result.1
    ≡ sum_by length (values_of (filter (λ e. not (eqb e.0.ledger c.args.ledger)) c.self.inside.rows)) =
    omega (arith, c.drop_ledger-count.ensures.bytes, c.self.invariant.counted, ap (λ (es : List Entry). sum_by length (values_of es)) left) in
    rw left (kept_filter c.self.inside.rows c.self.inside.len c.self.inside.used c.self.invariant (λ k. not (eqb k.ledger c.args.ledger)) _ _ count bytes)

pub returns-clause-left : goal.returns-clause-left
returns-clause-left c =
    ap from_sorted c.drop_ledger-count.ensures.left
    ∙ left_is c.self.inside.rows c.self.inside.len c.self.inside.used c.self.invariant c.args.self.now c.self.view_is c.args.ledger

pub returns-clause-count : goal.returns-clause-count
returns-clause-count c =
    let together = ap (λ (es : List Entry). length es + c.drop_ledger-count.result.0) (sym c.drop_ledger-count.ensures.left) ∙ c.drop_ledger-count.ensures.count in
    gone_are c.self.inside.rows c.self.inside.len c.self.inside.used c.self.invariant c.args.self.now c.self.view_is c.args.ledger _ together

pub returns-clause-bound : goal.returns-clause-bound
returns-clause-bound c =
    omega (arith, c.drop_ledger-count.ensures.count, c.self.invariant.numbered, many c.self.inside.rows c.self.inside.len c.self.inside.used c.self.invariant)
