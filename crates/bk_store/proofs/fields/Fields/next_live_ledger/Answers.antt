use Rattle.std.proofs.Common.{◌≡◌, true, false, ap, sym, ◌∙◌, arith}
use mathlib.Core.Bool.{false≢true}
use Rattle.bk_store.specs.State.{StoreParts}
use Rattle.bk_store.specs.Transitions.{is_dead}
use Rattle.bk_store.specs.LedgerReads.{HoldsLedger, HasLiveLedger}
use Rattle.bk_store.proofs.ReadPages.{passed_none, passed_some, passed_over}
use Rattle.bk_store.proofs.fields.Fields.next_live_ledger.Goals as goal

pub returns-then-not-is_dead-clause-least : goal.returns-then-not-is_dead-clause-least
returns-then-not-is_dead-clause-least g c =
    let s = c.args.self.now.state in
    let least = c.in-Some.ensures.least in
    let lives : is_dead s c.in-Some.ledger ≡ false =
    sym (c.if-not-is_dead.ensures ∙ ap (λ (p : StoreParts). is_dead p.state c.in-Some.ledger) c.self.view_is) in (
      omega (arith, c.loop-ledger.invariant.start, least.0),
      (lives, least.1),
      passed_some (HoldsLedger s) (HasLiveLedger s) c.args.from c.loop-ledger.at c.loop-ledger.invariant.none (λ n own. own.1) c.in-Some.ledger least.2,
    )

pub loop-ledger-preserved : goal.loop-ledger-preserved
loop-ledger-preserved g c =
    let s = c.args.self.now.state in
    let least = c.in-Some.ensures.least in
    let dead : is_dead s c.in-Some.ledger ≡ true =
    sym (c.if-not-is_dead.ensures ∙ ap (λ (p : StoreParts). is_dead p.state c.in-Some.ledger) c.self.view_is) in
    record {
      start = omega (arith, c.loop-ledger.invariant.start, least.0);
      none = passed_over (HoldsLedger s) (HasLiveLedger s) c.args.from c.loop-ledger.at c.loop-ledger.invariant.none (λ n own. own.1) c.in-Some.ledger least.2
          (λ own. false≢true (sym own.0 ∙ dead));
    }

pub returns-clause-least : goal.returns-clause-least
returns-clause-least g c =
    let s = c.args.self.now.state in
    passed_none (HoldsLedger s) (HasLiveLedger s) c.args.from c.loop-ledger.at c.loop-ledger.invariant.none (λ n own. own.1) c.in_default.ensures.least
