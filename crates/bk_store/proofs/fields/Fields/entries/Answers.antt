use Rattle.std.proofs.Common.{◌≡◌, ℕ, length, length-append, false, ap, sym, subst, ◌∙◌, arith}
use Rattle.bk_store.specs.State.{StoreParts}
use Rattle.bk_store.specs.Transitions.{is_dead}
use Rattle.bk_store.specs.LedgerReads.{HasLiveEntry, IsPage}
use Rattle.bk_store.proofs.ReadPages.{page_more, page_full}
use Rattle.bk_store.proofs.fields.Fields.entries.Goals as goal

pub loop-preserved : goal.loop-preserved
loop-preserved g c =
    let items = c.in_ok-push.ensures.items in
    let least = c.in-Some.ensures.least in
    let lives : is_dead c.args.self.now.state c.args.ledger ≡ false =
    sym (c.if-is_dead.ensures ∙ ap (λ (p : StoreParts). is_dead p.state c.args.ledger) c.self.view_is) in
    record {
      counted = omega (arith, ap length items, length-append {A = ℕ}, c.loop.invariant.counted);
      upto = rw items (page_more (HasLiveEntry c.args.self.now.state c.args.ledger) c.args.from c.loop.at c.loop.page.items c.loop.invariant.upto
          c.in-Some.entry least.0 (lives, least.1) (λ m above own. least.2 m above own.1));
    }

pub returns : goal.returns
returns g c =
    let full : length c.loop.page.items ≡ c.args.most = omega (arith, c.loop.invariant.counted, c.loop-test.false, c.loop.auto.counter-end) in
    subst (λ n. IsPage (HasLiveEntry c.args.self.now.state c.args.ledger) c.args.from n c.loop.page.items) full
    (page_full (HasLiveEntry c.args.self.now.state c.args.ledger) c.args.from c.loop.at c.loop.page.items c.loop.invariant.upto)
