use Rattle.std.proofs.Common.{◌≡◌, ℕ, length, length-append, ap, subst, arith}
use Rattle.bk_store.specs.LedgerReads.{HasLiveLedger, IsPage}
use Rattle.bk_store.proofs.ReadPages.{page_more, page_full}
use Rattle.bk_store.proofs.fields.Fields.live_ledgers.Goals as goal

pub loop-preserved : goal.loop-preserved
loop-preserved g c =
    let items = c.in_ok-push.ensures.items in
    let least = c.in-Some.ensures.least in
    record {
      counted = omega (arith, ap length items, length-append {A = ℕ}, c.loop.invariant.counted);
      upto = rw items (page_more (HasLiveLedger c.args.self.now.state) c.args.from c.loop.at c.loop.page.items c.loop.invariant.upto
          c.in-Some.ledger least.0 least.1 least.2);
    }

pub returns : goal.returns
returns g c =
    let full : length c.loop.page.items ≡ c.args.most = omega (arith, c.loop.invariant.counted, c.loop-test.false, c.loop.auto.counter-end) in
    subst (λ n. IsPage (HasLiveLedger c.args.self.now.state) c.args.from n c.loop.page.items) full
    (page_full (HasLiveLedger c.args.self.now.state) c.args.from c.loop.at c.loop.page.items c.loop.invariant.upto)
