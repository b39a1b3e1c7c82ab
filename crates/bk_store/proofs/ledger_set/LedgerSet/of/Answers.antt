use Rattle.std.proofs.Common.{◌≡◌, ◌^◌, nat_lt, true, false, sym, ap, ◌∙◌, take, get_or, arith}
use Rattle.std.proofs.lemmas.Bool.{lt-ltb}
use Rattle.std.specs.FinSet as set
use Rattle.bk_store.specs.Transitions.{valid_ledgers}
use Rattle.bk_store.proofs.Ledgers.{ledgers-insert, listed_push, listed_skip, one_more, below_false}
use Rattle.bk_store.proofs.ledger_set.LedgerSet.of.Goals as goal
use Rattle.bk_store.proofs.ledger_set.LedgerSet.of.Goals.{then-ledger-le-LAST_ID+in_ok-insert, else-ledger-le-LAST_ID}

pub loop-ledger-preserved : goal.loop-ledger-preserved
loop-ledger-preserved c =
    let front = take c.loop-ledger.ledger-index c.args.listed.now in
    let ledger = get_or c.args.listed.now c.loop-ledger.ledger-index 0 in
    let more = sym (ap valid_ledgers (one_more c.args.listed.now c.loop-ledger.ledger-index c.loop-ledger-test.true)) in
    elim c.if-ledger-le-LAST_ID.branch [
      | then-ledger-le-LAST_ID+in_ok-insert w ↦
          let is : nat_lt ledger (2 ^ 63) ≡ true = lt-ltb ledger (2 ^ 63) (let within = w.if-ledger-le-LAST_ID.true in omega arith) in
          ap (λ l. set.from_list l.keys) w.ledgers-is ∙ ledgers-insert c.loop-ledger.ledgers w.insert.new.self ledger w.in_ok-insert.ensures.updates
          ∙ ap (λ dead. set.insert dead ledger) c.loop-ledger.invariant ∙ sym (listed_push front ledger is) ∙ more
      | else-ledger-le-LAST_ID w ↦
          let is : nat_lt ledger (2 ^ 63) ≡ false = below_false ledger (2 ^ 63) (let past = w.if-ledger-le-LAST_ID.false in omega arith) in
          ap (λ l. set.from_list l.keys) w.ledgers-is ∙ c.loop-ledger.invariant ∙ sym (listed_skip front ledger is) ∙ more
    ]
