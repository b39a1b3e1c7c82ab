use Rattle.std.proofs.Common.{◌≡◌, ◌+◌, ◌-◌, [], refl, sym, arith}
use Rattle.bk_index.proofs.RunPairs.{cells_and_run, is_sorted_and_run}
use Rattle.bk_index.proofs.Logged.{run_in_log}
use Rattle.bk_index.proofs.page.packed.Packed.of_run.Goals as goal

pub invariant_of-packed : goal.invariant_of-packed
invariant_of-packed c =
    let key = c.args.key.now in
    let base = c.base_of-base.result in
    let entry : key.entry ≡ base + (c.entry-2.result - base) = omega (arith, c.entry.ensures.value, c.entry-2.ensures.value, c.base_of-base.ensures.before) in
    let named : key ≡ record { ledger = c.ledger-ledger.result; entry = base + (c.entry-2.result - base) } =
    λ i. record { ledger = sym c.ledger-ledger.ensures.value i; entry = entry i } in (
      c.ledger-ledger.ensures.bound,
      c.base_of-base.ensures.bound,
      rw (c.in_ok-append.ensures.ok, c.in_ok-cells.ensures.items)
          (is_sorted_and_run c.ledger-ledger.result base [] key (c.entry-2.result - base) named refl c.args.place c.args.size c.fitting-number.result (λ _. tt)),
      rw (c.in_ok-append.ensures.ok, c.in_ok-cells.ensures.items, c.log.ensures.value) (λ _. run_in_log (c.entry-2.result - base) c.args.place c.args.size c.fitting-number.result),
    )

pub returns-clause-pairs : goal.returns-clause-pairs
returns-clause-pairs c =
    let key = c.args.key.now in
    let base = c.base_of-base.result in
    let entry : key.entry ≡ base + (c.entry-2.result - base) = omega (arith, c.entry.ensures.value, c.entry-2.ensures.value, c.base_of-base.ensures.before) in
    let named : key ≡ record { ledger = c.ledger-ledger.result; entry = base + (c.entry-2.result - base) } =
    λ i. record { ledger = sym c.ledger-ledger.ensures.value i; entry = entry i } in
    rw (c.in_ok-append.ensures.ok, c.in_ok-cells.ensures.items)
    (cells_and_run c.ledger-ledger.result base [] key (c.entry-2.result - base) named c.args.place c.args.size c.fitting-number.result)
