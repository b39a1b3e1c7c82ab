use Rattle.std.proofs.Common.{◌≡◌, true, false, is_some, length, not, refl, ap, ◌∙◌, arith}
use Rattle.bk_cache.specs.Caches.{write_cached_payload}
use Rattle.bk_store.proofs.Unnaming.{one_if, goes_first, goes_on, named-more, alone-le, alone-more, all_counted}
use Rattle.bk_store.proofs.deleting.unname_ledger.Goals as goal

pub loop-key-init : goal.loop-key-init
loop-key-init c =
    rw (c.into_iter-key-iterator.ensures.into_iter_gives, c.walk_ledger-key-items.ensures.items)
    (goes_first c.args.index.now c.args.caches.now c.args.ledger c.args.accounts.now c.requires)

counted : (c : goal.After-from-alone) → c.from-alone.result ≡ one_if (not (is_some (write_cached_payload c.args.caches.now c.in-Some.key)))
counted c =
    elim c.holds.result as (λ b. c.holds.result ≡ b → c.from-alone.result ≡ one_if (not b)) [
      | true ↦ λ is. rw is at c.from-alone.ensures
      | false ↦ λ is. rw is at c.from-alone.ensures
    ] refl ∙ ap (λ b. one_if (not b)) c.holds.ensures.value

pub overflow_add-alone : goal.overflow_add-alone
overflow_add-alone c =
    let coming = rw c.in-Some.ensures.steps at c.loop-key.invariant in
    omega (
      arith,
      alone-more (c.in-Some.key, c.in-Some.location) c.next.new.self coming c.from-alone.result
          (counted c),
      alone-le c.args.index.now c.args.caches.now c.args.ledger,
      ap length c.walk_ledger-key-items.ensures.items,
      c.walk_ledger-key-items.ensures.bound,
    )

pub unname-requires : goal.unname-requires
unname-requires c =
    let coming = rw c.in-Some.ensures.steps at c.loop-key.invariant in
    rw c.log.ensures.value (named-more (c.in-Some.key, c.in-Some.location) c.next.new.self coming)

pub loop-key-preserved : goal.loop-key-preserved
loop-key-preserved c =
    let coming = rw c.in-Some.ensures.steps at c.loop-key.invariant in
    goes_on (c.in-Some.key, c.in-Some.location) c.next.new.self coming c.unname.new.self c.from-alone.result
    (rw c.log.ensures.value at c.unname.ensures) (counted c)

pub returns-clause-bound : goal.returns-clause-bound
returns-clause-bound c =
    let done = rw c.in-None.ensures.steps.0 at c.loop-key.invariant in
    omega (
      arith,
      all_counted done,
      alone-le c.args.index.now c.args.caches.now c.args.ledger,
      ap length c.walk_ledger-key-items.ensures.items,
      c.walk_ledger-key-items.ensures.bound,
    )
