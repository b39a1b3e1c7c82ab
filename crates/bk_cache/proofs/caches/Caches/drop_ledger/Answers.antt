use Rattle.std.proofs.Common.{◌+◌, Option, Some, option_map, unwrap_or, sym, ap, ◌∙◌, arith}
use Rattle.std.specs.FinMap as map
use Rattle.bk_record.specs.Scan.{Payloads}
use Rattle.bk_record.specs.Keyed.{without_ledger, ledger_count}
use Rattle.bk_cache.specs.Caches.{CacheState, flush_of}
use Rattle.bk_cache.proofs.Sound.{sound_left}
use Rattle.bk_cache.proofs.Used.{ledger_count-empty}
use Rattle.bk_cache.proofs.LedgerCounts.{ledger_counts-le}
use Rattle.bk_cache.proofs.caches.Caches.drop_ledger.Goals as goal
use Rattle.bk_cache.proofs.caches.Caches.drop_ledger.Goals.{in-Some, in-None}

pub invariant_of-self : goal.invariant_of-self
invariant_of-self c =
    elim c.match-self.branch [
      | in-Some w ↦
          let flush = ap Some w.drop_ledger-in-Some.ensures.left ∙ ap (option_map (λ m. without_ledger m c.args.ledger)) (sym w.in-Some.is) in
          rw w.self-inside-is (sound_left _ c.args.ledger c.self.invariant _ _ _ c.drop_ledger-active.ensures.left flush c.drop_ledger.ensures)
      | in-None w ↦
          let flush = w.in-None.is ∙ ap (option_map (λ m. without_ledger m c.args.ledger)) (sym w.in-None.is) in
          rw w.self-inside-is (sound_left _ c.args.ledger c.self.invariant _ _ _ c.drop_ledger-active.ensures.left flush c.drop_ledger.ensures)
    ]

pub returns-clause-count : goal.returns-clause-count
returns-clause-count c =
    let before = ap (λ (s : CacheState). ledger_count s.active c.args.ledger + ledger_count (flush_of s) c.args.ledger) c.self.view_is in
    let counted = λ (o : Option Payloads). ledger_count (unwrap_or o map.empty) c.args.ledger in
    elim c.match-self.branch [
      | in-Some w ↦ omega (arith, before, w.result-is, c.drop_ledger-active.ensures.count, w.drop_ledger-in-Some.ensures.count, ap counted w.in-Some.is)
      | in-None w ↦ omega (arith, before, w.result-is, c.drop_ledger-active.ensures.count, ap counted w.in-None.is, ledger_count-empty c.args.ledger)
    ]

pub returns-clause-bound : goal.returns-clause-bound
returns-clause-bound c =
    let before = ap (λ (s : CacheState). ledger_count s.active c.args.ledger + ledger_count (flush_of s) c.args.ledger) c.self.view_is in
    omega (arith, before, returns-clause-count c, ledger_counts-le _ c.args.ledger c.self.invariant)

pub returns-clause-sound : goal.returns-clause-sound
returns-clause-sound c = invariant_of-self c
