-- Frame conditions of a close that closed a log, and of a removal that removed one.
use Rattle.std.proofs.Common.{◌≡◌, ℕ, Ok, ap}
use Rattle.bk_store.specs.State.{State}
use Rattle.bk_store.specs.Leasing as leasing
use Rattle.bk_store.specs.CompactionPrimitives as copying
use Rattle.bk_store.specs.Frame.{CoreUnchanged, CachesUnchanged}
use Rattle.bk_store.proofs.RemovedLogs.{gone_changed, gone_removed}

pub closed_stays : (s t : State) (id : ℕ) → leasing.CloseLogTransition s id (Ok tt) t → CoreUnchanged s t × CachesUnchanged s t × (t.failures ≡ s.failures)
closed_stays s t id turn =
    let is = turn.1.2 in (
      record {
        settings = ap (λ (x : State). x.settings) is;
        ledgers = ap (λ (x : State). x.ledgers) is;
        gone = gone_changed s t id turn.1.0 _ turn.1.1 (ap (λ (x : State). x.logs) is) (ap (λ (x : State). x.next) is);
      },
      record { active = ap (λ (x : State). x.caches.active) is; flush = ap (λ (x : State). x.caches.flush) is; fronts = ap (λ (x : State). x.fronts) is },
      ap (λ (x : State). x.failures) is,
    )

pub removed_stays : (s t : State) (id : ℕ) → copying.RemoveLogTransition s id (Ok tt) t → CoreUnchanged s t × CachesUnchanged s t
removed_stays s t id turn =
    let is = turn.3 in (
      record {
        settings = ap (λ (x : State). x.settings) is;
        ledgers = ap (λ (x : State). x.ledgers) is;
        gone = gone_removed s t id (ap (λ (x : State). x.logs) is) (ap (λ (x : State). x.next) is);
      },
      record { active = ap (λ (x : State). x.caches.active) is; flush = ap (λ (x : State). x.caches.flush) is; fronts = ap (λ (x : State). x.fronts) is },
    )
