-- A take preserves the store invariant: a lease that is given is one more that was given out.
use Rattle.std.proofs.Common.{◌≡◌, ℕ, List, Bool, Result, Ok, Err, sym, ap, subst, ◌∙◌}
use Rattle.bk_record.specs.Key.{EntryKey}
use Rattle.bk_lease.specs.Values.{with_given}
use Rattle.bk_store.specs.State.{StoreParts}
use Rattle.bk_store.specs.Transitions.{TakeTransition}
use Rattle.bk_store.specs.Invariant.{StoreInvariant}
use Rattle.bk_store.specs.declared.answer.Taken.{Taken}
use Rattle.bk_store.specs.declared.answer.Taken.TheVariants.{Deleted, Cached, NotHeld, Leased}
use Rattle.bk_store.specs.declared.answer.TakeFault.{TakeFault}
use Rattle.bk_store.specs.declared.answer.TakeFault.TheVariants as take_faults
use Rattle.bk_store.proofs.InvariantParts.{with_state, keeps_same}

-- one lease more was given out
keeps_given : (p : StoreParts) → StoreInvariant p → StoreInvariant (with_state p (record p.state { keeper = with_given p.state.keeper }))
keeps_given p keeps =
    let fits = keeps.fits in
    let seated = fits.logs.seated in
    record {
      fits = record {
        limits = fits.limits;
        logs = record {
          seated = record {
            slots = seated.slots;
            most = seated.most;
            seats = record { taken = seated.seats.taken; stands = seated.seats.stands };
          };
          each = fits.logs.each;
          writing = fits.logs.writing;
          filled = fits.logs.filled;
        };
        sent = fits.sent;
        placed = fits.placed;
        ledgers = fits.ledgers;
        accounts = fits.accounts;
      };
      job = keeps.job;
      fronts = keeps.fronts;
      promises = keeps.promises;
    }

module _ {V : Type 0} (bytes : V → List ℕ) (honest sound : V → Bool) (p q : StoreParts) (key : EntryKey) where
  pub keeps_take : (r : Result (Taken V) TakeFault) → StoreInvariant p → TakeTransition bytes honest sound p.state key r q.state → q ≡ with_state p q.state → StoreInvariant q
  keeps_take (Ok Deleted) keeps turn beside = keeps_same p q keeps beside turn.1
  keeps_take (Ok (Cached payload)) keeps turn beside = keeps_same p q keeps beside turn.2
  keeps_take (Ok NotHeld) keeps turn beside = keeps_same p q keeps beside turn.3
  keeps_take (Ok (Leased lease place)) keeps turn beside = subst StoreInvariant (sym (beside ∙ ap (with_state p) turn.2)) (keeps_given p keeps)
  keeps_take (Err take_faults.NoSeat) keeps turn beside = keeps_same p q keeps beside turn.2
  keeps_take (Err take_faults.TooMany) keeps turn beside = keeps_same p q keeps beside turn.3
  keeps_take (Err take_faults.Memory) keeps turn beside = keeps_same p q keeps beside turn.2
