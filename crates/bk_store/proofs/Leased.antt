-- A lease is given, and a log is closed: what the table of the slots and the logs give the
-- transitions.
use Rattle.std.proofs.Common.{◌≡◌, ℕ, ◌<◌, true, false, Some, sym, ap, subst, ◌∙◌}
use Rattle.std.specs.FinMap as finite
use Rattle.bk_lease.specs.declared.slot.Slot.TheVariants as slots
use Rattle.bk_lease.specs.Leases.{IsOpen, state_at}
use Rattle.bk_lease.specs.Values.{SlotTable, Ticket, AllowsLeaseCount, held_ticket, new_ticket, with_closed, with_given, with_state}
use Rattle.bk_store.specs.Logs.{View, Log, Logs, HasOpenView, unwritten_log, is_open}
use Rattle.bk_store.specs.SlotAssignment.{slot_state}
use Rattle.bk_store.specs.State.{StoreParts}
use Rattle.bk_store.specs.Invariant.{StoreInvariant}
use Rattle.bk_store.specs.Primitives.{IsIn}
use Rattle.bk_store.specs.Leasing.{IsLeaseOf, HasLeaseCount, with_closed_log}
use Rattle.bk_store.specs.declared.log.LogState.{LogState}
use Rattle.bk_store.specs.declared.log.LogState.TheVariants.{Retired, Closed}
use Rattle.bk_store.proofs.Seats.{is_open_at, stands_log}

-- a log that is open to keys is not closed
pub open_lent : (state : LogState) → is_open state ≡ true → ¬ (state ≡ Closed)
open_lent state opened wrong = let both : false ≡ true = sym (ap is_open wrong) ∙ opened in cc

retired_lent : (state : LogState) → state ≡ Retired → ¬ (state ≡ Closed)
retired_lent state is wrong = let both : Retired ≡ Closed = sym is ∙ wrong in cc

module _ (p now : StoreParts) (here : p ≡ now) (keeps : StoreInvariant now) (id : ℕ) (log : Log) (held : finite.get p.state.logs id ≡ Some log) where
  held_now : finite.get now.state.logs id ≡ Some log
  held_now = ap (λ (q : StoreParts). finite.get q.state.logs id) (sym here) ∙ held

  lent_open : ¬ (log.state ≡ Closed) → IsOpen p.state.keeper.slots log.slot
  lent_open lent = subst (λ (q : StoreParts). IsOpen q.state.keeper.slots log.slot) (sym here)
      (is_open_at now.state.keeper now.state.logs keeps.fits.logs.seated.seats id log held_now lent)

  log_stands : (l : Log) → finite.get now.state.logs id ≡ Some l → log ≡ l
  log_stands l is = let both : Some log ≡ Some l = sym held_now ∙ is in cc

  met_now : (count : ℕ) → AllowsLeaseCount p.state.keeper log.slot count → HasLeaseCount now.state.keeper now.state.logs id count
  met_now count met = record { log = log; held = held_now; met = subst (λ (q : StoreParts). AllowsLeaseCount q.state.keeper log.slot count) here met }

  -- ---- a lease

  module _ (shown : HasOpenView now.state.logs id) where
    opened_is : is_open log.state ≡ true
    opened_is = ap (λ (l : Log). is_open l.state) (log_stands shown.log shown.held) ∙ shown.opened

    pub pin_open : IsOpen p.state.keeper.slots log.slot
    pin_open = lent_open (open_lent log.state opened_is)

    pub lease_given : (keeper : SlotTable) (ticket : Ticket) (view : View) → keeper ≡ with_given p.state.keeper
        → ticket ≡ new_ticket p.state.keeper log.slot ticket.seat → (met : ℕ) × (met < p.state.keeper.most) × AllowsLeaseCount p.state.keeper log.slot met
        → log.view ≡ Some view
        → IsLeaseOf now.state.keeper now.state.logs id ticket view
        × (record p.state { keeper = keeper } ≡ record now.state { keeper = with_given now.state.keeper })
    lease_given keeper ticket view given is room view_is = (
      record {
        log = log;
        held = held_now;
        opened = opened_is;
        view_is = view_is;
        ticket_is = is ∙ ap (λ (q : StoreParts). new_ticket q.state.keeper log.slot ticket.seat) here
            ∙ ap (held_ticket now.state.keeper.table ticket.seat log.slot)
            (stands_log now.state.keeper now.state.logs keeps.fits.logs.seated.seats id log held_now);
        room = (room.0, subst (λ (q : StoreParts). room.0 < q.state.keeper.most) here room.1, met_now room.0 room.2);
      },
      ap (λ (k : SlotTable). record p.state { keeper = k }) given
          ∙ ap (λ (q : StoreParts). record q.state { keeper = with_given q.state.keeper }) here,
    )

  -- ---- a log that is closed

  module _ (known : IsIn now.state id Retired) where
    pub close_open : IsOpen p.state.keeper.slots log.slot
    close_open = lent_open (retired_lent log.state (ap (λ (l : Log). l.state) (log_stands known.log known.held) ∙ known.state_is))

    pub log_closed : (logs : Logs) (keeper : SlotTable) → logs ≡ finite.insert p.state.logs id (unwritten_log Closed log)
        → keeper ≡ with_closed p.state.keeper log.slot → AllowsLeaseCount p.state.keeper log.slot 0
        → HasLeaseCount now.state.keeper now.state.logs id 0
        × ((l : Log) × (finite.get now.state.logs id ≡ Some l) × (record p.state { logs = logs; keeper = keeper } ≡ with_closed_log now.state id l))
    log_closed logs keeper changed closed met = (
      met_now 0 met,
      (
        log,
        held_now,
        (λ i. record p.state { logs = changed i; keeper = closed i })
            ∙ ap (λ (q : StoreParts). record q.state {
              logs = finite.insert q.state.logs id (unwritten_log Closed log);
              keeper = with_closed q.state.keeper log.slot;
            }) here
            ∙ ap (λ n. record now.state {
              logs = finite.insert now.state.logs id (unwritten_log Closed log);
              keeper = with_state now.state.keeper log.slot (slots.Closed n);
            }) (stands_log now.state.keeper now.state.logs keeps.fits.logs.seated.seats id log held_now),
      ),
    )

  -- ---- a log that is removed

  pub remove_closed : IsIn now.state id Closed → state_at p.state.keeper.slots log.slot ≡ slots.Closed id
  remove_closed known =
      let same = log_stands known.log known.held in
      ap (λ (q : StoreParts). state_at q.state.keeper.slots log.slot) here ∙ keeps.fits.logs.seated.seats.stands id log held_now
      ∙ ap (slot_state id) (ap (λ (l : Log). l.state) same ∙ known.state_is)
