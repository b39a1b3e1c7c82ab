-- Logs that are found are seated one after the other.
use Rattle.std.proofs.Common.{◌≡◌, inl, inr, ℕ, ◌+◌, ◌<◌, ◌≤◌, Some, None, length, replicate, refl, sym, ap, subst, ◌∙◌, arith, lt_of_not-le}
use Rattle.std.proofs.lemmas.List.{length-set, length-replicate, get_or-replicate}
use Rattle.std.proofs.Math.ListN.{get_or-eq_default}
use Rattle.std.specs.Ordering.{nat_cmp}
use Rattle.std.specs.FinMap as finite
use mathlib.Core.Logic.{dite}
use native.Mathlib.Decide.{dec_le}
use Rattle.bk_lease.specs.declared.slot.Slot.TheVariants as slots
use Rattle.bk_lease.specs.Leases.{state_at, MayOpen}
use Rattle.bk_lease.specs.Slots.{taken_count}
use Rattle.bk_lease.specs.Values.{SlotTable, with_state}
use Rattle.bk_lease.proofs.Slots.{taken_count-replicate, state_at-set_else}
use Rattle.bk_store.specs.Logs.{Log, Logs}
use Rattle.bk_store.specs.SlotAssignment.{AreSeated, IsSameTable, IsSeated, slot_state}
use Rattle.bk_store.specs.declared.settings.Settings.{Settings}
use Rattle.bk_store.proofs.Cases.{some_or_none}
use Rattle.bk_store.proofs.LogMaps.{log-insert_cases}
use Rattle.bk_store.proofs.Seats.{seats_new}

-- the logs found so far are seated, in slots below this one, and their ids are below the next one
pub record IsSeating (old keeper : SlotTable) (logs : Logs) (slot next : ℕ) : Type 0 where
  pub seats : AreSeated keeper logs
  pub same : IsSameTable old keeper
  pub free : (other : ℕ) → slot ≤ other → state_at keeper.slots other ≡ slots.Free
  pub below : (id : ℕ) (log : Log) → finite.get logs id ≡ Some log → id < next

-- a list of free slots is free everywhere
all_free : (n slot : ℕ) → state_at (replicate n slots.Free) slot ≡ slots.Free
all_free n slot = dite (dec_le n slot)
    (λ past. get_or-eq_default (replicate n slots.Free) slots.Free (subst (λ (k : ℕ). k ≤ slot) (sym (length-replicate n slots.Free)) past))
    (λ within. get_or-replicate n slot slots.Free slots.Free (lt_of_not-le within))

pub none_held : (id : ℕ) (log : Log) → finite.get {R = nat_cmp} finite.empty id ≡ Some log → ⊥
none_held id log is = let wrong : None ≡ Some log = sym (finite.get-empty nat_cmp id) ∙ is in cc

-- at the beginning no slot is taken
pub none_seated : (keeper : SlotTable) (logs : Logs) → keeper.slots ≡ replicate (length keeper.slots) slots.Free → logs ≡ finite.empty
    → IsSeating keeper keeper logs 0 0
none_seated keeper logs free none = record {
  seats = record {
    taken = ap taken_count free ∙ taken_count-replicate (length keeper.slots) ∙ sym (ap finite.len none ∙ finite.len-empty nat_cmp Log);
    stands = λ id log is. absurd (none_held id log (ap (λ l. finite.get l id) (sym none) ∙ is));
  };
  same = record { slots = refl; most = refl };
  free = λ other _. ap (λ l. state_at l other) free ∙ all_free (length keeper.slots) other;
  below = λ id log is. absurd (none_held id log (ap (λ l. finite.get l id) (sym none) ∙ is));
}

module _ {old keeper : SlotTable} {logs : Logs} {slot next : ℕ} (so_far : IsSeating old keeper logs slot next) where
  -- the next slot may be opened
  pub may_seat : MayOpen (state_at keeper.slots slot)
  may_seat = subst MayOpen (sym (so_far.free slot (omega arith))) tt

  unheld : (id : ℕ) → next ≤ id → finite.get logs id ≡ None
  unheld id above = elim (some_or_none (finite.get logs id)) [
    | inl none ↦ none
    | inr there ↦ absurd (let less = so_far.below id there.0 there.1 in omega (arith, above, less))
  ]

  -- one more log
  pub seat_on : (id : ℕ) (log : Log) (keeper' : SlotTable) (logs' : Logs) → slot < length keeper.slots → next ≤ id → log.slot ≡ slot
      → slot_state id log.state ≡ slots.Open id → keeper' ≡ with_state keeper slot (slots.Open id) → logs' ≡ finite.insert logs id log
      → IsSeating old keeper' logs' (slot + 1) (id + 1)
  seat_on id log keeper' logs' within above at state opened held =
      subst (λ (z : SlotTable × Logs). IsSeating old z.0 z.1 (slot + 1) (id + 1)) (λ i. (sym opened i, sym held i)) (record {
        seats = seats_new keeper logs so_far.seats slot id log (within, so_far.free slot (omega arith)) (unheld id above) at state;
        same = record { slots = length-set keeper.slots slot (slots.Open id) ∙ so_far.same.slots; most = so_far.same.most };
        free = λ other past.
            state_at-set_else keeper.slots slot other (slots.Open id) (λ same. omega (arith, past, same)) ∙ so_far.free other (omega (arith, past));
        below = λ q l is. elim (log-insert_cases logs id log q l is) [
          | inl here ↦ let same = here.0 in omega (arith, same)
          | inr other ↦ let less = so_far.below q l other.1 in omega (arith, less, above)
        ];
      })

-- what a table has that was made by the settings, once the logs are seated
pub seated_by : (settings : Settings) (made keeper : SlotTable) (logs : Logs) → made.slots ≡ replicate settings.slots slots.Free
    → made.most ≡ settings.leases → IsSameTable made keeper → AreSeated keeper logs → IsSeated settings keeper logs
seated_by settings made keeper logs free most same seats = record {
  slots = same.slots ∙ ap length free ∙ length-replicate settings.slots slots.Free;
  most = same.most ∙ most;
  seats = seats;
}
