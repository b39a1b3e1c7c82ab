-- What a change of the logs, or of a slot, does to the seats of the logs.
use Rattle.std.proofs.Common.{◌≡◌, ◌≢◌, inl, inr, ℕ, ◌+◌, ◌-◌, ◌<◌, true, cond, Option, Some, None}
use Rattle.std.proofs.Common.{is_some, length, set, refl, sym, ap, subst, ◌∙◌, arith}
use Rattle.std.specs.FinMap as finite
use Rattle.std.proofs.lemmas.Cmp.{nat_cmp_total}
use Rattle.std.proofs.lemmas.List.{length-set}
use Rattle.bk_lease.specs.declared.slot.Slot.TheVariants as slots
use Rattle.bk_lease.specs.Leases.{state_at, log_of, log_at, IsOpen}
use Rattle.bk_lease.specs.Slots.{IsFree, taken_of}
use Rattle.bk_lease.specs.Values.{SlotTable, with_state}
use Rattle.bk_lease.proofs.Slots.{inside_slots, taken_count-set, state_at-set_here, state_at-set_else, other_slot}
use Rattle.bk_store.specs.Logs.{Log, Logs, unwritten_log, is_open, is_written}
use Rattle.bk_store.specs.SlotAssignment.{AreSeated, IsSeated, slot_state}
use Rattle.bk_store.specs.declared.log.LogState.{LogState}
use Rattle.bk_store.specs.declared.log.LogState.TheVariants.{Writing, Filled, Copying, Readable, Retired, Closed}
use Rattle.bk_store.specs.declared.settings.Settings.{Settings}
use Rattle.bk_store.proofs.LogMaps.{log-insert_cases, log-remove_cases}
use Rattle.bk_store.proofs.OneLog.{same_len, each_log}

-- ---- the state of a log's slot

pub slot_state-log : (id : ℕ) (state : LogState) → log_of (slot_state id state) ≡ id
slot_state-log id Writing = refl
slot_state-log id Filled = refl
slot_state-log id Copying = refl
slot_state-log id Readable = refl
slot_state-log id Retired = refl
slot_state-log id Closed = refl

pub slot_state-taken : (id : ℕ) (state : LogState) → taken_of (slot_state id state) ≡ 1
slot_state-taken id Writing = refl
slot_state-taken id Filled = refl
slot_state-taken id Copying = refl
slot_state-taken id Readable = refl
slot_state-taken id Retired = refl
slot_state-taken id Closed = refl

pub slot_state-not_free : (id : ℕ) (state : LogState) → slot_state id state ≢ slots.Free
slot_state-not_free id state wrong = let one = slot_state-taken id state in let none : taken_of (slot_state id state) ≡ 0 = ap taken_of wrong in omega arith

-- the slot of a log that is not closed is open
pub slot_state-open : (id : ℕ) (state : LogState) → ¬ (state ≡ Closed) → slot_state id state ≡ slots.Open id
slot_state-open id Writing lent = refl
slot_state-open id Filled lent = refl
slot_state-open id Copying lent = refl
slot_state-open id Readable lent = refl
slot_state-open id Retired lent = refl
slot_state-open id Closed lent = absurd (lent refl)

pub slot_state-opened : (id : ℕ) (state : LogState) → is_open state ≡ true → slot_state id state ≡ slots.Open id
slot_state-opened id Writing opened = refl
slot_state-opened id Filled opened = refl
slot_state-opened id Copying opened = refl
slot_state-opened id Readable opened = refl
slot_state-opened id Retired opened = refl
slot_state-opened id Closed opened = absurd (cc)

pub slot_state-written : (id : ℕ) (state : LogState) → is_written state ≡ true → slot_state id state ≡ slots.Open id
slot_state-written id Writing written = refl
slot_state-written id Filled written = absurd (cc)
slot_state-written id Copying written = refl
slot_state-written id Readable written = absurd (cc)
slot_state-written id Retired written = absurd (cc)
slot_state-written id Closed written = absurd (cc)

-- two states that are not closed
pub slot_state-same : (id : ℕ) (new old : LogState) → is_open new ≡ true → is_open old ≡ true → slot_state id new ≡ slot_state id old
slot_state-same id new old first second = slot_state-opened id new first ∙ sym (slot_state-opened id old second)

-- ---- what the seats say

module _ (keeper : SlotTable) (logs : Logs) (seats : AreSeated keeper logs) where
  -- a log is in its slot
  pub stands_log : (id : ℕ) (log : Log) → finite.get logs id ≡ Some log → log_at keeper.slots log.slot ≡ id
  stands_log id log held = ap log_of (seats.stands id log held) ∙ slot_state-log id log.state

  pub stands_open : (id : ℕ) (log : Log) → finite.get logs id ≡ Some log → ¬ (log.state ≡ Closed) → state_at keeper.slots log.slot ≡ slots.Open id
  stands_open id log held lent = seats.stands id log held ∙ slot_state-open id log.state lent

  pub is_open_at : (id : ℕ) (log : Log) → finite.get logs id ≡ Some log → ¬ (log.state ≡ Closed) → IsOpen keeper.slots log.slot
  is_open_at id log held lent = stands_open id log held lent ∙ ap slots.Open (sym (stands_log id log held))

  pub stands_inside : (id : ℕ) (log : Log) → finite.get logs id ≡ Some log → log.slot < length keeper.slots
  stands_inside id log held = inside_slots keeper.slots log.slot (slot_state id log.state) (seats.stands id log held) (slot_state-not_free id log.state)

  -- two logs are in two slots
  pub slots_apart : (id other : ℕ) (log l : Log) → finite.get logs id ≡ Some log → finite.get logs other ≡ Some l → other ≢ id → l.slot ≢ log.slot
  slots_apart id other log l held is apart = other_slot keeper.slots l.slot log.slot other id apart (stands_log other l is) (stands_log id log held)

  -- a free slot is no log's
  pub not_stood : (slot id : ℕ) (log : Log) → IsFree keeper.slots slot → finite.get logs id ≡ Some log → log.slot ≢ slot
  not_stood slot id log free held same =
      slot_state-not_free id log.state (sym (seats.stands id log held) ∙ ap (state_at keeper.slots) same ∙ free.1)

  -- ---- one log changes, and is as before
  pub seats_one : (id : ℕ) (log new : Log) → finite.get logs id ≡ Some log → new.slot ≡ log.slot → slot_state id new.state ≡ slot_state id log.state
      → AreSeated keeper (finite.insert logs id new)
  seats_one id log new held slot state = record {
    taken = seats.taken ∙ sym (same_len logs id log new held);
    stands = each_log logs id log new held (λ q l. state_at keeper.slots l.slot ≡ slot_state q l.state)
        (ap (state_at keeper.slots) slot ∙ seats.stands id log held ∙ sym state) (λ q l _ is. seats.stands q l is);
  }

  -- ---- one more log is in a slot that was free
  pub seats_new : (slot id : ℕ) (new : Log) → IsFree keeper.slots slot → finite.get logs id ≡ None → new.slot ≡ slot
      → slot_state id new.state ≡ slots.Open id → AreSeated (with_state keeper slot (slots.Open id)) (finite.insert logs id new)
  seats_new slot id new free none at state = record {
    taken = let more = taken_count-set keeper.slots slot (slots.Open id) free.0 in let was : taken_of (state_at keeper.slots slot) ≡ 0 = ap taken_of free.1 in
        let len : finite.len (finite.insert logs id new) ≡ finite.len logs + 1 =
        finite.len-insert nat_cmp_total logs id new ∙ ap (λ (o : Option Log). cond (is_some o) (finite.len logs) (finite.len logs + 1)) none in
        let same = seats.taken in omega arith;
    stands = λ q l is. elim (log-insert_cases logs id new q l is) [
      | inl here ↦ subst (λ x. state_at (set keeper.slots slot (slots.Open id)) x.slot ≡ slot_state q x.state) here.1
          (ap (state_at (set keeper.slots slot (slots.Open id))) at ∙ state_at-set_here keeper.slots slot (slots.Open id) free.0
          ∙ ap slots.Open (sym here.0) ∙ sym (subst (λ n. slot_state n new.state ≡ slots.Open n) (sym here.0) state))
      | inr other ↦ state_at-set_else keeper.slots slot l.slot (slots.Open id) (not_stood slot q l free other.1) ∙ seats.stands q l other.1
    ];
  }

  -- ---- a log is closed, and its slot
  pub seats_closed : (id : ℕ) (log : Log) → finite.get logs id ≡ Some log
      → AreSeated (with_state keeper log.slot (slots.Closed id)) (finite.insert logs id (unwritten_log Closed log))
  seats_closed id log held = record {
    taken = let more = taken_count-set keeper.slots log.slot (slots.Closed id) (stands_inside id log held) in
        let was : taken_of (state_at keeper.slots log.slot) ≡ 1 = ap taken_of (seats.stands id log held) ∙ slot_state-taken id log.state in
        let len = same_len logs id log (unwritten_log Closed log) held in
        let same = seats.taken in omega arith;
    stands = each_log logs id log (unwritten_log Closed log) held (λ q l. state_at (set keeper.slots log.slot (slots.Closed id)) l.slot ≡ slot_state q l.state)
        (state_at-set_here keeper.slots log.slot (slots.Closed id) (stands_inside id log held))
        (λ q l apart is. state_at-set_else keeper.slots log.slot l.slot (slots.Closed id) (slots_apart id q log l held is apart) ∙ seats.stands q l is);
  }

  -- ---- a log is removed, and its slot is free
  pub seats_removed : (id : ℕ) (log : Log) → finite.get logs id ≡ Some log → AreSeated (with_state keeper log.slot slots.Free) (finite.remove logs id)
  seats_removed id log held = record {
    taken = let less = taken_count-set keeper.slots log.slot slots.Free (stands_inside id log held) in
        let was : taken_of (state_at keeper.slots log.slot) ≡ 1 = ap taken_of (seats.stands id log held) ∙ slot_state-taken id log.state in
        let len : finite.len (finite.remove logs id) ≡ finite.len logs - 1 =
        finite.len-remove nat_cmp_total logs id ∙ ap (λ (o : Option Log). cond (is_some o) (finite.len logs - 1) (finite.len logs)) held in
        let same = seats.taken in omega arith;
    stands = λ q l is.
        let other = log-remove_cases logs id q l is in
        state_at-set_else keeper.slots log.slot l.slot slots.Free (slots_apart id q log l held other.1 other.0) ∙ seats.stands q l other.1;
  }

-- ---- the table of a store

module _ (settings : Settings) (keeper : SlotTable) (logs : Logs) (seated : IsSeated settings keeper logs) where
  pub seated_one : (id : ℕ) (log new : Log) → finite.get logs id ≡ Some log → new.slot ≡ log.slot → slot_state id new.state ≡ slot_state id log.state
      → IsSeated settings keeper (finite.insert logs id new)
  seated_one id log new held slot state = record {
    slots = seated.slots;
    most = seated.most;
    seats = seats_one keeper logs seated.seats id log new held slot state;
  }

  pub seated_new : (slot id : ℕ) (new : Log) → IsFree keeper.slots slot → finite.get logs id ≡ None → new.slot ≡ slot
      → slot_state id new.state ≡ slots.Open id → IsSeated settings (with_state keeper slot (slots.Open id)) (finite.insert logs id new)
  seated_new slot id new free none at state = record {
    slots = length-set keeper.slots slot (slots.Open id) ∙ seated.slots;
    most = seated.most;
    seats = seats_new keeper logs seated.seats slot id new free none at state;
  }

  pub seated_closed : (id : ℕ) (log : Log) → finite.get logs id ≡ Some log
      → IsSeated settings (with_state keeper log.slot (slots.Closed id)) (finite.insert logs id (unwritten_log Closed log))
  seated_closed id log held = record {
    slots = length-set keeper.slots log.slot (slots.Closed id) ∙ seated.slots;
    most = seated.most;
    seats = seats_closed keeper logs seated.seats id log held;
  }

  pub seated_removed : (id : ℕ) (log : Log) → finite.get logs id ≡ Some log
      → IsSeated settings (with_state keeper log.slot slots.Free) (finite.remove logs id)
  seated_removed id log held = record {
    slots = length-set keeper.slots log.slot slots.Free ∙ seated.slots;
    most = seated.most;
    seats = seats_removed keeper logs seated.seats id log held;
  }

  -- ---- all logs change by a rule, and is as before
  pub seated_ruled : (rule : LogState → Log → Log) (new : Logs) → finite.len new ≡ finite.len logs
      → ((id : ℕ) (log : Log) → finite.get new id ≡ Some log → (l : Log) × (finite.get logs id ≡ Some l) × (rule l.state l ≡ log))
      → ((log : Log) → (rule log.state log).slot ≡ log.slot)
      → ((id : ℕ) (log : Log) → slot_state id (rule log.state log).state ≡ slot_state id log.state) → IsSeated settings keeper new
  seated_ruled rule new len was slot state = record {
    slots = seated.slots;
    most = seated.most;
    seats = record {
      taken = seated.seats.taken ∙ sym len;
      stands = λ id log is.
          let w = was id log is in
          subst (λ l. state_at keeper.slots l.slot ≡ slot_state id l.state) w.2
          (ap (state_at keeper.slots) (slot w.0) ∙ seated.seats.stands id w.0 w.1 ∙ sym (state id w.0));
    };
  }
