-- The slots of the logs are closed one after another, by rising id, and opened again.
use Rattle.std.proofs.Common.{◌≡◌, ◌≢◌, inl, inr, ℕ, ◌+◌, ◌<◌, ◌≤◌, ◌^◌, Option, Some, None, IsSome, is_some}
use Rattle.std.proofs.Common.{length, set, refl, sym, ap, subst, ◌∙◌, arith, lt_of_not-le}
use Rattle.std.proofs.lemmas.List.{length-set, ext_get_or}
use Rattle.std.specs.Option.{option_and_then}
use Rattle.std.specs.FinMap as finite
use mathlib.Core.Logic.{dite}
use native.Mathlib.Decide.{dec_le}
use Rattle.bk_lease.specs.declared.slot.Slot.TheVariants as slots
use Rattle.bk_lease.specs.declared.rule.Register.{Register}
use Rattle.bk_lease.specs.declared.rule.Role.TheVariants.{Keeper}
use Rattle.bk_lease.specs.Leases.{state_at, log_at, log_of, open_word, IsOpen, MayOpen}
use Rattle.bk_lease.specs.Steps.{with_slot}
use Rattle.bk_lease.specs.Values.{SlotTable, AllowsLeaseCount, register_at_rest, with_closed, with_state}
use Rattle.bk_lease.proofs.KeeperRuled.{keeping, RuledBy-opened}
use Rattle.bk_lease.proofs.Views.{held_on-set}
use Rattle.bk_lease.proofs.Slots.{state_at-set_here, state_at-set_else, with_closed-opened}
use Rattle.bk_store.specs.Logs.{Log, Logs, IsNextHeld}
use Rattle.bk_store.specs.SlotAssignment.{AreSeated, slot_state}
use Rattle.bk_store.specs.Leasing.{IsLowestLeased, HaveNoLeases, AreClosedToLeases, slot_lent, lent_slot}
use Rattle.bk_store.specs.declared.log.LogState.{LogState}
use Rattle.bk_store.specs.declared.log.LogState.TheVariants.{Writing, Filled, Copying, Readable, Retired, Closed}
use Rattle.bk_store.proofs.Cases.{same_or_apart}
use Rattle.bk_store.proofs.Seats.{slots_apart, stands_inside, stands_open, slot_state-open}

-- ---- what the lease rule allows beside a slot that is open again

-- a count that may be met beside a closed slot may be met beside it when it is open
meet_opened : (keeper : SlotTable) (at log slot count : ℕ) → at < length keeper.slots → log < 2 ^ 31 → state_at keeper.slots at ≡ slots.Closed log
    → AllowsLeaseCount keeper slot count → AllowsLeaseCount (with_state keeper at (slots.Open log)) slot count
meet_opened keeper at log slot count inside fits closed met =
    let p : Register = register_at_rest keeper.slots keeper.most keeper.given in
    let q : Register = with_slot p at (slots.Open log) in
    let change = held_on-set slot met.1 0 (Keeper p) (Keeper q) met.2.keeper in
    let same = met.3 in (
      set met.0 at (open_word log 0),
      keeping q met.1,
      RuledBy-opened p met.0 met.1 met.2 at log inside fits (subst MayOpen (sym closed) tt),
      omega (arith, change, same),
    )

module _ (logs : Logs) (old : SlotTable) (seats : AreSeated old logs) where
  one_log : (id : ℕ) (log l : Log) → finite.get logs id ≡ Some log → finite.get logs id ≡ Some l → log ≡ l
  one_log id log l held is = let both : Some log ≡ Some l = sym held ∙ is in cc

  module _ {now : SlotTable} {first end : ℕ} (so_far : AreClosedToLeases logs old now first end) where
    -- the slot of a log that is not among those
    slot_kept : (id : ℕ) (log : Log) → finite.get logs id ≡ Some log → ((first ≤ id) → id < end → ⊥) → state_at now.slots log.slot ≡ state_at old.slots log.slot
    slot_kept id log held outside = so_far.else_as log.slot (λ q l is above below same.
        elim (same_or_apart q id) [
          | inl here ↦ outside (omega (arith, above, here)) (omega (arith, below, here))
          | inr apart ↦ slots_apart old logs seats id q log l held is apart same
        ])

    inside_now : (id : ℕ) (log : Log) → finite.get logs id ≡ Some log → log.slot < length now.slots
    inside_now id log held = let within = stands_inside old logs seats id log held in let long = so_far.long in omega (arith, within, long)

    same_most : now.most ≡ old.most
    same_most = ap (λ (k : SlotTable). k.most) so_far.same

    -- where none of the logs is among those, nothing changed
    all_kept : ((id : ℕ) (log : Log) → finite.get logs id ≡ Some log → first ≤ id → id < end → ⊥) → now ≡ old
    all_kept none =
        let lists : now.slots ≡ old.slots = ext_get_or slots.Free now.slots old.slots so_far.long
        (λ slot _. so_far.else_as slot (λ id log held above below _. none id log held above below)) in
        so_far.same ∙ ap (λ s. record old { slots = s }) lists

-- ---- one more log is closed

module _ (logs : Logs) (old : SlotTable) (seats : AreSeated old logs) {now : SlotTable} {end : ℕ} (so_far : AreClosedToLeases logs old now 0 end)
    (id : ℕ) (log : Log) (held : finite.get logs id ≡ Some log) (behind : end ≤ id)
    (least : (other : ℕ) → IsSome (finite.get logs other) → end ≤ other → id ≤ other) where
  before : (q : ℕ) (l : Log) → finite.get logs q ≡ Some l → q < id → q < end
  before q l is less = dite (dec_le end q)
      (λ past. absurd (let far = least q (ap is_some is) past in omega (arith, far, less))) (λ within. lt_of_not-le within)

  next_kept : state_at now.slots log.slot ≡ slot_state id log.state
  next_kept = slot_kept logs old seats so_far id log held (λ _ below. omega (arith, below, behind)) ∙ seats.stands id log held

  next_stands : ¬ (log.state ≡ Closed) → state_at now.slots log.slot ≡ slots.Open id
  next_stands lent = next_kept ∙ slot_state-open id log.state lent

  next_open : ¬ (log.state ≡ Closed) → IsOpen now.slots log.slot
  next_open lent = next_stands lent ∙ ap (λ s. slots.Open (log_of s)) (sym (next_stands lent))

  log_now : ¬ (log.state ≡ Closed) → log_at now.slots log.slot ≡ id
  log_now lent = ap log_of (next_stands lent)

  abbrev closed_now : SlotTable
  closed_now = with_closed now log.slot

  shut_next : ¬ (log.state ≡ Closed) → AreClosedToLeases logs old closed_now 0 (id + 1)
  shut_next lent =
      let state = slots.Closed (log_at now.slots log.slot) in
      record {
        same = ap (λ (k : SlotTable). record k { slots = set now.slots log.slot state }) so_far.same;
        long = length-set now.slots log.slot state ∙ so_far.long;
        shut = λ q l is above below. elim (same_or_apart q id) [
          | inl here ↦
              let one = one_log logs old seats id log l held (ap (finite.get logs) (sym here) ∙ is) in
              ap (λ (x : Log). state_at (set now.slots log.slot state) x.slot) (sym one)
              ∙ state_at-set_here now.slots log.slot state (inside_now logs old seats so_far id log held) ∙ ap slots.Closed (log_now lent ∙ sym here)
          | inr apart ↦
              state_at-set_else now.slots log.slot l.slot state (slots_apart old logs seats id q log l held is apart)
              ∙ so_far.shut q l is above (before q l is (omega (arith, below, apart)))
        ];
        else_as = λ slot none. elim (same_or_apart slot log.slot) [
          | inl here ↦ absurd (none id log held (omega arith) (omega arith) (sym here))
          | inr apart ↦ state_at-set_else now.slots log.slot slot state apart
              ∙ so_far.else_as slot (λ q l is above below. none q l is above (omega (arith, below, behind)))
        ];
      }

  -- a log that is closed already
  shut_skipped : log.state ≡ Closed → AreClosedToLeases logs old now 0 (id + 1)
  shut_skipped closed = record {
    same = so_far.same;
    long = so_far.long;
    shut = λ q l is above below. elim (same_or_apart q id) [
      | inl here ↦
          let one = one_log logs old seats id log l held (ap (finite.get logs) (sym here) ∙ is) in
          ap (λ (x : Log). state_at now.slots x.slot) (sym one) ∙ next_kept ∙ ap (slot_state id) closed ∙ ap slots.Closed (sym here)
      | inr apart ↦ so_far.shut q l is above (before q l is (omega (arith, below, apart)))
    ];
    else_as = λ slot none. so_far.else_as slot (λ q l is above below. none q l is above (omega (arith, below, behind)));
  }

  -- the logs below this one are those that were closed
  shut_here : AreClosedToLeases logs old now 0 id
  shut_here = record {
    same = so_far.same;
    long = so_far.long;
    shut = λ q l is above below. so_far.shut q l is above (before q l is below);
    else_as = λ slot none. so_far.else_as slot (λ q l is above below. none q l is above (omega (arith, below, behind)));
  }

  -- what may be met beside the table when one more slot is closed might be before
  meets_next : ¬ (log.state ≡ Closed) → id < 2 ^ 31 → (slot count : ℕ) → AllowsLeaseCount closed_now slot count → AllowsLeaseCount now slot count
  meets_next lent fits slot count met =
      let inside = inside_now logs old seats so_far id log held in
      let same = log_now lent in
      subst (λ k. AllowsLeaseCount k slot count) (with_closed-opened now log.slot (next_open lent))
      (meet_opened closed_now log.slot (log_at now.slots log.slot) slot count
      (let long = length-set now.slots log.slot (slots.Closed (log_at now.slots log.slot)) in omega (arith, inside, long)) (omega (arith, same, fits))
      (state_at-set_here now.slots log.slot (slots.Closed (log_at now.slots log.slot)) inside) met)

-- ---- a log less is closed

module _ (logs : Logs) (old : SlotTable) (seats : AreSeated old logs) {now : SlotTable} {first end : ℕ} (so_far : AreClosedToLeases logs old now first end)
    (id : ℕ) (log : Log) (held : finite.get logs id ≡ Some log) (behind : first ≤ id) (below_end : id < end)
    (least : (other : ℕ) → IsSome (finite.get logs other) → first ≤ other → id ≤ other) where
  is_shut : state_at now.slots log.slot ≡ slots.Closed id
  is_shut = so_far.shut id log held behind below_end

  reopen_inside : log.slot < length now.slots
  reopen_inside = inside_now logs old seats so_far id log held

  -- a slot that none of the later logs has, and this one neither
  none_later : (slot : ℕ) → log.slot ≢ slot → ((q : ℕ) (l : Log) → finite.get logs q ≡ Some l → id + 1 ≤ q → q < end → ¬ (l.slot ≡ slot))
      → (q : ℕ) (l : Log) → finite.get logs q ≡ Some l → first ≤ q → q < end → ¬ (l.slot ≡ slot)
  none_later slot apart none q l is above below same = elim (same_or_apart q id) [
    | inl here ↦ apart (ap (λ (x : Log). x.slot) (one_log logs old seats id log l held (ap (finite.get logs) (sym here) ∙ is)) ∙ same)
    | inr other ↦ let far = least q (ap is_some is) above in none q l is (omega (arith, far, other)) below same
  ]

  reopened : (keeper : SlotTable) → ¬ (log.state ≡ Closed) → keeper ≡ with_state now log.slot (slots.Open id) → AreClosedToLeases logs old keeper (id + 1) end
  reopened keeper lent is =
      let state = slots.Open id in
      subst (λ k. AreClosedToLeases logs old k (id + 1) end) (sym is) (record {
        same = ap (λ (k : SlotTable). record k { slots = set now.slots log.slot state }) so_far.same;
        long = length-set now.slots log.slot state ∙ so_far.long;
        shut = λ q l there above below.
            state_at-set_else now.slots log.slot l.slot state
            (slots_apart old logs seats id q log l held there (λ same. omega (arith, above, same)))
            ∙ so_far.shut q l there (omega (arith, above, behind)) below;
        else_as = λ slot none. elim (same_or_apart slot log.slot) [
          | inl here ↦ ap (state_at (set now.slots log.slot state)) here ∙ state_at-set_here now.slots log.slot state reopen_inside
              ∙ sym (ap (state_at old.slots) here ∙ stands_open old logs seats id log held lent)
          | inr apart ↦ state_at-set_else now.slots log.slot slot state apart
              ∙ so_far.else_as slot (none_later slot (λ same. apart (sym same)) none)
        ];
      })

  stays_closed : log.state ≡ Closed → AreClosedToLeases logs old now (id + 1) end
  stays_closed closed = record {
    same = so_far.same;
    long = so_far.long;
    shut = λ q l there above below. so_far.shut q l there (omega (arith, above, behind)) below;
    else_as = λ slot none. elim (same_or_apart slot log.slot) [
      | inl here ↦ ap (state_at now.slots) here ∙ is_shut
          ∙ sym (ap (state_at old.slots) here ∙ seats.stands id log held ∙ ap (slot_state id) closed)
      | inr apart ↦ so_far.else_as slot (none_later slot (λ same. apart (sym same)) none)
    ];
  }

-- ---- which logs have an open slot

slot_cases : (state : LogState) (at : ℕ) (o : Option ℕ) → slot_lent state at ≡ o → (state ≡ Closed → o ≡ None) × (o ≡ None → state ≡ Closed)
    × ((slot : ℕ) → o ≡ Some slot → at ≡ slot)
slot_cases Writing at o is = (λ wrong. absurd (cc), λ none. absurd (let both = is ∙ none in cc), λ slot some. let both = is ∙ some in cc)
slot_cases Filled at o is = (λ wrong. absurd (cc), λ none. absurd (let both = is ∙ none in cc), λ slot some. let both = is ∙ some in cc)
slot_cases Copying at o is = (λ wrong. absurd (cc), λ none. absurd (let both = is ∙ none in cc), λ slot some. let both = is ∙ some in cc)
slot_cases Readable at o is = (λ wrong. absurd (cc), λ none. absurd (let both = is ∙ none in cc), λ slot some. let both = is ∙ some in cc)
slot_cases Retired at o is = (λ wrong. absurd (cc), λ none. absurd (let both = is ∙ none in cc), λ slot some. let both = is ∙ some in cc)
slot_cases Closed at o is = (λ _. sym is, λ _. refl, λ slot some. absurd (let both = is ∙ some in cc))

-- a log is held, with its slot, and is not closed
record IsOpenIn (logs : Logs) (id slot : ℕ) : Type 0 where
  log : Log
  held : finite.get logs id ≡ Some log
  at : log.slot ≡ slot
  lent : ¬ (log.state ≡ Closed)

open_in : (logs : Logs) (id slot : ℕ) → lent_slot logs id ≡ Some slot → IsOpenIn logs id slot
open_in logs id slot is = elim (finite.get logs id) as (λ o. finite.get logs id ≡ o → option_and_then (λ log. slot_lent log.state log.slot) o ≡ Some slot
    → IsOpenIn logs id slot) [
      | None ↦ λ held wrong. absurd (cc)
      | Some log ↦ λ held there.
          let told = slot_cases log.state log.slot (Some slot) there in
          record { log = log; held = held; at = told.2 slot refl; lent = λ closed. let wrong = told.0 closed in cc }
    ] refl is

closed_in : (logs : Logs) (id : ℕ) → IsSome (finite.get logs id) → lent_slot logs id ≡ None
    → (log : Log) × (finite.get logs id ≡ Some log) × (log.state ≡ Closed)
closed_in logs id some is = elim (finite.get logs id) as (λ o. finite.get logs id ≡ o → IsSome o
    → option_and_then (λ log. slot_lent log.state log.slot) o ≡ None
    → (log : Log) × (finite.get logs id ≡ Some log) × (log.state ≡ Closed)) [
      | None ↦ λ held wrong _. absurd (cc)
      | Some log ↦ λ held _ none. (log, held, (slot_cases log.state log.slot None none).1 refl)
    ] refl some is

-- ---- all slots, one after another

-- so far the slots of the logs below this id were closed: no lease of theirs was out, and what may
-- be met now might be before
pub record IsShutting (logs : Logs) (old now : SlotTable) (from : ℕ) : Type 0 where
  pub shut : AreClosedToLeases logs old now 0 from
  pub meets : (slot count : ℕ) → AllowsLeaseCount now slot count → AllowsLeaseCount old slot count
  pub unleased : HaveNoLeases old logs from

module _ (logs : Logs) (old : SlotTable) (seats : AreSeated old logs) where
  module _ {now : SlotTable} {from : ℕ} (so_far : IsShutting logs old now from) (id : ℕ) (next : IsNextHeld logs from (Some id)) where
    module _ (slot : ℕ) (there : lent_slot logs id ≡ Some slot) where
      abbrev this : IsOpenIn logs id slot
      this = open_in logs id slot there

      pub close_open : IsOpen now.slots slot
      close_open = subst (λ n. IsOpen now.slots n) this.at (next_open logs old seats so_far.shut id this.log this.held next.1 next.2 this.lent)

      -- no lease of this log was out, and it is closed
      pub shutting_on : (keeper : SlotTable) → id < 2147483648 → keeper ≡ with_closed now slot → AllowsLeaseCount now slot 0 → IsShutting logs old keeper (id + 1)
      shutting_on keeper fits closed met =
          subst (λ k. IsShutting logs old k (id + 1)) (sym (closed ∙ ap (with_closed now) (sym this.at))) (record {
            shut = shut_next logs old seats so_far.shut id this.log this.held next.1 next.2 this.lent;
            meets = λ n count may. so_far.meets n count
                (meets_next logs old seats so_far.shut id this.log this.held next.1 next.2 this.lent fits n count may);
            unleased = λ q less other. elim (same_or_apart q id) [
              | inl here ↦ record {
                log = this.log;
                held = ap (finite.get logs) here ∙ this.held;
                met = so_far.meets this.log.slot 0 (subst (λ n. AllowsLeaseCount now n 0) (sym this.at) met);
              }
              | inr apart ↦ so_far.unleased q
                  (before logs old seats so_far.shut id this.log this.held next.1 next.2 q other.log other.held (omega (arith, less, apart))) other
            ];
          })

      -- some leases of this log are out
      module _ (keeper : SlotTable) (count : ℕ) (same : keeper ≡ now) where
        pub refused_here : AreClosedToLeases logs old keeper 0 id
        refused_here = subst (λ k. AreClosedToLeases logs old k 0 id) (sym same) (shut_here logs old seats so_far.shut id this.log this.held next.1 next.2)

        pub refused_lowest : (0 < count) × (count ≤ now.most) → AllowsLeaseCount now slot count → IsLowestLeased old logs id count
        refused_lowest some met = record {
          lent = record { log = this.log; held = this.held; open_is = this.lent };
          leased = record {
            some = some.0;
            most = let bound = same_most logs old seats so_far.shut in let most = some.1 in omega (arith, most, bound);
            met = record {
              log = this.log;
              held = this.held;
              met = so_far.meets this.log.slot count (subst (λ n. AllowsLeaseCount now n count) (sym this.at) met);
            };
          };
          lowest = λ q less other. so_far.unleased q
              (before logs old seats so_far.shut id this.log this.held next.1 next.2 q other.log other.held less) other;
        }

    -- it is closed already
    pub shutting_past : lent_slot logs id ≡ None → IsShutting logs old now (id + 1)
    shutting_past none =
        let this = closed_in logs id next.0 none in
        record {
          shut = shut_skipped logs old seats so_far.shut id this.0 this.1 next.1 next.2 this.2;
          meets = so_far.meets;
          unleased = λ q less other. elim (same_or_apart q id) [
            | inl here ↦ absurd (other.open_is
                (ap (λ (l : Log). l.state) (sym (one_log logs old seats id this.0 other.log this.1 (ap (finite.get logs) (sym here) ∙ other.held))) ∙ this.2))
            | inr apart ↦ so_far.unleased q
                (before logs old seats so_far.shut id this.0 this.1 next.1 next.2 q other.log other.held (omega (arith, less, apart))) other
          ];
        }

-- ---- and back again

-- the slots of the logs from this id on are closed yet, whatever the table was before
abbrev pub IsReopening : Logs → SlotTable → SlotTable → ℕ → ℕ → Type 0
IsReopening logs begun now from end =
    (old : SlotTable) → AreSeated old logs → AreClosedToLeases logs old begun 0 end → AreClosedToLeases logs old now from end

module _ {logs : Logs} {begun now : SlotTable} {from end : ℕ} (so_far : IsReopening logs begun now from end) where
  pub reopening_ends : (next : Option ℕ) → IsNextHeld logs from next → ((id : ℕ) → next ≡ Some id → end ≤ id)
      → (old : SlotTable) → AreSeated old logs → AreClosedToLeases logs old begun 0 end → now ≡ old
  reopening_ends None none past old seats shut =
      all_kept logs old seats (so_far old seats shut) (λ id log held above below. omega (arith, above, none id (ap is_some held)))
  reopening_ends (Some next) is past old seats shut =
      all_kept logs old seats (so_far old seats shut) (λ id log held above below.
      let far = is.2 id (ap is_some held) above in let last = past next refl in omega (arith, far, last, below))

  module _ (id : ℕ) (next : IsNextHeld logs from (Some id)) (below : id < end) where
    pub reopening_on : (slot : ℕ) (keeper : SlotTable) → lent_slot logs id ≡ Some slot → keeper ≡ with_state now slot (slots.Open id)
        → IsReopening logs begun keeper (id + 1) end
    reopening_on slot keeper there is old seats shut =
        let this = open_in logs id slot there in
        reopened logs old seats (so_far old seats shut) id this.log this.held next.1 below next.2 keeper this.lent
        (is ∙ ap (λ n. with_state now n (slots.Open id)) (sym this.at))

    pub reopening_past : lent_slot logs id ≡ None → IsReopening logs begun now (id + 1) end
    reopening_past none old seats shut =
        let this = closed_in logs id next.0 none in
        stays_closed logs old seats (so_far old seats shut) id this.0 this.1 next.1 below next.2 this.2

    module _ (slot : ℕ) (there : lent_slot logs id ≡ Some slot) (was : (x : SlotTable) × AreSeated x logs × AreClosedToLeases logs x begun 0 end) where
      pub reopen_within : slot < length now.slots
      reopen_within =
          let this = open_in logs id slot there in
          subst (λ n. n < length now.slots) this.at
          (reopen_inside logs was.0 was.1 (so_far was.0 was.1 was.2) id this.log this.held next.1 below next.2)
