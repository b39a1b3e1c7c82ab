-- Slots of a store's table: each taken slot belongs to one log, and no two belong to the same log.
use Rattle.std.proofs.Common.{◌≡◌, ◌≢◌, ◌⊎◌, inl, inr, ℕ, suc, ◌≤◌, List, [], ◌∷◌, length, map, set, Some, refl, sym, ap, subst, ◌∙◌, arith}
use Rattle.std.specs.FinMap as finite
use Rattle.std.specs.FinMap.{nat_cmp-IsAntisymmetric}
use Rattle.std.proofs.lemmas.Cmp.{nat_cmp_total}
use Rattle.bk_record.specs.Files.{In}
use Rattle.bk_record.proofs.Entries.{In-get, In-map}
use Rattle.bk_lease.specs.declared.slot.Slot.{Slot}
use Rattle.bk_lease.specs.declared.slot.Slot.TheVariants.{Free}
use Rattle.bk_lease.specs.Leases.{state_at, log_of}
use Rattle.bk_lease.specs.Slots.{taken_of, taken_count}
use Rattle.bk_lease.specs.Values.{SlotTable}
use Rattle.bk_lease.proofs.Slots.{inside_slots, taken_count-set, state_at-set_else}
use Rattle.bk_store.specs.Logs.{Log, Logs}
use Rattle.bk_store.specs.SlotAssignment.{AreSeated, slot_state}
use Rattle.bk_store.proofs.Cases.{same_or_apart}
use Rattle.bk_store.proofs.Walks.{AreAscending}
use Rattle.bk_store.proofs.HeldWalks.{keys_ascending}
use Rattle.bk_store.proofs.Seats.{slot_state-log, slot_state-taken}

-- Each log of the list is in its slot.
abbrev AllStand : List Slot → List (ℕ × Log) → Type 0
AllStand slots es = (id : ℕ) (log : Log) → In (id, log) es → state_at slots log.slot ≡ slot_state id log.state

-- Freeing a taken slot lowers the number of taken slots by one.
freed : (slots : List Slot) (slot : ℕ) → taken_of (state_at slots slot) ≡ 1 → suc (taken_count (set slots slot Free)) ≡ taken_count slots
freed slots slot is =
    let inside = inside_slots slots slot (state_at slots slot) refl
    (λ free. let none : taken_of (state_at slots slot) ≡ 0 = ap taken_of free in omega (arith, none, is)) in
    let sum = taken_count-set slots slot Free inside in
    omega (arith, sum, is)

still : (slots : List Slot) (slot : ℕ) (es : List (ℕ × Log)) → AllStand slots es → ((id : ℕ) (log : Log) → In (id, log) es → log.slot ≢ slot)
    → AllStand (set slots slot Free) es
still slots slot es stand apart = λ id log there. state_at-set_else slots slot log.slot Free (apart id log there) ∙ stand id log there

-- Logs with ascending ids have slots of their own, so they are at most as many as the taken slots.
count-le : (es : List (ℕ × Log)) (slots : List Slot) → AreAscending (map (λ (e : ℕ × Log). e.0) es) → AllStand slots es → length es ≤ taken_count slots
count-le [] slots ascending stand = omega arith
count-le (e ∷ es) slots ascending stand =
    let here = stand e.0 e.1 (inl refl) in
    let apart : (id : ℕ) (log : Log) → In (id, log) es → log.slot ≢ e.1.slot = λ id log there same.
    let less = ascending.0 id (In-map (λ (x : ℕ × Log). x.0) (id, log) es there) in
    let one : e.0 ≡ id = sym (slot_state-log e.0 e.1.state) ∙ ap log_of (sym here) ∙ ap (λ n. log_of (state_at slots n)) (sym same)
    ∙ ap log_of (stand id log (inr there)) ∙ slot_state-log id log.state in
    omega (arith, less, one) in
    let fewer = freed slots e.1.slot (ap taken_of here ∙ slot_state-taken e.0 e.1.state) in
    let rest = count-le es (set slots e.1.slot Free) ascending.1 (still slots e.1.slot es (λ id log there. stand id log (inr there)) apart) in
    omega (arith, fewer, rest)

-- A slot belongs to a log of the list or to none.
find_seat : (es : List (ℕ × Log)) (slot : ℕ) → ((e : ℕ × Log) × In e es × (e.1.slot ≡ slot)) ⊎ ((id : ℕ) (log : Log) → In (id, log) es → log.slot ≢ slot)
find_seat [] slot = inr (λ id log there. absurd there)
find_seat (e ∷ es) slot = elim (same_or_apart e.1.slot slot) [
  | inl same ↦ inl (e, inl refl, same)
  | inr other ↦ elim (find_seat es slot) [
    | inl found ↦ inl (found.0, inr found.1, found.2)
    | inr none ↦ inr (λ id log there. elim there [
      | inl here ↦ λ same. other (ap (λ (x : ℕ × Log). x.1.slot) here ∙ same)
      | inr later ↦ none id log later
    ])
  ]
]

-- The log of a slot is held by the store and has this slot.
pub record HasSeat (logs : Logs) (slots : List Slot) (slot id : ℕ) : Type 0 where
  pub log : Log
  pub held : finite.get logs id ≡ Some log
  pub slot_is : log.slot ≡ slot
  pub stands : state_at slots slot ≡ slot_state id log.state

module _ (keeper : SlotTable) (logs : Logs) (seats : AreSeated keeper logs) where
  pub seat_of : (slot id : ℕ) (state : Slot) → state_at keeper.slots slot ≡ state → taken_of state ≡ 1 → log_of state ≡ id → HasSeat logs keeper.slots slot id
  seat_of slot id state is full by =
      let slots : List Slot = keeper.slots in
      let es = finite.entries logs in
      let held : (n : ℕ) (log : Log) → In (n, log) es → finite.get logs n ≡ Some log =
      λ n log there. In-get nat_cmp_total nat_cmp-IsAntisymmetric logs n log there in
      let stand : AllStand slots es = λ n log there. seats.stands n log (held n log there) in
      elim (find_seat es slot) [
        | inl found ↦
            let mine = held found.0.0 found.0.1 found.1 in
            let one : found.0.0 ≡ id = sym (slot_state-log found.0.0 found.0.1.state) ∙ ap log_of (sym (seats.stands found.0.0 found.0.1 mine))
            ∙ ap (λ n. log_of (state_at slots n)) found.2 ∙ ap log_of is ∙ by in
            let here : finite.get logs id ≡ Some found.0.1 = subst (λ n. finite.get logs n ≡ Some found.0.1) one mine in
            record {
              log = found.0.1;
              held = here;
              slot_is = found.2;
              stands = ap (state_at slots) (sym found.2) ∙ seats.stands id found.0.1 here;
            }
        | inr none ↦
            let fewer = freed slots slot (ap taken_of is ∙ full) in
            let rest = count-le es (set slots slot Free) (keys_ascending logs) (still slots slot es stand none) in
            let counted = seats.taken in
            absurd (omega (arith, counted, fewer, rest, finite.len-entries logs))
      ]
