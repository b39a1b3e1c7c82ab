-- Encodings of the specification values of a keeper and of a seat, for the models of callers.
use Rattle.std.specs.Prelude.{◌≡◌, ℕ, Bool, List, ◌⊎◌}
use Rattle.std.proofs.Common.{refl, inl, inr}
use Rattle.std.specs.Coded.{Coded, code_by, coded×, coded⊎, coded_ℕ, coded_bool, coded_list}
use base.Stored.{coded_unit}
pub use Rattle.atomic_table.specs.Seated.{TableId, table_id_coded}
use Rattle.bk_lease.specs.declared.slot.Slot.{Slot}
use Rattle.bk_lease.specs.declared.slot.Slot.TheVariants.{Free, Open, Closed}
use Rattle.bk_lease.specs.Values.{SlotTable, Ticket}

-- state of a slot as a sum: free, open with a log, or closed with a log
abbrev slot_case : Slot → Unit {0} ⊎ (ℕ ⊎ ℕ)
slot_case Free = inl tt
slot_case (Open log) = inr (inl log)
slot_case (Closed log) = inr (inr log)

abbrev slot_of_case : Unit {0} ⊎ (ℕ ⊎ ℕ) → Slot
slot_of_case (inl none) = Free
slot_of_case (inr (inl log)) = Open log
slot_of_case (inr (inr log)) = Closed log

pub slot_of_case-slot_case : (state : Slot) → slot_of_case (slot_case state) ≡ state
slot_of_case-slot_case Free = refl
slot_of_case-slot_case (Open log) = refl
slot_of_case-slot_case (Closed log) = refl

abbrev pub slot_code : Coded Slot
slot_code = code_by (Unit {0} ⊎ (ℕ ⊎ ℕ)) (coded⊎ coded_unit (coded⊎ coded_ℕ coded_ℕ)) slot_case slot_of_case slot_of_case-slot_case

abbrev pub slot_table_code : Coded SlotTable
slot_table_code = code_by (TableId × (List Slot × (ℕ × ℕ))) (coded× table_id_coded (coded× (coded_list slot_code) (coded× coded_ℕ coded_ℕ)))
    (λ k. (k.table, (k.slots, (k.most, k.given)))) (λ p. record { table = p.0; slots = p.1.0; most = p.1.1.0; given = p.1.1.1 }) (λ _. refl)

abbrev pub ticket_code : Coded Ticket
ticket_code = code_by (TableId × (ℕ × (ℕ × (ℕ × Bool)))) (coded× table_id_coded (coded× coded_ℕ (coded× coded_ℕ (coded× coded_ℕ coded_bool))))
    (λ t. (t.table, (t.seat, (t.slot, (t.log, t.is_held)))))
    (λ p. record { table = p.0; seat = p.1.0; slot = p.1.1.0; log = p.1.1.1.0; is_held = p.1.1.1.1 }) (λ _. refl)
