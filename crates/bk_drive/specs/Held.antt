-- The specification value of the readers (`Readers`), as the transitions see it.
use Rattle.std.specs.Prelude.{ℕ, Bool, List, Option}
use Rattle.std.proofs.Common.{refl}
use Rattle.std.specs.Coded.{Coded, code_by, coded×, coded_list, coded_option}
use Rattle.bk_record.specs.Key.{EntryKey}
use Rattle.bk_record.specs.Location.{Place}
use Rattle.bk_record.specs.Keyed.{key_code, place_code}
use Rattle.bk_lease.specs.Values.{Ticket}
use Rattle.bk_lease.specs.Codes.{ticket_code}
use Rattle.bk_store.specs.Logs.{View, view_of}
use Rattle.bk_store.specs.State.{view_code}
use Rattle.bk_drive.specs.Machine.{ReaderLease}
use Rattle.bk_drive.specs.declared.readers.Reading.{Reading}

-- The specification value of what a reader holds.
abbrev pub reader_lease_of : {V : Type 0} → (V → List ℕ) → (V → Bool) → (V → Bool) → Reading V → ReaderLease
reader_lease_of bytes honest sound reading = record {
  ticket = reading.lease.ticket;
  place = reading.location;
  key = reading.key;
  view = view_of bytes honest sound reading.lease.view;
}

abbrev pub hold_code : Coded ReaderLease
hold_code = code_by (Ticket × (Place × (EntryKey × View))) (coded× ticket_code (coded× place_code (coded× key_code view_code)))
    (λ h. (h.ticket, (h.place, (h.key, h.view)))) (λ p. record { ticket = p.0; place = p.1.0; key = p.1.1.0; view = p.1.1.1 }) (λ _. refl)

abbrev pub holds_code : Coded (List (Option ReaderLease))
holds_code = coded_list (coded_option hold_code)
