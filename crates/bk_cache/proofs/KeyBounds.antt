-- The ids of an accepted payload's key are below 2 ^ 63.
use Rattle.std.proofs.Common.{◌≡◌, ℕ, ◌<◌, ◌^◌, true, false, ◌&&◌, nat_lt, if◌then◌else◌, List, length, Option, Some, None, Ok, Err, Result, refl, subst}
use Rattle.std.specs.Option.{ok_or}
use Rattle.std.proofs.lemmas.Bool.{ltb-true}
use Rattle.bk_record.specs.Key.{EntryKey}
use Rattle.bk_record.specs.Limits.{max_added}
use Rattle.bk_record.specs.Record.{key_of, read_key, read_added, unless_too_long, ledger_field, entry_field}
use Rattle.bk_record.specs.declared.fault.RecordFault.{RecordFault}
use Rattle.bk_record.specs.declared.fault.RecordFault.TheVariants.{Short, Negative, TooLong}
use Rattle.bk_record.proofs.SortedPairs.{Some-same}

-- both ids are below the bound
abbrev pub HasValidIds : EntryKey → Type 0
HasValidIds q = (q.ledger < 2 ^ 63) × (q.entry < 2 ^ 63)

valid_key : (payload : List ℕ) (q : EntryKey) → key_of payload ≡ Some q → HasValidIds q
unfolding key_of
valid_key payload q is =
    elim (nat_lt (ledger_field payload) (2 ^ 63)) as (λ b. nat_lt (ledger_field payload) (2 ^ 63) ≡ b
    → (if b && nat_lt (entry_field payload) (2 ^ 63) then Some (record { ledger = ledger_field payload; entry = entry_field payload }) else None)
    ≡ Some q → HasValidIds q) [
      | true ↦ λ ledger. elim (nat_lt (entry_field payload) (2 ^ 63)) as (λ b. nat_lt (entry_field payload) (2 ^ 63) ≡ b
          → (if b then Some (record { ledger = ledger_field payload; entry = entry_field payload }) else None) ≡ Some q → HasValidIds q) [
            | true ↦ λ entry found. subst (λ (k : EntryKey). HasValidIds k) (Some-same found)
                (ltb-true (ledger_field payload) (2 ^ 63) ledger, ltb-true (entry_field payload) (2 ^ 63) entry)
            | false ↦ λ _ found. cc
          ] refl
      | false ↦ λ _ found. cc
    ] refl is

read_is : (n : ℕ) (answer : Result EntryKey RecordFault) (q : EntryKey) → unless_too_long n answer ≡ Ok q → answer ≡ Ok q
read_is n (Err fault) q is = is
read_is n (Ok key) q is =
    elim (nat_lt max_added n) as (λ b. ◌≡◌ {A = Result EntryKey RecordFault} (if b then Err (TooLong n) else Ok key) (Ok q)
    → ◌≡◌ {A = Result EntryKey RecordFault} (Ok key) (Ok q)) [
      | true ↦ λ none. cc
      | false ↦ λ same. same
    ] is

keyed_is : (o : Option EntryKey) (q : EntryKey) (fault : RecordFault) → ok_or o fault ≡ Ok q → o ≡ Some q
keyed_is None q fault is = cc
keyed_is (Some key) q fault is = cc

pub added_ids : (payload : List ℕ) (q : EntryKey) → read_added payload ≡ Ok q → HasValidIds q
unfolding read_added read_key
added_ids payload q is =
    elim (nat_lt (length payload) 16) as (λ b. (if b then Err (Short (length payload)) else ok_or (key_of payload) Negative) ≡ Ok q → HasValidIds q) [
      | true ↦ λ none. cc
      | false ↦ λ found. valid_key payload q (keyed_is (key_of payload) q Negative found)
    ] (read_is _ (read_key payload) q is)
