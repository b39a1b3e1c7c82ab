-- The ledger of an entry is a ledger id.
use Rattle.std.proofs.Common.{◌≡◌, ℕ, ◌<◌, ◌^◌, true, false, ◌&&◌, nat_lt, if◌then◌else◌, List, Some, None, IsSome, IsTrue, refl, sym, subst}
use Rattle.std.specs.FinMap as finite
use Rattle.std.proofs.lemmas.Bool.{ltb-true}
use Rattle.std.proofs.lemmas.Option.{same_Some}
use Rattle.bk_record.specs.Key.{EntryKey}
use Rattle.bk_record.specs.Location.{Place}
use Rattle.bk_record.specs.Record.{key_of, ledger_field, entry_field}
use Rattle.bk_store.specs.Entries.{Bytes, HasEntry}
use Rattle.bk_store.specs.State.{State}
use Rattle.bk_store.specs.Abstract.{SatisfiesInvariant}
use Rattle.bk_store.proofs.Cases.{some_value}

ledger_id : (payload : List ℕ) (key : EntryKey) → key_of payload ≡ Some key → key.ledger < 2 ^ 63
unfolding key_of
ledger_id payload key is =
    let found : EntryKey = record { ledger = ledger_field payload; entry = entry_field payload } in
    elim (nat_lt (ledger_field payload) (2 ^ 63)) as (λ b. nat_lt (ledger_field payload) (2 ^ 63) ≡ b
    → (if b && nat_lt (entry_field payload) (2 ^ 63) then Some found else None) ≡ Some key → key.ledger < 2 ^ 63) [
      | true ↦ λ below. elim (nat_lt (entry_field payload) (2 ^ 63)) as (λ b. (if b then Some found else None) ≡ Some key → key.ledger < 2 ^ 63) [
        | true ↦ λ same. subst (λ (k : EntryKey). k.ledger < 2 ^ 63) (same_Some found key same) (ltb-true (ledger_field payload) (2 ^ 63) below)
        | false ↦ λ none. cc
      ]
      | false ↦ λ above none. cc
    ] refl is

pub entry_id : {bytes : Bytes} {place : Place} {key : EntryKey} {payload : List ℕ} → HasEntry bytes place key payload → key.ledger < 2 ^ 63
entry_id {key = key} {payload = payload} entry = ledger_id payload key entry.keyed

-- So is that of a published entry.
pub published_id : (s : State) → SatisfiesInvariant s → IsTrue s.honest → (key : EntryKey) → IsSome (finite.get s.index key) → key.ledger < 2 ^ 63
published_id s kept honest key is =
    let promises = kept.keeps.promises (subst (λ (x : State). IsTrue x.honest) (sym kept.seen) honest) in
    let place = some_value (finite.get kept.parts.state.index key) (subst (λ (x : State). IsSome (finite.get x.index key)) (sym kept.seen) is) in
    entry_id (promises.map.carries.indexed key place.0 place.1).stands
