-- Facts about a payload whose key was read, and about one that may be added.
use Rattle.std.proofs.Common.{◌≡◌, ◌≢◌, ℕ, ◌≤◌, ◌^◌, List, length, Bool, true, false, cond, ◌&&◌, Option, Some, None, Result, Ok, Err, IsSome, IsOk, nat_lt}
use Rattle.std.proofs.Common.{refl, sym, ap, ◌∙◌, arith}
use Rattle.std.proofs.lemmas.Bool.{false≢true, le-ltb, ltb-false}
use Rattle.std.specs.Option.{ok_or}
use Rattle.bk_record.specs.Key.{EntryKey}
use Rattle.bk_record.specs.Limits.{max_added}
use Rattle.bk_record.specs.Record.{IsPayload, key_of, read_key, read_added, unless_too_long, ledger_field, entry_field}
use Rattle.bk_record.specs.declared.fault.RecordFault.{RecordFault}
use Rattle.bk_record.specs.declared.fault.RecordFault.TheVariants.{Short, Negative, TooLong}

-- result for a payload of at least 16 bytes
pub read_key-long : (payload : List ℕ) → 16 ≤ length payload → read_key payload ≡ ok_or (key_of payload) Negative
unfolding read_key
read_key-long payload long = ap (λ (b : Bool). cond b (Err (Short (length payload))) (ok_or (key_of payload) Negative)) (le-ltb (length payload) 16 long)

-- the key of a payload that has one is returned
pub read_key-keyed : (payload : List ℕ) → 16 ≤ length payload → IsSome (key_of payload) → IsOk (read_key payload)
read_key-keyed payload long some = rw (read_key-long payload long)
    (elim (key_of payload) as (λ o. IsSome o → IsOk (ok_or o Negative)) [ Some key ↦ λ h. refl | None ↦ λ h. absurd (false≢true h) ] some)

-- the returned key has the payload's ledger
pub read_key-ledger : (payload : List ℕ) (key : EntryKey) → read_key payload ≡ Ok key → key.ledger ≡ ledger_field payload
unfolding read_key key_of
read_key-ledger payload key is =
    elim (nat_lt (length payload) 16) as (λ b. cond b (Err (Short (length payload))) (ok_or (key_of payload) Negative) ≡ Ok key → key.ledger
    ≡ ledger_field payload) [
      | true ↦ λ e. cc
      | false ↦ λ e.
          elim (nat_lt (ledger_field payload) (2 ^ 63) && nat_lt (entry_field payload) (2 ^ 63)) as
          (λ b. ok_or (cond b (Some (record { ledger = ledger_field payload; entry = entry_field payload })) None) Negative ≡ Ok key → key.ledger
          ≡ ledger_field payload) [
            | true ↦ λ h.
                let read : EntryKey = record { ledger = ledger_field payload; entry = entry_field payload } in
                let same : read ≡ key = cc in sym (ap (λ k. k.ledger) same)
            | false ↦ λ h. cc
          ] e
    ] is

-- the returned key is the payload's key
pub read_key-some : (payload : List ℕ) (key : EntryKey) → 16 ≤ length payload → read_key payload ≡ Ok key → key_of payload ≡ Some key
read_key-some payload key long is =
    elim (key_of payload) as (λ o. ok_or o Negative ≡ Ok key → o ≡ Some key) [ Some k ↦ λ e. cc | None ↦ λ e. cc ] (sym (read_key-long payload long) ∙ is)

-- a payload with an error does not have this key
pub read_key-none : (payload : List ℕ) (key : EntryKey) (fault : RecordFault) → 16 ≤ length payload → read_key payload ≡ Err fault → key_of payload ≢ Some key
read_key-none payload key fault long is some =
    let e : ok_or (key_of payload) Negative ≡ Ok key = ap (λ o. ok_or o Negative) some in
    let f : Err fault ≡ Ok key = sym is ∙ read_key-long payload long ∙ e in
    cc

-- a payload of at least 16 bytes with an error has no key
pub read_key-no : (payload : List ℕ) (fault : RecordFault) → 16 ≤ length payload → read_key payload ≡ Err fault → key_of payload ≡ None
read_key-no payload fault long is =
    elim (key_of payload) as (λ o. ok_or o Negative ≡ Err fault → o ≡ None) [ Some k ↦ λ e. cc | None ↦ λ e. refl ] (sym (read_key-long payload long) ∙ is)

-- ---- a payload that can be added

-- A payload that can be added has a valid length and a key.
pub record IsAddable (payload : List ℕ) (key : EntryKey) : Type 0 where
  pub least : 16 ≤ length payload
  pub most : length payload ≤ max_added
  pub keyed : key_of payload ≡ Some key

found_key : (o : Option EntryKey) (key : EntryKey) → ok_or {E = RecordFault} o Negative ≡ Ok key → o ≡ Some key
found_key None key is = cc
found_key (Some k) key is = cc

pub read_key-ok : (payload : List ℕ) (key : EntryKey) → read_key payload ≡ Ok key → (16 ≤ length payload) × (key_of payload ≡ Some key)
unfolding read_key
read_key-ok payload key is =
    elim (nat_lt (length payload) 16) as (λ b. nat_lt (length payload) 16 ≡ b
    → cond b (Err (Short (length payload))) (ok_or (key_of payload) Negative) ≡ Ok key → (16 ≤ length payload) × (key_of payload ≡ Some key)) [
      | true ↦ λ _ e. cc
      | false ↦ λ long e. (ltb-false (length payload) 16 long, found_key (key_of payload) key e)
    ] refl is

short_enough : (n : ℕ) (r : Result EntryKey RecordFault) (key : EntryKey) → unless_too_long n r ≡ Ok key → (r ≡ Ok key) × (n ≤ max_added)
short_enough n (Err fault) key is = cc
short_enough n (Ok k) key is =
    elim (nat_lt max_added n) as (λ b. nat_lt max_added n ≡ b → cond b (Err (TooLong n)) (Ok k) ≡ Ok key
    → (◌≡◌ {A = Result EntryKey RecordFault} (Ok k) (Ok key)) × (n ≤ max_added)) [
      | true ↦ λ _ e. cc
      | false ↦ λ less e. (e, ltb-false max_added n less)
    ] refl is

pub addable : (payload : List ℕ) (key : EntryKey) → read_added payload ≡ Ok key → IsAddable payload key
unfolding read_added
addable payload key is =
    let short = short_enough (length payload) (read_key payload) key is in
    let read = read_key-ok payload key short.0 in
    record { least = read.0; most = short.1; keyed = read.1 }

pub addable_payload : (payload : List ℕ) (key : EntryKey) → read_added payload ≡ Ok key → IsPayload payload
addable_payload payload key is = let a = addable payload key is in (a.least, omega (arith, a.most))
