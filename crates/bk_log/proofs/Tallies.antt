-- Sizes with the bytes of the last ledger counted separately.
use Rattle.std.proofs.Common.{◌≡◌, ℕ, zero, suc, ◌+◌, ◌<◌, ◌^◌, true, false, cond, ◌&&◌, nat_lt, nat_cmp, List, take, Some, None}
use Rattle.std.proofs.Common.{unwrap_or, refl, sym, ap, ◌∙◌, subst, arith}
use Rattle.std.specs.FinMap.{get, insert, empty, get-empty}
use Rattle.bk_record.specs.Key.{EntryKey}
use Rattle.bk_record.specs.Record.{key_of, ledger_field, entry_field}
use Rattle.bk_log.specs.declared.found.Found.{Found}
use Rattle.bk_log.specs.Sizes.{Sizes, Tally, size_in, with_bytes, with_last, with_record, sizes_of, IsLast, CountsNext}
use Rattle.bk_log.proofs.Sums.{sizes_of-push}
use Rattle.bk_record.proofs.NumberMaps.{get-insert_same, insert-insert, insert_same}
use Rattle.bk_record.proofs.Growth.{take_next}

-- the last ledger is inserted with its bytes, if it has any
pub with_last-some : (others : Sizes) (ledger size : ℕ) → 0 < size → with_last others ledger size ≡ insert others ledger size
with_last-some others ledger zero some = absurd (omega arith)
with_last-some others ledger (suc n) some = refl

pub with_last-none : (others : Sizes) (ledger size : ℕ) → size ≡ 0 → with_last others ledger size ≡ others
with_last-none others ledger size none = ap (with_last others ledger) none

-- bytes of the last ledger
pub size_in-with_last : (others : Sizes) (ledger size : ℕ) → IsLast others ledger size → size_in (with_last others ledger size) ledger ≡ size
size_in-with_last others ledger zero last = last refl
size_in-with_last others ledger (suc n) last = ap (λ o. unwrap_or o 0) (get-insert_same others ledger (suc n))

-- more bytes for the last ledger
pub with_last-add : (others : Sizes) (ledger size more : ℕ) → IsLast others ledger size → 0 < more
    → with_last others ledger (size + more) ≡ with_bytes (with_last others ledger size) ledger more
with_last-add others ledger zero more last some =
    let sum : zero + more ≡ size_in others ledger + more = omega (arith, last refl) in
    with_last-some others ledger (zero + more) (omega arith) ∙ ap (insert others ledger) sum
with_last-add others ledger (suc n) more last some =
    with_last-some others ledger (suc n + more) (omega arith) ∙ sym (insert-insert others ledger (suc n) (suc n + more))
    ∙ ap (λ s. insert (insert others ledger (suc n)) ledger (s + more)) (sym (size_in-with_last others ledger (suc n) last))

-- a ledger of the others becomes the last one
pub with_last-turn : (others : Sizes) (ledger : ℕ) → with_last others ledger (size_in others ledger) ≡ others
with_last-turn others ledger =
    elim (get others ledger) as (λ o. get others ledger ≡ o → with_last others ledger (unwrap_or o 0) ≡ others) [
      | None ↦ λ is. refl
      | Some size ↦ λ is. elim size as (λ n. get others ledger ≡ Some n → with_last others ledger n ≡ others) [
        | zero ↦ λ e. refl
        | suc n ↦ λ e. insert_same others ledger (suc n) e
      ] is
    ] refl

-- before the first record
pub none_last : (others : Sizes) (ledger : ℕ) → others ≡ empty → IsLast others ledger 0
none_last others ledger is none = ap (λ s. size_in s ledger) is ∙ ap (λ o. unwrap_or o 0) (get-empty nat_cmp ledger)

-- tally with more bytes of its last ledger
pub added : (others : Sizes) (ledger size more : ℕ) (t : Tally) → record { sizes = with_last others ledger size; ledger = ledger } ≡ t
    → IsLast others ledger size
    → 0 < more → record { sizes = with_last others ledger (size + more); ledger = ledger } ≡ record t { sizes = with_bytes t.sizes t.ledger more }
added others ledger size more t is last some =
    subst (λ (u : Tally). record { sizes = with_last others ledger (size + more); ledger = ledger } ≡ record u { sizes = with_bytes u.sizes u.ledger more }) is
    (ap (λ (s : Sizes). record { sizes = s; ledger = ledger }) (with_last-add others ledger size more last some))

-- tally with another ledger as its last
pub turned : (others before : Sizes) (ledger was size : ℕ) (t : Tally) → record { sizes = before; ledger = was } ≡ t → others ≡ before
    → size ≡ size_in others ledger
    → record { sizes = with_last others ledger size; ledger = ledger } ≡ record t { ledger = ledger }
turned others before ledger was size t is same found =
    subst (λ (u : Tally). record { sizes = with_last others ledger size; ledger = ledger } ≡ record u { ledger = ledger }) is
    (ap (λ (s : Sizes). record { sizes = s; ledger = ledger }) (ap (with_last others ledger) found ∙ with_last-turn others ledger ∙ same))

-- tally after both
pub counted : (before mid after : Tally) (ledger size more : ℕ) → mid ≡ record before { ledger = ledger }
    → after ≡ record mid { sizes = with_bytes mid.sizes mid.ledger more } → more ≡ size → after.sizes ≡ with_bytes before.sizes ledger size
counted before mid after ledger size more ready done same =
    ap (λ t. t.sizes) done ∙ ap (λ t. with_bytes t.sizes t.ledger more) ready ∙ ap (with_bytes before.sizes ledger) same

-- ledger of a payload with a key
pub key_of-ledger : (payload : List ℕ) (key : EntryKey) → key_of payload ≡ Some key → key.ledger ≡ ledger_field payload
unfolding key_of
key_of-ledger payload key is =
    let read : EntryKey = record { ledger = ledger_field payload; entry = entry_field payload } in
    elim (nat_lt (ledger_field payload) (2 ^ 63) && nat_lt (entry_field payload) (2 ^ 63)) as
    (λ b. cond b (Some read) None ≡ Some key → key.ledger ≡ ledger_field payload) [
      | true ↦ λ e. let same : read ≡ key = cc in sym (ap (λ k. k.ledger) same)
      | false ↦ λ e. cc
    ] is

-- counting one more entry of a list
pub counts_next : (before now : Sizes) (found : Found) → now ≡ with_bytes before found.key.ledger found.size → CountsNext before found now
counts_next before now found is entries n payload stands keyed sized were =
    is ∙ ap (λ l. with_bytes before l found.size) (key_of-ledger payload found.key keyed) ∙ ap (with_bytes before (ledger_field payload)) sized
    ∙ ap (λ s. with_record s payload) were ∙ sym (ap sizes_of (take_next entries n (found.at, payload) stands)
    ∙ sizes_of-push (take n entries) found.at payload)
