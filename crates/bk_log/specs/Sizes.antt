-- Bytes of a log's records by ledger, as in a ledgers map. Read `sizes_of` first.
use Rattle.std.specs.Prelude.{◌≡◌, ◌==◌, ℕ, zero, suc, ◌+◌, ◌≤◌, Bool, List, length, take, Some, fold, filter, sum_by, slice_get}
use Rattle.std.proofs.Common.{refl}
use Rattle.std.specs.List.{list_any}
use Rattle.std.specs.Option.{unwrap_or}
use Rattle.std.specs.Ordering.{nat_cmp}
use Rattle.std.specs.Coded.{Coded, code_by, coded×, coded_ℕ}
use Rattle.std.specs.FinMap as map
use Rattle.bk_record.specs.Record.{key_of, ledger_field}
use Rattle.bk_log.specs.declared.found.Found.{Found}

-- number of bytes of each ledger
abbrev pub Sizes : Type 0
Sizes = map.FinMap nat_cmp ℕ

-- encoding as the entries
abbrev pub sizes_code : Coded Sizes
sizes_code = map.code coded_ℕ coded_ℕ

-- sizes so far, and the ledger counted last
pub record Tally : Type 0 where
  pub sizes : Sizes
  pub ledger : ℕ

-- encoding as a pair
abbrev pub tally_code : Coded Tally
tally_code = code_by (Sizes × ℕ) (coded× sizes_code coded_ℕ) (λ t. (t.sizes, t.ledger)) (λ p. record { sizes = p.0; ledger = p.1 }) (λ _. refl)

-- bytes of a ledger, 0 if it has none
abbrev pub size_in : Sizes → ℕ → ℕ
size_in sizes ledger = unwrap_or (map.get sizes ledger) 0

-- with more bytes of a ledger
abbrev pub with_bytes : Sizes → ℕ → ℕ → Sizes
with_bytes sizes ledger size = map.insert sizes ledger (size_in sizes ledger + size)

-- with the record of a payload: its length field and its bytes
abbrev pub with_record : Sizes → List ℕ → Sizes
with_record sizes payload = with_bytes sizes (ledger_field payload) (4 + length payload)

-- sizes with the bytes of the last ledger, which are counted separately; 0 if it has none
abbrev pub with_last : Sizes → ℕ → ℕ → Sizes
with_last others ledger zero = others
with_last others ledger (suc n) = map.insert others ledger (suc n)

-- if no bytes of the last ledger are counted separately, it has none among the others
abbrev pub IsLast : Sizes → ℕ → ℕ → Type 0
IsLast others ledger size = size ≡ 0 → size_in others ledger ≡ 0

-- no ledger has more than the greatest before plus these bytes
abbrev pub AreWithin : Sizes → ℕ → Sizes → Type 0
AreWithin before size now = (most : ℕ) → ((ledger : ℕ) → size_in before ledger ≤ most) → (ledger : ℕ) → size_in now ledger ≤ most + size

-- sum of the sizes of the records by ledger (BookKeeper ledgers map)
unfoldable pub sizes_of : List (ℕ × List ℕ) → Sizes
sizes_of records = fold (λ sizes r. with_record sizes r.1) map.empty records

-- whether the record is of the ledger
abbrev pub is_of : ℕ → ℕ × List ℕ → Bool
is_of ledger r = ledger_field r.1 == ledger

-- A ledger has an entry exactly if it has a record: the sum of the sizes of its records.
pub record AddsUp (records : List (ℕ × List ℕ)) (ledger : ℕ) : Type 0 where
  pub sum_is : size_in (sizes_of records) ledger ≡ sum_by (λ r. 4 + length r.1) (filter (is_of ledger) records)
  pub present : map.contains_key (sizes_of records) ledger ≡ list_any (is_of ledger) records

-- If the sizes were those of the first n entries of a list, and this is the next one, they are
-- those of n + 1 entries.
abbrev pub CountsNext : Sizes → Found → Sizes → Type 0
CountsNext before found now = (entries : List (ℕ × List ℕ)) (n : ℕ) (payload : List ℕ) → slice_get entries n ≡ Some (found.at, payload)
    → key_of payload ≡ Some found.key → found.size ≡ 4 + length payload → before ≡ sizes_of (take n entries) → now ≡ sizes_of (take (n + 1) entries)
