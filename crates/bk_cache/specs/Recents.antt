-- The recent entries: pairs of a key and its payload, the newest first.
use Rattle.std.specs.Prelude.{◌≡◌, ◌⊎◌, ℕ, ◌-◌, Bool, not, ◌==◌, ◌&&◌, if◌then◌else◌, List, [], ◌∷◌, take, filter, Option, Some, is_some, true, refl}
use Rattle.std.specs.BTreeSet.{BTreeSet, contains}
use Rattle.std.specs.declared.cmp.Ordering.{Ordering}
use Rattle.std.specs.Ordering.{nat_cmp, ordering_then}
use Rattle.std.specs.Coded.{Coded, code_by, coded×, coded_list, coded_ℕ}
use Rattle.std.specs.List.{AllByRecursion}
use Rattle.std.specs.Map.{lookup, remove_entry}
use Rattle.bk_record.specs.Key.{EntryKey}
use Rattle.bk_record.specs.Keyed.{key_code}

-- a key and its payload
abbrev pub Entry : Type 0
Entry = EntryKey × List ℕ

-- the recent entries, newest first, and the greatest number of them
pub record Recents : Type 0 where
  pub entries : List Entry
  pub most : ℕ

-- no entry is allowed
abbrev pub no_recents : Recents
no_recents = record { entries = []; most = 0 }

abbrev pub recents_code : Coded Recents
recents_code =
    code_by (List Entry × ℕ) (coded× (coded_list (coded× key_code (coded_list coded_ℕ))) coded_ℕ) (λ r. (r.entries, r.most))
    (λ p. record { entries = p.0; most = p.1 }) (λ _. refl)

-- whether two keys are equal
abbrev pub same_key : EntryKey → EntryKey → Bool
same_key a b = (a.ledger == b.ledger) && (a.entry == b.entry)

-- payload of the recent entry of the key, if there is one
abbrev pub recent_of : Recents → EntryKey → Option (List ℕ)
recent_of r key = lookup (same_key key) r.entries

-- The pair becomes the newest. An earlier entry of the key is dropped; else, over the number
-- allowed, the one remembered first.
abbrev pub recents_with : Recents → EntryKey → List ℕ → Recents
recents_with r key payload = record r {
  entries = (key, payload) ∷ (if is_some (recent_of r key) then remove_entry (same_key key) r.entries else take (r.most - 1) r.entries);
}

-- recent entries of other ledgers
abbrev pub without_recent : Recents → ℕ → Recents
without_recent r ledger = record r { entries = filter (λ e. not (e.0.ledger == ledger)) r.entries }

-- a payload that the key had before, or the payload just remembered for it
abbrev pub IsOldOrRemembered : Recents → EntryKey → List ℕ → EntryKey → List ℕ → Type 0
IsOldOrRemembered r remembered_key remembered_payload key payload =
    (recent_of r key ≡ Some payload) ⊎ ((key ≡ remembered_key) × (payload ≡ remembered_payload))

-- order by ledger, then entry
abbrev pub pair_cmp : ℕ × ℕ → ℕ × ℕ → Ordering
pair_cmp a b = ordering_then (nat_cmp a.0 b.0) (nat_cmp a.1 b.1)

-- the set has ledger and entry of each entry
abbrev pub AreListedRecents : {X : Type 0} → List (EntryKey × X) → BTreeSet (ℕ × ℕ) → Type 0
AreListedRecents entries pairs = AllByRecursion (λ e. contains pair_cmp pairs (e.0.ledger, e.0.entry) ≡ true) entries
