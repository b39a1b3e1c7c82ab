-- Finite maps by key, the places of entries, and the number of keys of a ledger or a log.
use Rattle.std.specs.Prelude.{ℕ, not, ◌==◌, refl, if◌then◌else◌, Option, Some, None}
use Rattle.std.specs.List.{count_by}
use Rattle.std.specs.Coded.{Coded, code_by, coded×, coded_ℕ}
use Rattle.std.specs.FinMap as finite
use Rattle.bk_record.specs.Key.{EntryKey, key_cmp}
use Rattle.bk_record.specs.Location.{Place}

-- finite map by key, in the order of keys
abbrev pub Keyed : Type 0 → Type 0
Keyed X = finite.FinMap key_cmp X

-- finite map from keys to places
abbrev pub Places : Type 0
Places = Keyed Place

-- encoding of these maps in a model: a key and a place are pairs of numbers
abbrev pub key_code : Coded EntryKey
key_code = code_by (ℕ × ℕ) (coded× coded_ℕ coded_ℕ) (λ k. (k.ledger, k.entry)) (λ p. record { ledger = p.0; entry = p.1 }) (λ _. refl)

abbrev pub place_code : Coded Place
place_code = code_by (ℕ × ℕ) (coded× coded_ℕ coded_ℕ) (λ l. (l.log, l.at)) (λ p. record { log = p.0; at = p.1 }) (λ _. refl)

abbrev pub places_code : Coded Places
places_code = finite.code key_code place_code

-- map without the keys of a ledger
abbrev pub without_ledger : {X : Type 0} → Keyed X → ℕ → Keyed X
without_ledger m ledger = finite.retain_keys m (λ key. not (key.ledger == ledger))

-- map with only the keys of a ledger
abbrev pub of_ledger : {X : Type 0} → Keyed X → ℕ → Keyed X
of_ledger m ledger = finite.retain_keys m (λ key. key.ledger == ledger)

-- number of keys of a ledger
abbrev pub ledger_count : {X : Type 0} → Keyed X → ℕ → ℕ
ledger_count m ledger = count_by (λ e. e.0.ledger == ledger) (finite.entries m)

-- number of keys whose place is in a log
abbrev pub log_count : Places → ℕ → ℕ
log_count m log = count_by (λ e. e.1.log == log) (finite.entries m)

-- contribution of one key to `log_count`
abbrev pub counted_in : Option Place → ℕ → ℕ
counted_in None log = 0
counted_in (Some place) log = if place.log == log then 1 else 0
