-- The payload that the scan gives a key.
use Rattle.std.proofs.Common.{◌≡◌, ℕ, Option, Some, None, List, [], refl, sym, ap, ◌∙◌, subst, reverse, unwrap_or, option_map, arith}
use Rattle.std.specs.List.{filter_map, flat_map}
use Rattle.std.specs.FinMap as finite
use Rattle.std.specs.FinMap.{nat_cmp-IsAntisymmetric}
use Rattle.std.specs.FinMap.Entries.{find}
use Rattle.std.proofs.lemmas.Cmp.{nat_cmp_total}
use Rattle.bk_record.specs.Key.{EntryKey, key_cmp}
use Rattle.bk_record.specs.Location.{Place}
use Rattle.bk_record.specs.Record.{key_of}
use Rattle.bk_record.specs.Files.{Files, records_of, placed, all_records, HasRecord, In}
use Rattle.bk_record.specs.Scan.{scan_of, keyed}
use Rattle.bk_record.proofs.Growth.{records_of-short}
use Rattle.bk_record.proofs.Keys.{key_cmp_total, key_cmp_antisymmetric}
use Rattle.bk_record.proofs.Entries.{find-In, find-none, get-In, In-get, In-reverse, reverse-In}
use Rattle.bk_record.proofs.Entries.{In-flat_map, flat_map-In, In-map, map-In, In-filter_map, filter_map-In}

-- a record of a file is one of all records, and conversely
pub record-all : (fs : Files) (place : Place) (payload : List ℕ) → HasRecord fs place payload → In (place, payload) (all_records fs)
unfolding HasRecord all_records
record-all fs place payload there =
    elim (finite.get fs place.log) as (λ o. finite.get fs place.log ≡ o → In (place.at, payload) (records_of (unwrap_or o []))
    → In (place, payload) (flat_map (λ f. placed f.0 (records_of f.1)) (finite.entries fs))) [
      | None ↦ λ _ none. absurd (subst (λ (l : List (ℕ × List ℕ)). In (place.at, payload) l) (records_of-short [] (omega arith)) none)
      | Some file ↦ λ is found. In-flat_map (λ f. placed f.0 (records_of f.1)) (place, payload) (place.log, file) (finite.entries fs)
          (get-In nat_cmp_total nat_cmp-IsAntisymmetric fs place.log file is)
          (In-map (λ r. (record { log = place.log; at = r.0 }, r.1)) (place.at, payload) (records_of file) found)
    ] refl there

pub all-record : (fs : Files) (place : Place) (payload : List ℕ) → In (place, payload) (all_records fs) → HasRecord fs place payload
unfolding HasRecord all_records
all-record fs place payload there =
    let file = flat_map-In (λ f. placed f.0 (records_of f.1)) (place, payload) (finite.entries fs) there in
    let is = In-get nat_cmp_total nat_cmp-IsAntisymmetric fs file.0.0 file.0.1 file.1.0 in
    let found = map-In (λ r. (record { log = file.0.0; at = r.0 }, r.1)) (place, payload) (records_of file.0.1) file.1.1 in
    subst (λ (x : Place × List ℕ). In (x.0.at, x.1) (records_of (unwrap_or (finite.get fs x.0.log) []))) found.1.1
    (subst (λ (o : Option (List ℕ)). In found.0 (records_of (unwrap_or o []))) (sym is) found.1.0)

pub keyed-payload : (payload : List ℕ) (key : EntryKey) (p : List ℕ) → keyed payload ≡ Some (key, p) → (key_of payload ≡ Some key) × (payload ≡ p)
unfolding keyed
keyed-payload payload key p is =
    let with : EntryKey → EntryKey × List ℕ = λ k. (k, payload) in
    let wanted : EntryKey × List ℕ = (key, p) in
    elim (key_of payload) as (λ o. option_map with o ≡ Some wanted → (o ≡ Some key) × (payload ≡ p)) [
      | None ↦ λ e. cc
      | Some k ↦ λ e. let pair : ◌≡◌ {A = EntryKey × List ℕ} (k, payload) (key, p) = cc in (λ i. Some (pair i).0, λ i. (pair i).1)
    ] is

pub payload-keyed : (payload : List ℕ) (key : EntryKey) → key_of payload ≡ Some key → keyed payload ≡ Some (key, payload)
unfolding keyed
payload-keyed payload key is = ap (λ (o : Option EntryKey). option_map (λ k. (k, payload)) o) is

pub scan-found : (fs : Files) (key : EntryKey) → finite.get (scan_of fs) key ≡ find key_cmp key (reverse (filter_map (λ r. keyed r.1) (all_records fs)))
unfolding scan_of
scan-found fs key = finite.get-from_entries key_cmp_total (reverse (filter_map (λ r. keyed r.1) (all_records fs))) key

-- a payload that the scan gives is that of a record of the key
pub scan-some : (fs : Files) (key : EntryKey) (payload : List ℕ) → finite.get (scan_of fs) key ≡ Some payload
    → (place : Place) × (HasRecord fs place payload × (key_of payload ≡ Some key))
scan-some fs key payload is =
    let listed = In-reverse _ _ (find-In key_cmp_total key_cmp_antisymmetric key _ payload (sym (scan-found fs key) ∙ is)) in
    let from = filter_map-In (λ r. keyed r.1) (key, payload) (all_records fs) listed in
    let same = keyed-payload from.0.1 key payload from.1.1 in
    let there = all-record fs from.0.0 from.0.1 from.1.0 in
    (from.0.0, (subst (λ (p : List ℕ). HasRecord fs from.0.0 p) same.1 there, ap key_of (sym same.1) ∙ same.0))

-- if the scan gives nothing, no record has the key
pub scan-none : (fs : Files) (key : EntryKey) (place : Place) (payload : List ℕ) → finite.get (scan_of fs) key ≡ None
    → HasRecord fs place payload → key_of payload ≡ Some key → ⊥
scan-none fs key place payload is there has =
    find-none key_cmp_total key_cmp_antisymmetric key _ payload (sym (scan-found fs key) ∙ is)
    (reverse-In _ _ (In-filter_map (λ r. keyed r.1) (key, payload) (place, payload) (all_records fs) (record-all fs place payload there)
    (payload-keyed payload key has)))
