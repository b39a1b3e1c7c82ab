-- The scan gives a key the payload of its last record, in the order of all records.
use Rattle.std.proofs.Common.{◌≡◌, ◌≢◌, ◌⊎◌, inl, inr, ℕ, cond, Option, Some, None, List, [], ◌∷◌, ◌++◌, Bool, true, false}
use Rattle.std.proofs.Common.{refl, sym, ap, ◌∙◌, reverse, append_assoc}
use Rattle.std.specs.List.{filter_map, cons_option}
use Rattle.std.specs.Ordering.{eq_by_cmp, is_eq}
use Rattle.std.specs.FinMap as finite
use Rattle.std.specs.FinMap.Entries.{find}
use Rattle.std.proofs.lemmas.Map.Views.{tells_apart}
use Rattle.std.proofs.lemmas.Cmp.{tied_itself}
use Rattle.std.proofs.lemmas.List.{reverse-append}
use Rattle.std.proofs.lemmas.List.Elements.{filter_map-append}
use Rattle.bk_record.specs.Key.{EntryKey, key_cmp}
use Rattle.bk_record.specs.Location.{Place}
use Rattle.bk_record.specs.Record.{key_of}
use Rattle.bk_record.specs.Files.{Files, all_records, In}
use Rattle.bk_record.specs.Scan.{scan_of, keyed}
use Rattle.bk_record.proofs.Keys.{key_cmp_total, key_cmp_antisymmetric}
use Rattle.bk_record.proofs.Entries.{In-reverse, filter_map-In}
use Rattle.bk_record.proofs.Scans.{scan-found, scan-some, keyed-payload, payload-keyed, record-all}

-- no record of the list has the key
abbrev pub NoneOf : EntryKey → List (Place × List ℕ) → Type 0
NoneOf key records = (place : Place) (payload : List ℕ) → In (place, payload) records → key_of payload ≢ Some key

-- a list split at the last record of a key
pub record LastIn (key : EntryKey) (records : List (Place × List ℕ)) : Type 0 where
  pub place : Place
  pub payload : List ℕ
  pub before : List (Place × List ℕ)
  pub behind : List (Place × List ℕ)
  pub records_are : records ≡ before ++ (place, payload) ∷ behind
  pub keyed : key_of payload ≡ Some key
  pub last : NoneOf key behind

same_key : (o : Option EntryKey) (key : EntryKey) → (o ≡ Some key) ⊎ (o ≢ Some key)
same_key None key = inr (λ e. cc)
same_key (Some k) key = elim (eq_by_cmp key_cmp k key) as (λ b. eq_by_cmp key_cmp k key ≡ b → (Some k ≡ Some key) ⊎ (Some k ≢ Some key)) [
  | true ↦ λ tied. inl (ap Some (tells_apart key_cmp_antisymmetric k key tied))
  | false ↦ λ apart. inr (λ e. let same : k ≡ key = cc in
      let tied : eq_by_cmp key_cmp k key ≡ true = ap (λ (q : EntryKey). eq_by_cmp key_cmp k q) (sym same) ∙ ap is_eq (tied_itself key_cmp_total k) in cc)
] refl

-- a list has a last record of the key, or none
last_or_none : (key : EntryKey) (records : List (Place × List ℕ)) → LastIn key records ⊎ NoneOf key records
last_or_none key [] = inr (λ place payload there has. there)
last_or_none key (r ∷ records) = elim (last_or_none key records) [
  | inl l ↦ inl (record {
    place = l.place;
    payload = l.payload;
    before = r ∷ l.before;
    behind = l.behind;
    records_are = ap (λ (rs : List (Place × List ℕ)). r ∷ rs) l.records_are;
    keyed = l.keyed;
    last = l.last;
  })
  | inr none ↦ elim (same_key (key_of r.1) key) [
    | inl is ↦ inl (record { place = r.0; payload = r.1; before = []; behind = records; records_are = refl; keyed = is; last = none })
    | inr other ↦ inr (λ place payload there. elim there [
      | inl here ↦ λ has. other (ap (λ (x : Place × List ℕ). key_of x.1) here ∙ has)
      | inr later ↦ none place payload later
    ])
  ]
]

-- pairs without the key do not change a look-up
find-append : (key : EntryKey) (es fs : List (EntryKey × List ℕ)) → ((payload : List ℕ) → In (key, payload) es → ⊥) → find key_cmp key (es ++ fs)
    ≡ find key_cmp key fs
find-append key [] fs none = refl
find-append key (e ∷ es) fs none =
    elim (eq_by_cmp key_cmp key e.0) as (λ b. eq_by_cmp key_cmp key e.0 ≡ b → cond b (Some e.1) (find key_cmp key (es ++ fs)) ≡ find key_cmp key fs) [
      | true ↦ λ tied. absurd (none e.1 (inl (let same = tells_apart key_cmp_antisymmetric key e.0 tied in λ i. (sym same i, e.1))))
      | false ↦ λ _. find-append key es fs (λ payload there. none payload (inr there))
    ] refl

-- the keyed payloads of records
abbrev keyed_of : List (Place × List ℕ) → List (EntryKey × List ℕ)
keyed_of = filter_map (λ r. keyed r.1)

none_keyed : (key : EntryKey) (records : List (Place × List ℕ)) → NoneOf key records → (payload : List ℕ) → In (key, payload) (reverse (keyed_of records)) → ⊥
none_keyed key records none payload there =
    let from = filter_map-In (λ r. keyed r.1) (key, payload) records (In-reverse _ _ there) in
    none from.0.0 from.0.1 from.1.0 (keyed-payload from.0.1 key payload from.1.1).0

-- in the reversed list, a look-up finds the last record of the key
find-last : (key : EntryKey) (before behind : List (Place × List ℕ)) (place : Place) (payload : List ℕ) → key_of payload ≡ Some key → NoneOf key behind
    → find key_cmp key (reverse (keyed_of (before ++ (place, payload) ∷ behind))) ≡ Some payload
find-last key before behind place payload has none =
    let here : List (EntryKey × List ℕ) = (key, payload) ∷ [] in
    let listed : keyed_of ((place, payload) ∷ behind) ≡ here ++ keyed_of behind =
    ap (λ (o : Option (EntryKey × List ℕ)). cons_option o (keyed_of behind)) (payload-keyed payload key has) in
    let turned : reverse (keyed_of (before ++ (place, payload) ∷ behind)) ≡ reverse (keyed_of behind) ++ (here ++ reverse (keyed_of before)) =
    ap reverse (filter_map-append (λ r. keyed r.1) before ((place, payload) ∷ behind))
    ∙ reverse-append (keyed_of before) (keyed_of ((place, payload) ∷ behind))
    ∙ ap (λ (l : List (EntryKey × List ℕ)). l ++ reverse (keyed_of before)) (ap reverse listed ∙ reverse-append here (keyed_of behind))
    ∙ append_assoc (reverse (keyed_of behind)) here (reverse (keyed_of before)) in
    ap (find key_cmp key) turned
    ∙ find-append key (reverse (keyed_of behind)) (here ++ reverse (keyed_of before)) (none_keyed key behind none)
    ∙ ap (λ (b : Bool). cond b (Some payload) (find key_cmp key (reverse (keyed_of before)))) (ap is_eq (tied_itself key_cmp_total key))

last-scan : (files : Files) (key : EntryKey) (l : LastIn key (all_records files)) → finite.get (scan_of files) key ≡ Some l.payload
last-scan files key l =
    scan-found files key ∙ ap (λ (rs : List (Place × List ℕ)). find key_cmp key (reverse (keyed_of rs))) l.records_are
    ∙ find-last key l.before l.behind l.place l.payload l.keyed l.last

pub scan-last : (files : Files) (key : EntryKey) (payload : List ℕ) → finite.get (scan_of files) key ≡ Some payload
    → (l : LastIn key (all_records files)) × (l.payload ≡ payload)
scan-last files key payload is = elim (last_or_none key (all_records files)) [
  | inl l ↦ let found = last-scan files key l in let same : l.payload ≡ payload = cc in (l, same)
  | inr none ↦ absurd (let from = scan-some files key payload is in none from.0 payload (record-all files from.0 payload from.1.0) from.1.1)
]
