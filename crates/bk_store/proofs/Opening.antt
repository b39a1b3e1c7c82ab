-- The index of all entries of the files represents the contents of the files, and there is one such
-- index.
use Rattle.std.proofs.Common.{◌≡◌, inl, inr, ℕ, List, Some, None, Bool, true, false, not, cond, is_some, refl, sym, ap, ◌∙◌, subst}
use Rattle.std.specs.FinMap as finite
use Rattle.std.specs.FinSet as set
use Rattle.std.proofs.lemmas.Option.{none-some}
use Rattle.bk_record.specs.Key.{EntryKey}
use Rattle.bk_record.specs.Files.{Files, file_of}
use Rattle.bk_record.specs.Scan.{Ledgers, Payloads, scan_of, live}
use Rattle.bk_record.proofs.Keys.{key_cmp_total, key_cmp_antisymmetric}
use Rattle.bk_record.specs.Keyed.{Places}
use Rattle.bk_record.proofs.Places.{precedes_cases}
use Rattle.bk_store.specs.Entries.{Bytes, HasEntry, IsIndexOf}
use Rattle.bk_store.specs.Representation.{Represents}
use Rattle.bk_store.proofs.Cases.{some_or_none}
use Rattle.bk_store.proofs.OneEntry.{one_payload}
use Rattle.bk_store.proofs.LatestEntries.{one_last, scan_entry, entry_scan}

-- what lives has no deleted ledger, and is the map's
pub live_cases : (map : Payloads) (dead : Ledgers) (key : EntryKey) (payload : List ℕ) → finite.get (live map dead) key ≡ Some payload
    → (set.contains dead key.ledger ≡ false) × (finite.get map key ≡ Some payload)
unfolding live
live_cases map dead key payload is =
    let kept = finite.get-retain_keys map (λ k. not (set.contains dead k.ledger)) key
    (λ x tied. ap (λ (k : EntryKey). not (set.contains dead k.ledger)) (sym (key_cmp_antisymmetric key x tied))) in
    elim (set.contains dead key.ledger) as (λ b. cond (not b) (finite.get map key) None ≡ Some payload → (b ≡ false) × (finite.get map key ≡ Some payload)) [
      | true ↦ λ never. cc
      | false ↦ λ there. (refl, there)
    ] (sym kept ∙ is)

pub live_same : (map : Payloads) (dead : Ledgers) (key : EntryKey) → set.contains dead key.ledger ≡ false → finite.get (live map dead) key ≡ finite.get map key
unfolding live
live_same map dead key lives =
    finite.get-retain_keys map (λ k. not (set.contains dead k.ledger)) key
    (λ x tied. ap (λ (k : EntryKey). not (set.contains dead k.ledger)) (sym (key_cmp_antisymmetric key x tied)))
    ∙ ap (λ (b : Bool). cond (not b) (finite.get map key) None) lives

-- files that were just opened, with nothing cached
pub carries_opened : (files : Files) {index : Places} {dead : Ledgers} → IsIndexOf (file_of files) dead index
    → Represents (file_of files) index (λ _. None) dead (live (scan_of files) dead)
carries_opened files {index = index} {dead = dead} made = record {
  lives = λ key payload mapped. (live_cases (scan_of files) dead key payload mapped).0;
  cached_is = λ key payload never. absurd (none-some payload never);
  covered = λ key payload mapped none. elim (some_or_none (finite.get index key)) [
    | inr named ↦ ap is_some named.1
    | inl missing ↦
        let found = live_cases (scan_of files) dead key payload mapped in
        let entry = scan_entry files key payload found.1 in
        absurd (made.missing key missing found.0 entry.0 payload entry.1.here)
  ];
  indexed = λ key place named.
      let last = made.sent key place named in
      record {
        payload = last.0;
        stands = last.1.here;
        mapped = live_same (scan_of files) dead key (made.lives key place named) ∙ entry_scan files place key last.0 last.1;
      };
  recorded = λ place key payload entry lives. elim (some_or_none (finite.get index key)) [
    | inl missing ↦ absurd (made.missing key missing lives place payload entry)
    | inr named ↦
        let last = made.sent key named.0 named.1 in
        elim (precedes_cases place named.0) [
          | inl before ↦ inr (record { uncached = refl; behind = named.0; sent = named.1; later = before })
          | inr rest ↦ elim rest [
            | inl same ↦
                let here = subst (λ p. HasEntry (file_of files) p key payload) same entry in
                inl (live_same (scan_of files) dead key lives ∙ entry_scan files named.0 key last.0 last.1 ∙ ap Some (one_payload last.1.here here))
            | inr behind ↦ absurd (last.1.last place payload entry behind)
          ]
        ]
  ];
}

-- ---- one index

module _ {bytes : Bytes} {dead : Ledgers} where
  missing_too : (first second : Places) → IsIndexOf bytes dead first → IsIndexOf bytes dead second → (key : EntryKey) → finite.get first key ≡ None
      → finite.get second key ≡ None
  missing_too first second one two key none = elim (some_or_none (finite.get second key)) [
    | inl missing ↦ missing
    | inr named ↦
        let last = two.sent key named.0 named.1 in
        absurd (one.missing key none (two.lives key named.0 named.1) named.0 last.0 last.1.here)
  ]

  pub one_index : {first second : Places} → IsIndexOf bytes dead first → IsIndexOf bytes dead second → first ≡ second
  one_index {first = first} {second = second} one two =
      finite.same_map key_cmp_total key_cmp_antisymmetric first second (λ key. elim (some_or_none (finite.get first key)) [
        | inl none ↦ none ∙ sym (missing_too first second one two key none)
        | inr here ↦ elim (some_or_none (finite.get second key)) [
          | inl none ↦ absurd (none-some here.0 (sym (missing_too second first two one key none) ∙ here.1))
          | inr there ↦ here.1 ∙ ap Some (one_last (one.sent key here.0 here.1).1 (two.sent key there.0 there.1).1) ∙ sym there.1
        ]
      ])
