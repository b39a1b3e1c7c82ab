-- What files, index, write caches and deleted ledgers represent is what they mean, and they
-- represent one map.
use Rattle.std.proofs.Common.{◌≡◌, inl, inr, ℕ, List, Option, Some, None, true, false, cond, is_some, ◌||◌, refl, sym, ap, ◌∙◌}
use Rattle.std.specs.FinMap as finite
use Rattle.std.specs.FinSet as set
use Rattle.std.specs.Option.{option_or}
use Rattle.bk_record.specs.Key.{EntryKey}
use Rattle.bk_record.specs.Location.{Place}
use Rattle.bk_record.specs.Files.{Files, file_of}
use Rattle.bk_record.specs.Scan.{Payloads, Ledgers, scan_of}
use Rattle.bk_record.proofs.Keys.{key_cmp_total, key_cmp_antisymmetric}
use Rattle.bk_record.proofs.Scans.{scan-none}
use Rattle.bk_record.specs.Keyed.{Places}
use Rattle.bk_store.specs.Entries.{Bytes, HasEntry}
use Rattle.bk_store.specs.Representation.{Cached, Represents}
use Rattle.bk_store.proofs.Cases.{some_or_none}
use Rattle.bk_store.proofs.OneEntry.{one_payload}
use Rattle.bk_store.proofs.LatestEntries.{entry_record, scan_entry}

module _ {bytes : Bytes} {index : Places} {cached : Cached} {dead : Ledgers} {map : Payloads} (carries : Represents bytes index cached dead map) where
  -- a key that is neither cached nor indexed is not in the map
  pub unheld_unmapped : (key : EntryKey) → cached key ≡ None → finite.get index key ≡ None → finite.get map key ≡ None
  unheld_unmapped key none unnamed = elim (some_or_none (finite.get map key)) [
    | inl missing ↦ missing
    | inr there ↦ absurd (let named = carries.covered key there.0 there.1 none in cc)
  ]

  pub dead_unmapped : (key : EntryKey) → set.contains dead key.ledger ≡ true → finite.get map key ≡ None
  dead_unmapped key gone = elim (some_or_none (finite.get map key)) [
    | inl missing ↦ missing
    | inr there ↦ absurd (let lives = carries.lives key there.0 there.1 in cc)
  ]

  -- the map has a key exactly if it is cached or indexed
  pub held_exactly : (key : EntryKey) → is_some (finite.get map key) ≡ (is_some (cached key) || is_some (finite.get index key))
  held_exactly key = elim (some_or_none (cached key)) [
    | inr there ↦ ap is_some (carries.cached_is key there.0 there.1) ∙ sym (ap (λ (o : Option (List ℕ)). is_some o || is_some (finite.get index key)) there.1)
    | inl none ↦ elim (some_or_none (finite.get index key)) [
      | inr named ↦ ap is_some (carries.indexed key named.0 named.1).mapped
          ∙ sym ((λ i. is_some (none i) || is_some (named.1 i)))
      | inl unnamed ↦ ap is_some (unheld_unmapped key none unnamed) ∙ sym ((λ i. is_some (none i) || is_some (unnamed i)))
    ]
  ]

  -- a key of a live ledger that the map does not have has no entry anywhere
  pub unmapped_has_none : (key : EntryKey) → finite.get map key ≡ None → set.contains dead key.ledger ≡ false → (place : Place) (payload : List ℕ)
      → HasEntry bytes place key payload → ⊥
  unmapped_has_none key missing lives place payload entry = elim (carries.recorded place key payload entry lives) [
    | inl mapped ↦ cc
    | inr stale ↦ let mapped = (carries.indexed key stale.behind stale.sent).mapped in cc
  ]

-- the same bytes, index, caches and deleted ledgers represent one map
pub one_map : {bytes : Bytes} {index : Places} {cached : Cached} {dead : Ledgers} {first second : Payloads}
    → Represents bytes index cached dead first → Represents bytes index cached dead second → first ≡ second
one_map {index = index} {cached = cached} {first = first} {second = second} one two =
    finite.same_map key_cmp_total key_cmp_antisymmetric first second (λ key. elim (some_or_none (cached key)) [
      | inr there ↦ one.cached_is key there.0 there.1 ∙ sym (two.cached_is key there.0 there.1)
      | inl none ↦ elim (some_or_none (finite.get index key)) [
        | inr named ↦
            let left = one.indexed key named.0 named.1 in
            let right = two.indexed key named.0 named.1 in
            left.mapped ∙ ap Some (one_payload left.stands right.stands) ∙ sym right.mapped
        | inl unnamed ↦ unheld_unmapped one key none unnamed ∙ sym (unheld_unmapped two key none unnamed)
      ]
    ])

-- ---- the files, with the caches, mean the map

module _ (files : Files) {index : Places} {cached : Cached} {dead : Ledgers} {map : Payloads} (carries : Represents (file_of files) index cached dead map) where
  -- an uncached key of a live ledger is what the scan gives
  scan_is : (key : EntryKey) → cached key ≡ None → set.contains dead key.ledger ≡ false → finite.get map key ≡ finite.get (scan_of files) key
  scan_is key none lives = elim (some_or_none (finite.get (scan_of files) key)) [
    | inr found ↦
        let entry = scan_entry files key found.0 found.1 in
        elim (carries.recorded entry.0 key found.0 entry.1.here lives) [
          | inl mapped ↦ mapped ∙ sym found.1
          | inr stale ↦
              let behind = carries.indexed key stale.behind stale.sent in
              absurd (entry.1.last stale.behind behind.payload behind.stands stale.later)
        ]
    | inl nothing ↦ elim (some_or_none (finite.get index key)) [
      | inl unnamed ↦ unheld_unmapped carries key none unnamed ∙ sym nothing
      | inr named ↦
          let i = carries.indexed key named.0 named.1 in
          absurd (scan-none files key named.0 i.payload nothing (entry_record files named.0 key i.payload i.stands) i.stands.keyed)
    ]
  ]

  -- In a live ledger, what the caches have of a key, else what the scan of the files gives; in a
  -- dead one nothing.
  pub carries_meaning : (key : EntryKey)
      → finite.get map key ≡ cond (set.contains dead key.ledger) None (option_or (cached key) (finite.get (scan_of files) key))
  carries_meaning key =
      elim (set.contains dead key.ledger) as (λ b. set.contains dead key.ledger ≡ b
      → finite.get map key ≡ cond b None (option_or (cached key) (finite.get (scan_of files) key))) [
        | true ↦ dead_unmapped carries key
        | false ↦ λ lives. elim (cached key) as (λ o. cached key ≡ o → finite.get map key ≡ option_or o (finite.get (scan_of files) key)) [
          | Some payload ↦ carries.cached_is key payload
          | None ↦ λ none. scan_is key none lives
        ] refl
      ] refl
