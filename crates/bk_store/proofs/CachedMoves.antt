-- Keys leave the write caches or come to them.
use Rattle.std.proofs.Common.{◌≡◌, ◌≢◌, ◌⊎◌, inl, inr, List, ℕ, Some, None, IsSome, false, sym, ap, ◌∙◌}
use Rattle.std.specs.FinMap as finite
use Rattle.std.specs.FinSet as set
use Rattle.bk_record.specs.Key.{EntryKey}
use Rattle.bk_record.specs.Scan.{Payloads, Ledgers}
use Rattle.bk_record.specs.Keyed.{Places}
use Rattle.bk_store.specs.Entries.{Bytes}
use Rattle.bk_store.specs.Representation.{Cached, Represents}
use Rattle.bk_store.proofs.KeyMaps.{get-insert_other, same_key, inserted_cases, inserted_here}
use Rattle.bk_store.proofs.RepresentedContents.{unheld_unmapped, unmapped_has_none}

module _ {bytes : Bytes} {index : Places} {cached : Cached} {dead : Ledgers} {map : Payloads} (carries : Represents bytes index cached dead map) where
  -- keys are dropped that are indexed
  pub carries_let_go : (cached' : Cached) → ((key : EntryKey) → (cached' key ≡ cached key) ⊎ ((cached' key ≡ None) × IsSome (finite.get index key)))
      → Represents bytes index cached' dead map
  carries_let_go cached' fewer = record {
    lives = carries.lives;
    cached_is = λ key payload is. elim (fewer key) [
      | inl same ↦ carries.cached_is key payload (sym same ∙ is)
      | inr gone ↦ absurd (let none = gone.0 in cc)
    ];
    covered = λ key payload mapped none. elim (fewer key) [
      | inl same ↦ carries.covered key payload mapped (sym same ∙ none)
      | inr gone ↦ gone.1
    ];
    indexed = carries.indexed;
    recorded = λ place key payload entry lives. elim (carries.recorded place key payload entry lives) [
      | inl mapped ↦ inl mapped
      | inr stale ↦ inr (record {
        uncached = elim (fewer key) [ inl same ↦ same ∙ stale.uncached | inr gone ↦ gone.0 ];
        behind = stale.behind;
        sent = stale.sent;
        later = stale.later;
      })
    ];
  }

  -- the caches have what they had, elsewhere
  pub carries_same_cached : (cached' : Cached) → ((key : EntryKey) → cached' key ≡ cached key) → Represents bytes index cached' dead map
  carries_same_cached cached' same = carries_let_go cached' (λ key. inl (same key))

  -- A key of a live ledger comes that is neither cached nor indexed.
  pub carries_added : (cached' : Cached) (key : EntryKey) (payload : List ℕ) → set.contains dead key.ledger ≡ false
      → cached key ≡ None → finite.get index key ≡ None
      → cached' key ≡ Some payload → ((other : EntryKey) → other ≢ key → cached' other ≡ cached other)
      → Represents bytes index cached' dead (finite.insert map key payload)
  carries_added cached' key payload alive none unnamed here others = record {
    lives = λ k b mapped. elim (inserted_cases map key payload k b mapped) [
      | inl new ↦ ap (λ (x : EntryKey). set.contains dead x.ledger) new.0 ∙ alive
      | inr old ↦ carries.lives k b old.1
    ];
    cached_is = λ k b is. elim (same_key k key) [
      | inl same ↦ inserted_here map key payload k same ∙ sym here ∙ ap cached' (sym same) ∙ is
      | inr apart ↦ get-insert_other map key payload k apart ∙ carries.cached_is k b (sym (others k apart) ∙ is)
    ];
    covered = λ k b mapped uncached. elim (inserted_cases map key payload k b mapped) [
      | inl new ↦ absurd (let both : None ≡ Some payload = sym uncached ∙ ap cached' new.0 ∙ here in cc)
      | inr old ↦ carries.covered k b old.1 (sym (others k old.0) ∙ uncached)
    ];
    indexed = λ k place named. elim (same_key k key) [
      | inl same ↦ absurd (let both : None ≡ Some place = sym unnamed ∙ ap (λ x. finite.get index x) (sym same) ∙ named in cc)
      | inr apart ↦
          let old = carries.indexed k place named in
          record { payload = old.payload; stands = old.stands; mapped = get-insert_other map key payload k apart ∙ old.mapped }
    ];
    recorded = λ place k b entry lives. elim (same_key k key) [
      | inl same ↦
          let missing = ap (λ x. finite.get map x) same ∙ unheld_unmapped carries key none unnamed in
          absurd (unmapped_has_none carries k missing lives place b entry)
      | inr apart ↦ elim (carries.recorded place k b entry lives) [
        | inl mapped ↦ inl (get-insert_other map key payload k apart ∙ mapped)
        | inr stale ↦ inr (record { uncached = others k apart ∙ stale.uncached; behind = stale.behind; sent = stale.sent; later = stale.later })
      ]
    ];
  }
