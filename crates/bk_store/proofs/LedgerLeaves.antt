-- A ledger dies, and its keys leave the map, the index and the write caches.
use Rattle.std.proofs.Common.{◌≡◌, ◌≢◌, inl, inr, ℕ, None, is_some, sym, ap, ◌∙◌}
use Rattle.std.specs.FinSet as set
use Rattle.bk_record.specs.Key.{EntryKey}
use Rattle.bk_record.specs.Scan.{Payloads, Ledgers}
use Rattle.bk_record.specs.Keyed.{without_ledger, Places}
use Rattle.bk_store.specs.Entries.{Bytes}
use Rattle.bk_store.specs.Representation.{Cached, Represents}
use Rattle.bk_store.proofs.Cases.{same_or_apart}
use Rattle.bk_store.proofs.KeyMaps.{left_cases, left_same, still_lives, lives_still}

module _ {bytes : Bytes} {index : Places} {cached : Cached} {dead : Ledgers} {map : Payloads} (carries : Represents bytes index cached dead map) where
  pub carries_without_ledger : (cached' : Cached) (ledger : ℕ)
      → ((key : EntryKey) → key.ledger ≡ ledger → cached' key ≡ None) → ((key : EntryKey) → key.ledger ≢ ledger → cached' key ≡ cached key)
      → Represents bytes (without_ledger index ledger) cached' (set.insert dead ledger) (without_ledger map ledger)
  carries_without_ledger cached' ledger gone others = record {
    lives = λ key payload mapped.
        let old = left_cases map ledger key payload mapped in
        lives_still dead ledger key.ledger old.0 (carries.lives key payload old.1);
    cached_is = λ key payload is. elim (same_or_apart key.ledger ledger) [
      | inl same ↦ absurd (let none = gone key same in cc)
      | inr apart ↦ left_same map ledger key apart ∙ carries.cached_is key payload (sym (others key apart) ∙ is)
    ];
    covered = λ key payload mapped none.
        let old = left_cases map ledger key payload mapped in
        ap is_some (left_same index ledger key old.0) ∙ carries.covered key payload old.1 (sym (others key old.0) ∙ none);
    indexed = λ key place named.
        let was = left_cases index ledger key place named in
        let old = carries.indexed key place was.1 in
        record { payload = old.payload; stands = old.stands; mapped = left_same map ledger key was.0 ∙ old.mapped };
    recorded = λ place key payload entry lives.
        let still = still_lives dead ledger key.ledger lives in
        elim (carries.recorded place key payload entry still.1) [
          | inl mapped ↦ inl (left_same map ledger key still.0 ∙ mapped)
          | inr stale ↦ inr (record {
            uncached = others key still.0 ∙ stale.uncached;
            behind = stale.behind;
            sent = left_same index ledger key still.0 ∙ stale.sent;
            later = stale.later;
          })
        ];
  }
