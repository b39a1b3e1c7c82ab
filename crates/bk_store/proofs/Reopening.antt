-- A store that is opened on the files of another one means what that one means with nothing cached.
use Rattle.std.proofs.Common.{◌≡◌, ℕ, List, None, true, refl, sym, ap, ◌∙◌, cond}
use Rattle.std.specs.Option.{option_or}
use Rattle.std.specs.FinMap as finite
use Rattle.std.specs.FinSet as set
use Rattle.bk_record.specs.Key.{EntryKey, key_cmp}
use Rattle.bk_record.specs.Scan.{scan_of}
use Rattle.bk_cache.specs.Caches as caches
use Rattle.bk_store.specs.Ledgers.{KnownLedgers}
use Rattle.bk_store.specs.State.{State}
use Rattle.bk_store.specs.Contents.{SameContents, written_at}
use Rattle.bk_store.specs.Opening.{IsOpened}
use Rattle.bk_store.specs.Transitions.{valid_ledgers}
use Rattle.bk_store.specs.declared.settings.Settings.{Settings}

-- new caches have nothing
nothing_written : (limit recent : ℕ) (key : EntryKey) → caches.write_cached_payload (caches.new_caches limit recent) key ≡ None
nothing_written limit recent key = ap (λ o. option_or o o) (finite.get-empty {X = List ℕ} key_cmp key)

pub reopened_same : (s t : State) (settings : Settings) (dead : List ℕ) → s.ledgers.dead ≡ valid_ledgers dead → ((key : EntryKey) → written_at s key ≡ None)
    → IsOpened true s.files settings dead t → SameContents s t
reopened_same s t settings dead same_dead unwritten opened key =
    let same_files = (opened.holds refl).same in
    let gone = ap (λ (l : KnownLedgers). l.dead) opened.ledgers_are ∙ sym same_dead in
    let written : written_at t key ≡ written_at s key =
    ap (λ c. caches.write_cached_payload c key) opened.caches_are ∙ nothing_written settings.cache_limit settings.recent key ∙ sym (unwritten key) in
    (λ i. cond (set.contains (gone i) key.ledger) None (option_or (written i) (finite.get (scan_of (same_files i)) key)))
