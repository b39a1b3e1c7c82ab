-- A store that is opened on what a crash left.
use Rattle.std.proofs.Common.{◌≡◌, ℕ, List, None, true, cond, refl, sym, ap, ◌∙◌}
use Rattle.std.specs.Option.{option_or}
use Rattle.std.specs.FinMap as finite
use Rattle.std.specs.FinSet as set
use Rattle.bk_record.specs.Key.{EntryKey, key_cmp}
use Rattle.bk_record.specs.Files.{Files, file_of}
use Rattle.bk_record.specs.Scan.{Payloads, scan_of, live}
use Rattle.bk_cache.specs.Caches as caches
use Rattle.bk_store.specs.Representation.{Represents}
use Rattle.bk_store.specs.Published.{IndexIsPublished}
use Rattle.bk_store.specs.Logs.{open_parts}
use Rattle.bk_store.specs.State.{State}
use Rattle.bk_store.specs.Contents.{IsContents, written_at}
use Rattle.bk_store.specs.Opening.{IsOpened}
use Rattle.bk_store.specs.declared.settings.Settings.{Settings}
use Rattle.bk_store.proofs.Opening.{carries_opened}
use Rattle.bk_store.proofs.RepresentedContents.{carries_meaning}
use Rattle.bk_store.specs.Crash.{MayLeave, AreSynced, RemovedFilesAreHarmless, StayDead, IsBetween}
use Rattle.bk_store.proofs.Cuts.{survives}
use Rattle.bk_store.proofs.Recovered.{between}

-- new caches have nothing
nothing_written : (limit recent : ℕ) (key : EntryKey) → caches.write_cached_payload (caches.new_caches limit recent) key ≡ None
nothing_written limit recent key = ap (λ o. option_or o o) (finite.get-empty {X = List ℕ} key_cmp key)

pub reopened : (s t : State) (map : Payloads) (gone kept left : Files) (settings : Settings) (dead : List ℕ)
    → Represents (file_of s.files) s.index (written_at s) s.ledgers.dead map → IndexIsPublished (file_of s.files) (open_parts s.logs) s.index
    → RemovedFilesAreHarmless (file_of gone) s.index (written_at s) s.ledgers.dead map → AreSynced kept (open_parts s.logs)
    → MayLeave s.files gone kept left → IsOpened true left settings dead t → StayDead s.ledgers.dead t.ledgers.dead
    → (found : Payloads) × (IsContents found t × IsBetween s.index map t.ledgers.dead found)
reopened s t map gone kept left settings dead carries shows harmless safe leaves opened stay =
    let holds = opened.holds refl in
    let found = live (scan_of left) t.ledgers.dead in
    let now = carries_opened left holds.index in
    let written : (key : EntryKey) → None ≡ written_at t key =
    λ key. sym (ap (λ c. caches.write_cached_payload c key) opened.caches_are ∙ nothing_written settings.cache_limit settings.recent key) in
    let same : left ≡ t.files = sym holds.same in
    let means : IsContents found t = λ key. carries_meaning left now key
    ∙ (λ i. cond (set.contains t.ledgers.dead key.ledger) None (option_or (written key i) (finite.get (scan_of (same i)) key))) in
    (found, (means, between carries shows harmless (survives leaves (open_parts s.logs) safe) stay holds.index now))
