-- A key points to a place: what the accounts owe, and what is remembered.
use Rattle.std.proofs.Common.{◌≡◌, inl, inr, ℕ, ◌+◌, ◌<◌, ◌^◌, Bool, true, false, cond, eqb, List, Option, Some, None}
use Rattle.std.proofs.Common.{Ok, ◌⊎◌, IfSome, option_map, refl, sym, ap, subst, ◌∙◌, arith}
use Rattle.std.specs.FinMap as finite
use Rattle.std.proofs.lemmas.Bool.{eq-eqb}
use Rattle.std.proofs.lemmas.Option.{same_Some}
use Rattle.bk_record.specs.Key.{EntryKey}
use Rattle.bk_record.specs.Location.{Place}
use Rattle.bk_record.specs.Keyed.{log_count}
use Rattle.bk_record.proofs.KeyedCounts.{log_count-some, log_count-le-len}
use Rattle.bk_accounts.specs.Book.{Book, named_in, after_unname}
use Rattle.bk_accounts.proofs.BookLaws.{named_in-after_name}
use Rattle.bk_cache.specs.Caches.{CacheState, cached_payload, flush_of}
use Rattle.bk_cache.specs.Invariant.{IsSound}
use Rattle.bk_cache.specs.Recents.{Recents, recents_with}
use Rattle.bk_store.specs.Logs.{Log}
use Rattle.bk_store.specs.State.{StoreParts}
use Rattle.bk_store.specs.Invariant.{StoreInvariant}
use Rattle.bk_store.specs.Primitives.{CanIndexEntry, IndexEntryTransition, IsRecentAfter}
use Rattle.bk_store.specs.Internals.{parts_after_index}
use Rattle.bk_store.proofs.Cases.{some_value}
use Rattle.bk_store.proofs.Written.{found_payload}
use Rattle.bk_store.proofs.InvariantIndexEntry.{names_move}

-- ---- the accounts

-- a log that a key points into has an index entry to lose
pub unname_fits : (p : StoreParts) → StoreInvariant p → (key : EntryKey) (old : Place) → finite.get p.state.index key ≡ Some old
    → IfSome (named_in p.accounts old.log) (λ n. 0 < n)
unname_fits p keeps key old there = subst (λ o. IfSome o (λ n. 0 < n)) (sym (keeps.fits.accounts.named old.log)) (inside (finite.get p.state.logs old.log))
  where
    inside : (o : Option Log) → IfSome (option_map (λ _. log_count p.state.index old.log) o) (λ n. 0 < n)
    inside None = tt
    inside (Some l) = log_count-some p.state.index old.log key old there refl

-- the accounts without the name that a key had
abbrev pub unnamed : Book → Option Place → Book
unnamed book None = book
unnamed book (Some old) = after_unname book old.log

below : (o : Option ℕ) (log : Option Log) (b : Bool) (most : ℕ) → b ≡ true → most < 2 ^ 64
    → option_map (λ n. cond b (n + 1) n) o ≡ option_map (λ _. most) log → IfSome o (λ n. n + 1 < 2 ^ 64)
below None log b most here few is = tt
below (Some n) None b most here few is = absurd (let wrong : Some (cond b (n + 1) n) ≡ None = is in cc)
below (Some n) (Some l) true most here few is = let same = same_Some (n + 1) most is in omega (arith, same, few)
below (Some n) (Some l) false most here few is = absurd (let wrong : false ≡ true = here in cc)

-- one more index entry is still counted: each is a key's
pub name_fits : (p : StoreParts) → StoreInvariant p → (key : EntryKey) (place : Place) (was : Option Place) → finite.get p.state.index key ≡ was
    → finite.len (finite.insert p.state.index key place) < 2 ^ 64 → IfSome (named_in (unnamed p.accounts was) place.log) (λ n. n + 1 < 2 ^ 64)
name_fits p keeps key place was is few =
    below (named_in (unnamed p.accounts was) place.log) (finite.get p.state.logs place.log) (eqb place.log place.log)
    (log_count (finite.insert p.state.index key place) place.log) (eq-eqb place.log place.log refl)
    (let least = log_count-le-len (finite.insert p.state.index key place) place.log in omega (arith, least, few))
    (moved was is)
  where
    moved : (was : Option Place) → finite.get p.state.index key ≡ was
        → option_map (λ n. cond (eqb place.log place.log) (n + 1) n) (named_in (unnamed p.accounts was) place.log)
        ≡ option_map (λ _. log_count (finite.insert p.state.index key place) place.log) (finite.get p.state.logs place.log)
    moved None is = sym (named_in-after_name p.accounts place.log place.log)
        ∙ names_move p.state.index key place p.accounts (finite.get p.state.logs) keeps.fits.accounts.named None is place.log
    moved (Some old) is = sym (named_in-after_name (after_unname p.accounts old.log) place.log place.log)
        ∙ names_move p.state.index key place p.accounts (finite.get p.state.logs) keeps.fits.accounts.named (Some old) is place.log

-- ---- what is remembered

-- caches whose recent entries alone may have changed
only_recent : (new old : CacheState) (recents : Recents) → (new ≡ old) ⊎ (new ≡ record old { recent = recents }) → new ≡ record old { recent = new.recent }
only_recent new old recents (inl kept) = kept ∙ ap (λ (h : CacheState). record old { recent = h.recent }) (sym kept)
only_recent new old recents (inr made) = made ∙ ap (λ (h : CacheState). record old { recent = h.recent }) (sym made)

-- the key was indexed, and what the caches gave for it was remembered, or not
pub name_turn : (p q : StoreParts) (key : EntryKey) (place : Place) → StoreInvariant p → CanIndexEntry p.state key place → q ≡ parts_after_index p key place
    → (bytes : List ℕ) → Some bytes ≡ cached_payload q.state.caches key → IsSound q.state.caches → (new : CacheState)
    → (new ≡ q.state.caches) ⊎ (new ≡ record q.state.caches { recent = recents_with q.state.caches.recent key bytes })
    → IndexEntryTransition {E = Unit {0}} p.state key place (Ok tt) (record q.state { caches = new })
name_turn p q key place keeps may here bytes found sound new after =
    let payload = some_value (finite.get (flush_of p.state.caches) key) (keeps.fits.placed.flushing key place may.placed) in
    let same : q.state.caches ≡ p.state.caches = ap (λ (x : StoreParts). x.state.caches) here in
    let is = found_payload q.state.caches key payload.0 bytes sound (ap (λ (h : CacheState). finite.get (flush_of h) key) same ∙ payload.1) found in
    let old : (new ≡ p.state.caches) ⊎ (new ≡ record p.state.caches { recent = recents_with p.state.caches.recent key payload.0 }) = elim after [
      | inl kept ↦ inl (kept ∙ same)
      | inr made ↦ inr (made ∙ (λ i. record (same i) { recent = recents_with (same i).recent key (is i) }))
    ] in
    let recent : IsRecentAfter p.state.caches.recent key payload.0 new.recent = elim old [
      | inl kept ↦ inl (ap (λ (h : CacheState). h.recent) kept)
      | inr made ↦ inr (ap (λ (h : CacheState). h.recent) made)
    ] in (
      payload.0,
      payload.1,
      recent,
      ap (λ (x : StoreParts). record x.state { caches = new }) here
          ∙ ap (λ (h : CacheState). record p.state { index = finite.insert p.state.index key place; caches = h })
          (only_recent new p.state.caches (recents_with p.state.caches.recent key payload.0) old),
    )
