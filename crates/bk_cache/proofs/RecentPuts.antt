-- Insertion into the table of recent entries; `f` returns the bytes of a payload.
use Rattle.std.proofs.Common.{◌≡◌, ℕ, ◌-◌, Bool, true, false, cond, List, [], ◌∷◌, take, Option, Some, None, option_map, is_some, Result, Ok, Err, IsOk, OnOk}
use Rattle.std.proofs.Common.{OnErr, IsSome, ◌⊎◌, inl, inr, refl, sym, ap, ◌∙◌}
use Rattle.std.specs.Option.{option_map_or}
use Rattle.std.specs.Map.{lookup, lookup_entry, remove_entry}
use Rattle.std.proofs.lemmas.Bool.{and_parts, eqb-true, false≢true}
use Rattle.std.proofs.lemmas.List.{take-map}
use Rattle.std.proofs.lemmas.Map.Made.{lookup-map_values}
use Rattle.lru.specs.LruCache.{LruCache, lru_cache, put_entries}
use Rattle.lru.proofs.CallerLemmas.{Contains-lookup_entry}
use Rattle.lru.proofs.Pairs.{lookup-lookup_entry}
use Rattle.bk_record.specs.Key.{EntryKey}
use Rattle.bk_cache.specs.Recents.{Recents, same_key, recent_of, recents_with}
use Rattle.bk_cache.proofs.Seen.{seen}
use Rattle.bk_cache.proofs.Options.{is_some-option_map}

-- keys that compare as equal are equal
pub same_key_exact : (a b : EntryKey) → same_key a b ≡ true → a ≡ b
same_key_exact a b same =
    let parts = and_parts _ _ same in
    let ledger : a.ledger ≡ b.ledger = eqb-true a.ledger b.ledger parts.0 in
    let entry : a.entry ≡ b.entry = eqb-true a.entry b.entry parts.1 in
    λ i. record { ledger = ledger i; entry = entry i }

module _ {K X Y : Type 0} (f : X → Y) where
  remove_entry-seen : (test : K → Bool) (es : List (K × X)) → remove_entry test (seen f es) ≡ seen f (remove_entry test es)
  remove_entry-seen test [] = refl
  remove_entry-seen test (e ∷ es) =
      elim (test e.0) as (λ b. cond b (seen f es) ((e.0, f e.1) ∷ remove_entry test (seen f es)) ≡ seen f (cond b es (e ∷ remove_entry test es))) [
        | true ↦ refl
        | false ↦ ap (λ rest. (e.0, f e.1) ∷ rest) (remove_entry-seen test es)
      ]

module _ {X : Type 0} (f : X → List ℕ) (c : LruCache EntryKey X) (key : EntryKey) (payload : X) where
  -- the table after an insertion represents the new recent entries
  pub put-seen_recents : seen f (put_entries same_key c key payload)
      ≡ (recents_with (record { entries = seen f c.entries; most = c.cap }) key (f payload)).entries
  put-seen_recents = put (lookup_entry (same_key key) c.entries) refl
    where
      put : (o : Option (EntryKey × X)) → lookup_entry (same_key key) c.entries ≡ o
          → seen f (put_entries same_key c key payload) ≡ (recents_with (record { entries = seen f c.entries; most = c.cap }) key (f payload)).entries
      put None none =
          let lacks = lookup-map_values f (same_key key) c.entries ∙ ap (option_map f) (sym (lookup-lookup_entry (same_key key) c.entries))
          ∙ ap (λ o. option_map f (option_map (λ e. e.1) o)) none in
          ap (λ o. seen f (option_map_or (λ e. (e.0, payload) ∷ remove_entry (same_key key) c.entries) o ((key, payload) ∷ take (c.cap - 1) c.entries))) none
          ∙ ap (λ es. (key, f payload) ∷ es) (sym (take-map (λ e. (e.0, f e.1)) (c.cap - 1) c.entries))
          ∙ ap (λ o. (key, f payload) ∷ cond (is_some o) (remove_entry (same_key key) (seen f c.entries)) (take (c.cap - 1) (seen f c.entries))) (sym lacks)
      put (Some e) held =
          let has = lookup-map_values f (same_key key) c.entries ∙ ap (option_map f) (sym (lookup-lookup_entry (same_key key) c.entries))
          ∙ ap (λ o. option_map f (option_map (λ e. e.1) o)) held in
          let named = same_key_exact key e.0 (Contains-lookup_entry (same_key key) c.entries e held).1 in
          ap (λ o. seen f (option_map_or (λ e. (e.0, payload) ∷ remove_entry (same_key key) c.entries) o ((key, payload) ∷ take (c.cap - 1) c.entries))) held
          ∙ ap (λ (k : EntryKey). (k, f payload) ∷ seen f (remove_entry (same_key key) c.entries)) (sym named)
          ∙ ap (λ es. (key, f payload) ∷ es) (sym (remove_entry-seen f (same_key key) c.entries))
          ∙ ap (λ o. (key, f payload) ∷ cond (is_some o) (remove_entry (same_key key) (seen f c.entries)) (take (c.cap - 1) (seen f c.entries))) (sym has)

  table-put : (now : Recents) → record { entries = seen f c.entries; most = c.cap } ≡ now → (new : LruCache EntryKey X)
      → new ≡ lru_cache (put_entries same_key c key payload) c.cap → record { entries = seen f new.entries; most = new.cap } ≡ recents_with now key (f payload)
  table-put now seen_now new put =
      ap (λ (d : LruCache EntryKey X). record { entries = seen f d.entries; most = d.cap }) put
      ∙ ap (λ es. record { entries = es; most = c.cap }) put-seen_recents ∙ ap (λ r. recents_with r key (f payload)) seen_now

  -- recent entries after an insertion that may have failed
  pub put-or_same : (now : Recents) → record { entries = seen f c.entries; most = c.cap } ≡ now
      → (new : LruCache EntryKey X) {E : Type 0} {B : Type 0} (answer : Result B E)
      → OnOk answer (new ≡ lru_cache (put_entries same_key c key payload) c.cap) → OnErr answer (new ≡ c)
      → (record { entries = seen f new.entries; most = new.cap } ≡ now) ⊎
      (record { entries = seen f new.entries; most = new.cap } ≡ recents_with now key (f payload))
  put-or_same now seen_now new (Ok _) put same = inr (table-put now seen_now new put)
  put-or_same now seen_now new (Err _) put same = inl (ap (λ (d : LruCache EntryKey X). record { entries = seen f d.entries; most = d.cap }) same ∙ seen_now)

  -- an existing key is always renewed
  pub put-renews : (now : Recents) → record { entries = seen f c.entries; most = c.cap } ≡ now
      → (new : LruCache EntryKey X) {E : Type 0} {B : Type 0} (answer : Result B E)
      → OnOk answer (new ≡ lru_cache (put_entries same_key c key payload) c.cap) → (IsSome (lookup (same_key key) c.entries) → IsOk answer)
      → IsSome (recent_of now key) → record { entries = seen f new.entries; most = new.cap } ≡ recents_with now key (f payload)
  put-renews now seen_now new (Ok _) put succeeds held = table-put now seen_now new put
  put-renews now seen_now new (Err _) put succeeds held =
      absurd (false≢true (succeeds (sym (is_some-option_map f (lookup (same_key key) c.entries))
      ∙ ap is_some (sym (lookup-map_values f (same_key key) c.entries)) ∙ ap (λ r. is_some (recent_of r key)) seen_now ∙ held)))
