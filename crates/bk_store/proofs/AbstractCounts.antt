-- A ledger has as many keys in the abstract map as a store counts: those of the write caches, and
-- those of the index alone.
use Rattle.std.proofs.Common.{◌≡◌, ℕ, zero, suc, ◌+◌, ◌-◌, ◌==◌, ◌&&◌, ◌||◌, Bool, true, false, cond, not, eqb, List, [], ◌∷◌, length}
use Rattle.std.proofs.Common.{inl, Some, None, is_some, refl, sym, ap, subst, ◌∙◌, arith}
use Rattle.std.specs.Option.{option_or}
use Rattle.std.specs.List.{filter, count_by}
use Rattle.std.specs.FinMap as finite
use Rattle.std.proofs.lemmas.List.Sums.{sum_by-cons}
use Rattle.bk_record.specs.Key.{EntryKey, key_cmp}
use Rattle.std.specs.Ordering.{eq_by_cmp}
use Rattle.bk_record.specs.Files.{file_of, In}
use Rattle.bk_record.specs.Scan.{Payloads}
use Rattle.bk_record.specs.Keyed.{Keyed, ledger_count, Places}
use Rattle.bk_record.proofs.Keys.{key_cmp_total, key_cmp_antisymmetric}
use Rattle.bk_record.proofs.Entries.{In-get}
use Rattle.bk_record.proofs.SortedMaps.{entries-retain_keys}
use Rattle.bk_record.proofs.Weights.{weight-retain_keys}
use Rattle.bk_record.proofs.KeyedCounts.{ledger_count-remove, ledger_count-union, ledger_count-of_empty}
use Rattle.bk_cache.specs.Caches as caches
use Rattle.bk_store.specs.Representation.{Represents}
use Rattle.bk_store.specs.State.{State}
use Rattle.bk_store.specs.Contents.{written_at}
use Rattle.bk_store.specs.Transitions.{held_count}
use Rattle.bk_store.proofs.Cases.{some_value}
use Rattle.bk_store.proofs.RepresentedContents.{held_exactly}

-- ---- maps with the same keys

module _ {X : Type 0} where
  -- a map that has a length has a key
  a_key : (m : Keyed X) (size : ℕ) → finite.len m ≡ suc size → (key : EntryKey) × ((v : X) × (finite.get m key ≡ Some v))
  a_key m size long = elim (finite.entries m)
      as (λ es. finite.entries m ≡ es → (key : EntryKey) × ((v : X) × (finite.get m key ≡ Some v))) [
        | [] ↦ λ none. absurd (let wrong : suc size ≡ 0 = sym long ∙ finite.len-entries m ∙ ap length none in cc)
        | e ∷ es ↦ λ is. (e.0, (e.1, In-get key_cmp_total key_cmp_antisymmetric m e.0 e.1 (subst (λ l. In (e.0, e.1) l) (sym is) (inl refl))))
      ] refl

  no_key : (m : Keyed X) → ((key : EntryKey) → is_some (finite.get m key) ≡ false) → m ≡ finite.empty
  no_key m none = finite.same_map key_cmp_total key_cmp_antisymmetric m finite.empty (λ key.
      elim (finite.get m key) as (λ o. is_some o ≡ false → o ≡ finite.get (finite.empty {X = X} {R = key_cmp}) key) [
        | None ↦ λ _. sym (finite.get-empty key_cmp key)
        | Some v ↦ λ wrong. cc
      ] (none key))

  left_of : (m : Keyed X) (key : EntryKey) (q : EntryKey) (there : Bool) → is_some (finite.get m q) ≡ there
      → is_some (finite.get (finite.remove m key) q) ≡ cond (eq_by_cmp key_cmp q key) false there
  left_of m key q there is = ap is_some (finite.get-remove key_cmp_total m key q) ∙ elim (eq_by_cmp key_cmp q key)
      as (λ b. is_some (cond b None (finite.get m q)) ≡ cond b false there) [ true ↦ refl | false ↦ is ]

  shorter : (m : Keyed X) (key : EntryKey) (v : X) (size : ℕ) → finite.get m key ≡ Some v → finite.len m ≡ suc size → finite.len (finite.remove m key) ≡ size
  shorter m key v size is long =
      omega (arith, long, finite.len-remove key_cmp_total m key ∙ ap (λ b. cond b (finite.len m - 1) (finite.len m)) (ap is_some is))

module _ {X Y : Type 0} where
  same_count : (size : ℕ) (m : Keyed X) (n : Keyed Y) (ledger : ℕ) → finite.len m ≡ size
      → ((key : EntryKey) → is_some (finite.get m key) ≡ is_some (finite.get n key)) → ledger_count m ledger ≡ ledger_count n ledger
  same_count zero m n ledger none same =
      let gone : m ≡ finite.empty = finite.empty_of_len m none in
      let also : n ≡ finite.empty = no_key n (λ key. sym (same key) ∙ ap (λ l. is_some (finite.get l key)) gone ∙ ap is_some (finite.get-empty key_cmp key)) in
      ledger_count-of_empty m ledger gone ∙ sym (ledger_count-of_empty n ledger also)
  same_count (suc size) m n ledger long same =
      let first = a_key m size long in
      let other = some_value (finite.get n first.0) (sym (same first.0) ∙ ap is_some first.1.1) in
      let rest = same_count size (finite.remove m first.0) (finite.remove n first.0) ledger (shorter m first.0 first.1.0 size first.1.1 long)
      (λ key. left_of m first.0 key _ (same key) ∙ sym (left_of n first.0 key _ refl)) in
      omega (arith, rest, ledger_count-remove m first.0 first.1.0 ledger first.1.1, ledger_count-remove n first.0 other.0 ledger other.1)

-- ---- what a store counts

count_filtered : {A : Type 0} (p q : A → Bool) (es : List A) → count_by q (filter p es) ≡ count_by (λ e. q e && p e) es
count_filtered p q [] = refl
count_filtered p q (e ∷ es) =
    elim (p e) as (λ b. count_by q (cond b (e ∷ filter p es) (filter p es)) ≡ cond (q e && b) 1 0 + count_by (λ x. q x && p x) es) [
      | true ↦ omega (arith, sum_by-cons (λ x. cond (q x) 1 0) e (filter p es), count_filtered p q es, ap {B = ℕ} (λ b. cond b 1 0) (and_true (q e)))
      | false ↦ omega (arith, count_filtered p q es, ap {B = ℕ} (λ b. cond b 1 0) (and_false (q e)))
    ] ∙ sym (sum_by-cons (λ x. cond (q x && p x) 1 0) e es)
  where
    and_true : (b : Bool) → (b && true) ≡ b
    and_true true = refl
    and_true false = refl

    and_false : (b : Bool) → (b && false) ≡ false
    and_false true = refl
    and_false false = refl

module _ (s : State) (map : Payloads) (carries : Represents (file_of s.files) s.index (written_at s) s.ledgers.dead map) (ledger : ℕ)
    (apart : caches.AreApart s.caches) where
  abbrev written : EntryKey → Bool
  written key = is_some (written_at s key)

  abbrev cached : Payloads
  cached = finite.retain_keys map written

  abbrev uncached : Payloads
  uncached = finite.retain_keys map (λ key. not (written key))

  abbrev alone : Places
  alone = finite.retain_keys s.index (λ key. not (written key))

  retained : {X : Type 0} (m : Keyed X) (p : EntryKey → Bool) (key : EntryKey) → finite.get (finite.retain_keys m p) key ≡ cond (p key) (finite.get m key) None
  retained m p key = finite.get-retain_keys m p key (λ x tied. ap p (sym (key_cmp_antisymmetric key x tied)))

  cached_is : (key : EntryKey) → finite.get cached key ≡ option_or (finite.get s.caches.active key) (finite.get (caches.flush_of s.caches) key)
  cached_is key = retained map written key ∙ elim (written_at s key) as (λ o. written_at s key ≡ o → cond (is_some o) (finite.get map key) None ≡ o) [
    | None ↦ λ _. refl
    | Some payload ↦ λ is. carries.cached_is key payload is
  ] refl

  same_keys : (key : EntryKey) → is_some (finite.get uncached key) ≡ is_some (finite.get alone key)
  same_keys key =
      ap is_some (retained map (λ k. not (written k)) key)
      ∙ elim (written_at s key) as (λ o. is_some (finite.get map key) ≡ (is_some o || is_some (finite.get s.index key))
      → is_some (cond (not (is_some o)) (finite.get map key) None) ≡ is_some (cond (not (is_some o)) (finite.get s.index key) None)) [
        | None ↦ λ held. held
        | Some payload ↦ λ _. refl
      ] (held_exactly carries key)
      ∙ sym (ap is_some (retained s.index (λ k. not (written k)) key))

  -- the third part of what is counted
  alone_count : ledger_count alone ledger ≡ count_by (λ e. (e.0.ledger == ledger) && not (is_some (written_at s e.0))) (finite.entries s.index)
  alone_count =
      ap (count_by (λ e. e.0.ledger == ledger)) (entries-retain_keys key_cmp_total key_cmp_antisymmetric s.index (λ k. not (written k)))
      ∙ count_filtered (λ e. not (written e.0)) (λ e. e.0.ledger == ledger) (finite.entries s.index)

  pub held_is_mapped : held_count s ledger ≡ ledger_count map ledger
  held_is_mapped =
      omega (
        arith,
        alone_count,
        same_count (finite.len uncached) uncached alone ledger refl same_keys,
        ledger_count-union cached (caches.flush_of s.caches) s.caches.active ledger cached_is apart,
        weight-retain_keys key_cmp_total key_cmp_antisymmetric (λ e. cond (eqb e.0.ledger ledger) 1 0) map written (λ k. not (written k)) (λ k. refl),
      )
