-- The set of the recent entries' keys, after each change of the table and of the set.
use Rattle.std.proofs.Common.{◌≡◌, ℕ, zero, suc, ◌-◌, ◌<◌, ◌≤◌, Bool, true, false, cond, not, ◌==◌, ◌&&◌, List, [], ◌∷◌, take, Option, Some, None, IfSome, IsSome}
use Rattle.std.proofs.Common.{option_map, is_some, slice_get, nat_cmp, refl, sym, ap, subst, ◌∙◌, arith}
use Rattle.std.specs.declared.cmp.Ordering.{Ordering}
use Rattle.std.specs.declared.cmp.Ordering.TheVariants.{Less, Equal, Greater}
use Rattle.std.specs.declared.ops.Bound.TheVariants.{Included, Unbounded}
use Rattle.std.specs.Ordering.{ordering_then, is_eq, is_gt}
use Rattle.std.specs.Cmp.{nat_cmp_total, tied_itself, unsigned_tied}
use Rattle.std.specs.List.{AllByRecursion, IsDistinct, filter, list_any}
use Rattle.std.specs.Option.{option_map_or}
use Rattle.std.specs.Map.{keys_of, lookup, lookup_entry, remove_entry}
use Rattle.std.specs.BTreeMap.{is_at}
use Rattle.std.specs.BTreeMap.Range.{IsLeBy}
use Rattle.std.specs.BTreeSet.{BTreeSet, contains, Updates, IsKeyInRange, IsKeyRangeOf}
use Rattle.std.proofs.lemmas.Bool.{and_parts, eqb-true, eq-eqb, false≢true, false_from_ne_true}
use Rattle.std.proofs.lemmas.Cmp.{ranked}
use Rattle.std.proofs.lemmas.Map.Keys.{IsDistinct-head, IsDistinct-tail}
use Rattle.std.proofs.lemmas.Map.Made.{lookup-map_values}
use Rattle.lru.specs.LruCache.{LruCache, lru_cache, displaced, put_entries}
use Rattle.lru.proofs.CallerLemmas.{Contains-lookup_entry}
use Rattle.lru.proofs.Pairs.{lookup-lookup_entry}
use Rattle.bk_record.specs.Key.{EntryKey}
use Rattle.bk_record.proofs.SortedPairs.{Some-same}
use Rattle.bk_cache.specs.Recents.{Recents, same_key, recent_of, without_recent, pair_cmp, AreListedRecents}
use Rattle.bk_cache.proofs.Options.{is_some-option_map}
use Rattle.bk_cache.proofs.Seen.{seen, filter-seen}
use Rattle.bk_cache.proofs.RecentPuts.{same_key_exact}

-- ---- the order of pairs

both_eq : (r s : Ordering) → is_eq (ordering_then r s) ≡ (is_eq r && is_eq s)
both_eq Less s = refl
both_eq Equal s = refl
both_eq Greater s = refl

tied_is : (a b : ℕ × ℕ) → is_eq (pair_cmp a b) ≡ true → a ≡ b
tied_is a b tied =
    let parts = and_parts _ _ (sym (both_eq (nat_cmp a.0 b.0) (nat_cmp a.1 b.1)) ∙ tied) in
    let ledger : a.0 ≡ b.0 = eqb-true a.0 b.0 (sym (unsigned_tied a.0 b.0) ∙ parts.0) in
    let entry : a.1 ≡ b.1 = eqb-true a.1 b.1 (sym (unsigned_tied a.1 b.1) ∙ parts.1) in
    λ i. (ledger i, entry i)

tied_pair : (a : ℕ × ℕ) → is_eq (pair_cmp a a) ≡ true
tied_pair a = ap (λ r. is_eq (ordering_then r (nat_cmp a.1 a.1))) (tied_itself nat_cmp_total a.0) ∙ ap is_eq (tied_itself nat_cmp_total a.1)

-- no pair of a ledger is before its least one
from_least : (ledger entry : ℕ) → is_gt (pair_cmp (ledger, 0) (ledger, entry)) ≡ false
from_least ledger entry =
    ap (λ r. is_gt (ordering_then r (nat_cmp 0 entry))) (tied_itself nat_cmp_total ledger)
    ∙ elim (nat_cmp 0 entry) as (λ r. r ≡ nat_cmp 0 entry → is_gt r ≡ false) [
      | Less ↦ λ _. refl
      | Equal ↦ λ _. refl
      | Greater ↦ λ past. let below : entry < 0 = ranked 0 entry Greater past in absurd (omega arith)
    ] refl

-- of two pairs in order the first has no greater ledger
ledger-le : (a b : ℕ × ℕ) → is_gt (pair_cmp a b) ≡ false → a.0 ≤ b.0
ledger-le a b in_order =
    elim (nat_cmp a.0 b.0) as (λ r. r ≡ nat_cmp a.0 b.0 → is_gt (ordering_then r (nat_cmp a.1 b.1)) ≡ false → a.0 ≤ b.0) [
      | Less ↦ λ is _. let below : a.0 < b.0 = ranked a.0 b.0 Less is in omega arith
      | Equal ↦ λ is _. let same : a.0 ≡ b.0 = ranked a.0 b.0 Equal is in omega arith
      | Greater ↦ λ _ past. absurd (false≢true (sym past))
    ] refl in_order

-- the pairs from the least one of a ledger on
module _ (pairs : BTreeSet (ℕ × ℕ)) (found : List (ℕ × ℕ)) (ledger : ℕ) (range : IsKeyRangeOf pair_cmp (Included (ledger, 0)) Unbounded pairs found) where
  -- if there is none, the ledger has none
  pub none_first : found ≡ [] → (entry : ℕ) → contains pair_cmp pairs (ledger, entry) ≡ false
  none_first none entry = range.5 none (ledger, entry) (from_least ledger entry, tt)

  -- if the first is of another ledger, this ledger has none
  pub other_first : (first : ℕ × ℕ) → slice_get found 0 ≡ Some first → (first.0 ≡ ledger → ⊥) → (entry : ℕ) → contains pair_cmp pairs (ledger, entry) ≡ false
  other_first first at other entry = false_from_ne_true _ (λ there.
      let low : IsKeyInRange pair_cmp (Included (ledger, 0)) Unbounded pairs first =
      subst (λ o. IfSome o (IsKeyInRange pair_cmp (Included (ledger, 0)) Unbounded pairs)) at range.1 in
      let high : IsLeBy pair_cmp first (ledger, entry) =
      subst (λ o. IfSome o (λ k. IsLeBy pair_cmp k (ledger, entry))) at (range.2 (ledger, entry) (from_least ledger entry, tt) there) in
      let above : ledger ≤ first.0 = ledger-le (ledger, 0) first low.0.0 in
      let below : first.0 ≤ ledger = ledger-le first (ledger, entry) high in
      other (omega (arith, above, below)))

-- ---- adding or removing one pair

module _ (pairs new : BTreeSet (ℕ × ℕ)) (pair : ℕ × ℕ) where
  pub comes_itself : Updates pair_cmp pairs new pair true → contains pair_cmp new pair ≡ true
  comes_itself comes = comes.0 pair ∙ ap (λ b. cond b true (contains pair_cmp pairs pair)) (tied_pair pair)

  pub comes_others : Updates pair_cmp pairs new pair true → (q : ℕ × ℕ) → contains pair_cmp pairs q ≡ true → contains pair_cmp new q ≡ true
  comes_others comes q there =
      comes.0 q ∙ elim (is_eq (pair_cmp pair q)) as (λ b. cond b true (contains pair_cmp pairs q) ≡ true) [ true ↦ refl | false ↦ there ]

  pub goes_others : Updates pair_cmp pairs new pair false → (q : ℕ × ℕ) → (pair ≡ q → ⊥) → contains pair_cmp pairs q ≡ true
      → contains pair_cmp new q ≡ true
  goes_others goes q other there =
      goes.0 q
      ∙ elim (is_eq (pair_cmp pair q)) as (λ b. is_eq (pair_cmp pair q) ≡ b → cond b false (contains pair_cmp pairs q) ≡ true) [
        | true ↦ λ tied. absurd (other (tied_is pair q tied))
        | false ↦ λ _. there
      ] refl

-- ---- the entries of a list

module _ {A : Type 0} where
  each : (P Q : A → Type 0) → ((a : A) → P a → Q a) → (xs : List A) → AllByRecursion P xs → AllByRecursion Q xs
  each P Q more [] all = tt
  each P Q more (x ∷ xs) all = (more x all.0, each P Q more xs all.1)

  both : (P Q : A → Type 0) → (xs : List A) → AllByRecursion P xs → AllByRecursion Q xs → AllByRecursion (λ x. P x × Q x) xs
  both P Q [] ps qs = tt
  both P Q (x ∷ xs) ps qs = ((ps.0, qs.0), both P Q xs ps.1 qs.1)

  each_take : (P : A → Type 0) (n : ℕ) (xs : List A) → AllByRecursion P xs → AllByRecursion P (take n xs)
  each_take P zero xs all = tt
  each_take P (suc n) [] all = tt
  each_take P (suc n) (x ∷ xs) all = (all.0, each_take P n xs all.1)

module _ {X : Type 0} where
  each_removed : (P : EntryKey × X → Type 0) (test : EntryKey → Bool) (es : List (EntryKey × X)) → AllByRecursion P es
      → AllByRecursion P (remove_entry test es)
  each_removed P test [] all = tt
  each_removed P test (e ∷ es) all =
      elim (test e.0) as (λ b. AllByRecursion P (cond b es (e ∷ remove_entry test es)))
      [ true ↦ all.1 | false ↦ (all.0, each_removed P test es all.1) ]

  of_keys : (P : EntryKey → Type 0) (es : List (EntryKey × X)) → AllByRecursion P (keys_of es) → AllByRecursion (λ e. P e.0) es
  of_keys P [] all = tt
  of_keys P (e ∷ es) all = (all.0, of_keys P es all.1)

  each_at : (P : EntryKey × X → Type 0) (es : List (EntryKey × X)) (n : ℕ) (e : EntryKey × X) → AllByRecursion P es → slice_get es n ≡ Some e → P e
  each_at P [] n e all at = cc
  each_at P (f ∷ es) zero e all at = subst P (Some-same at) all.0
  each_at P (f ∷ es) (suc n) e all at = each_at P es n e all.1 at

  -- keys before a position differ from the one there
  apart_front : (es : List (EntryKey × X)) (n : ℕ) (e : EntryKey × X) → IsDistinct same_key (keys_of es) → slice_get es n ≡ Some e
      → AllByRecursion (λ f. same_key f.0 e.0 ≡ false) (take n es)
  apart_front es zero e distinct at = tt
  apart_front [] (suc n) e distinct at = tt
  apart_front (f ∷ es) (suc n) e distinct at = (
    each_at (λ g. same_key f.0 g.0 ≡ false) es n e
        (of_keys (λ k. same_key f.0 k ≡ false) es (IsDistinct-head same_key f.0 (keys_of es) distinct)) at,
    apart_front es n e (IsDistinct-tail same_key f.0 (keys_of es) distinct) at,
  )

  -- a removed key is not in the list
  removed_apart : (es : List (EntryKey × X)) (key : EntryKey) → IsDistinct same_key (keys_of es)
      → AllByRecursion (λ e. same_key key e.0 ≡ false) (remove_entry (same_key key) es)
  removed_apart [] key distinct = tt
  removed_apart (e ∷ es) key distinct =
      elim (same_key key e.0) as (λ b. same_key key e.0 ≡ b
      → AllByRecursion (λ f. same_key key f.0 ≡ false) (cond b es (e ∷ remove_entry (same_key key) es))) [
        | true ↦ λ same.
            let rest = of_keys (λ k. same_key e.0 k ≡ false) es (IsDistinct-head same_key e.0 (keys_of es) distinct) in
            subst (λ (k : EntryKey). AllByRecursion (λ f. same_key k f.0 ≡ false) es) (sym (same_key_exact key e.0 same)) rest
        | false ↦ λ other. (other, removed_apart es key (IsDistinct-tail same_key e.0 (keys_of es) distinct))
      ] refl

-- ---- entries and their pairs

same_key_is : (a b : EntryKey) → a.ledger ≡ b.ledger → a.entry ≡ b.entry → same_key a b ≡ true
same_key_is a b ledger entry = rw (eq-eqb a.ledger b.ledger ledger, eq-eqb a.entry b.entry entry)

abbrev pub pair_of : EntryKey → ℕ × ℕ
pair_of key = (key.ledger, key.entry)

module _ {X : Type 0} where
  -- an entry that is found has its pair in the set
  pub found_listed : (es : List (EntryKey × X)) (pairs : BTreeSet (ℕ × ℕ)) (key : EntryKey) → AreListedRecents es pairs → IsSome (lookup (same_key key) es)
      → contains pair_cmp pairs (pair_of key) ≡ true
  found_listed [] pairs key listed there = absurd (false≢true there)
  found_listed (e ∷ es) pairs key listed there =
      elim (same_key key e.0) as (λ b. same_key key e.0 ≡ b → IsSome (cond b (Some e.1) (lookup (same_key key) es))
      → contains pair_cmp pairs (pair_of key) ≡ true) [
        | true ↦ λ same _. ap (λ (k : EntryKey). contains pair_cmp pairs (pair_of k)) (same_key_exact key e.0 same) ∙ listed.0
        | false ↦ λ _ rest. found_listed es pairs key listed.1 rest
      ] refl there

  -- adding a pair
  pub listed_more : (es : List (EntryKey × X)) (pairs more : BTreeSet (ℕ × ℕ)) (pair : ℕ × ℕ) → AreListedRecents es pairs
      → Updates pair_cmp pairs more pair true → AreListedRecents es more
  listed_more es pairs more pair listed comes =
      each (λ e. contains pair_cmp pairs (pair_of e.0) ≡ true) (λ e. contains pair_cmp more (pair_of e.0) ≡ true)
      (λ e there. comes_others pairs more pair comes (pair_of e.0) there) es listed

  -- the same pairs
  pub listed_same : (es : List (EntryKey × X)) (pairs new : BTreeSet (ℕ × ℕ)) → AreListedRecents es pairs → new.keys ≡ pairs.keys → AreListedRecents es new
  listed_same es pairs new listed same =
      each (λ e. contains pair_cmp pairs (pair_of e.0) ≡ true) (λ e. contains pair_cmp new (pair_of e.0) ≡ true)
      (λ e there. ap (list_any (is_at (pair_cmp (pair_of e.0)))) same ∙ there) es listed

  -- adding and removing a pair that has no entry
  pub listed_again : (es : List (EntryKey × X)) (pairs more less : BTreeSet (ℕ × ℕ)) (pair : ℕ × ℕ) → AreListedRecents es pairs
      → contains pair_cmp pairs pair ≡ false → Updates pair_cmp pairs more pair true → Updates pair_cmp more less pair false → AreListedRecents es less
  listed_again es pairs more less pair listed absent comes goes =
      each (λ e. contains pair_cmp pairs (pair_of e.0) ≡ true) (λ e. contains pair_cmp less (pair_of e.0) ≡ true)
      (λ e there. goes_others more less pair goes (pair_of e.0)
      (λ same. false≢true (sym absent ∙ ap (contains pair_cmp pairs) same ∙ there)) (comes_others pairs more pair comes (pair_of e.0) there)) es listed

  -- removing an entry and its pair
  pub listed_less : (es : List (EntryKey × X)) (pairs less : BTreeSet (ℕ × ℕ)) (key : EntryKey) → AreListedRecents es pairs
      → IsDistinct same_key (keys_of es) → Updates pair_cmp pairs less (pair_of key) false → AreListedRecents (remove_entry (same_key key) es) less
  listed_less es pairs less key listed distinct goes =
      let there : EntryKey × X → Type 0 = λ e. contains pair_cmp pairs (pair_of e.0) ≡ true in
      let apart : EntryKey × X → Type 0 = λ e. same_key key e.0 ≡ false in
      each (λ e. there e × apart e) (λ e. contains pair_cmp less (pair_of e.0) ≡ true)
      (λ e is. goes_others pairs less (pair_of key) goes (pair_of e.0)
      (λ same. false≢true (sym is.1 ∙ same_key_is key e.0 (ap (λ p. p.0) same) (ap (λ p. p.1) same))) is.0)
      (remove_entry (same_key key) es)
      (both there apart (remove_entry (same_key key) es) (each_removed there (same_key key) es listed) (removed_apart es key distinct))

  -- filtering by a test that a removed key fails
  pub filter_removed : (p : EntryKey → Bool) (key : EntryKey) (es : List (EntryKey × X)) → p key ≡ false
      → filter (λ e. p e.0) (remove_entry (same_key key) es) ≡ filter (λ e. p e.0) es
  filter_removed p key [] goes = refl
  filter_removed p key (e ∷ es) goes =
      elim (same_key key e.0) as (λ b. same_key key e.0 ≡ b → filter (λ e. p e.0) (cond b es (e ∷ remove_entry (same_key key) es))
      ≡ cond (p e.0) (e ∷ filter (λ e. p e.0) es) (filter (λ e. p e.0) es)) [
        | true ↦ λ same.
            sym (ap (λ b. cond b (e ∷ filter (λ e. p e.0) es) (filter (λ e. p e.0) es)) (ap p (sym (same_key_exact key e.0 same)) ∙ goes))
        | false ↦ λ _. ap (λ rest. cond (p e.0) (e ∷ rest) rest) (filter_removed p key es goes)
      ] refl

  -- if a ledger has no pair, it has no entry
  pub none_left : (ledger : ℕ) (es : List (EntryKey × X)) (pairs : BTreeSet (ℕ × ℕ)) → AreListedRecents es pairs
      → ((entry : ℕ) → contains pair_cmp pairs (ledger, entry) ≡ false) → filter (λ e. not (e.0.ledger == ledger)) es ≡ es
  none_left ledger [] pairs listed none = refl
  none_left ledger (e ∷ es) pairs listed none =
      elim (e.0.ledger == ledger) as (λ b. (e.0.ledger == ledger) ≡ b
      → cond (not b) (e ∷ filter (λ e. not (e.0.ledger == ledger)) es) (filter (λ e. not (e.0.ledger == ledger)) es) ≡ e ∷ es) [
        | true ↦ λ own.
            absurd (false≢true (sym (none e.0.entry)
            ∙ ap (λ l. contains pair_cmp pairs (l, e.0.entry)) (sym (eqb-true e.0.ledger ledger own)) ∙ listed.0))
        | false ↦ λ _. ap (λ rest. e ∷ rest) (none_left ledger es pairs listed.1 none)
      ] refl

  module _ (c : LruCache EntryKey X) (key : EntryKey) (payload : X) (more : BTreeSet (ℕ × ℕ)) (listed : AreListedRecents c.entries more)
      (there : contains pair_cmp more (pair_of key) ≡ true) where
    -- inserting an entry and its pair
    pub listed_put : AreListedRecents (put_entries same_key c key payload) more
    listed_put = put (lookup_entry (same_key key) c.entries) refl
      where
        put : (o : Option (EntryKey × X)) → lookup_entry (same_key key) c.entries ≡ o
            → AreListedRecents (option_map_or (λ e. (e.0, payload) ∷ remove_entry (same_key key) c.entries) o ((key, payload) ∷ take (c.cap - 1) c.entries)) more
        put None none = (there, each_take (λ e. contains pair_cmp more (pair_of e.0) ≡ true) (c.cap - 1) c.entries listed)
        put (Some e) held =
            let named = same_key_exact key e.0 (Contains-lookup_entry (same_key key) c.entries e held).1 in (
              subst (λ (k : EntryKey). contains pair_cmp more (pair_of k) ≡ true) named there,
              each_removed (λ e. contains pair_cmp more (pair_of e.0) ≡ true) (same_key key) c.entries listed,
            )

    pub listed_in : (new : LruCache EntryKey X) → new ≡ lru_cache (put_entries same_key c key payload) c.cap → AreListedRecents new.entries more
    listed_in new is = subst (λ (t : LruCache EntryKey X). AreListedRecents t.entries more) (sym is) listed_put

    -- if another entry was evicted, its pair can be removed
    module _ (less : BTreeSet (ℕ × ℕ)) (distinct : IsDistinct same_key (keys_of c.entries)) (gone : EntryKey × X)
        (went : displaced same_key c key payload ≡ Some gone)
        (stay : (pair : ℕ × ℕ) → (pair.0 ≡ gone.0.ledger → pair.1 ≡ gone.0.entry → pair ≡ pair_of key) → contains pair_cmp more pair ≡ true
        → contains pair_cmp less pair ≡ true) where
      pub listed_pushed : AreListedRecents (put_entries same_key c key payload) less
      listed_pushed = pushed (lookup_entry (same_key key) c.entries) refl
        where
          pushed : (o : Option (EntryKey × X)) → lookup_entry (same_key key) c.entries ≡ o
              → AreListedRecents (option_map_or (λ e. (e.0, payload) ∷ remove_entry (same_key key) c.entries) o ((key, payload) ∷ take (c.cap - 1) c.entries)) less
          pushed None none =
              let lacks : lookup (same_key key) c.entries ≡ None =
              sym (lookup-lookup_entry (same_key key) c.entries) ∙ ap (option_map (λ (e : EntryKey × X). e.1)) none in
              let last : slice_get c.entries (c.cap - 1) ≡ Some gone =
              ap (λ o. option_map_or (λ old. Some (key, old)) o (slice_get c.entries (c.cap - 1))) (sym lacks) ∙ went in
              let held : EntryKey × X → Type 0 = λ e. contains pair_cmp more (pair_of e.0) ≡ true in
              let apart : EntryKey × X → Type 0 = λ e. same_key e.0 gone.0 ≡ false in (
                stay (pair_of key) (λ _ _. refl) there,
                each (λ e. held e × apart e) (λ e. contains pair_cmp less (pair_of e.0) ≡ true)
                    (λ e is. stay (pair_of e.0) (λ ledger entry. absurd (false≢true (sym is.1 ∙ same_key_is e.0 gone.0 ledger entry))) is.0)
                    (take (c.cap - 1) c.entries)
                    (both held apart (take (c.cap - 1) c.entries) (each_take held (c.cap - 1) c.entries listed)
                    (apart_front c.entries (c.cap - 1) gone distinct last)),
              )
          pushed (Some e) found =
              let has : lookup (same_key key) c.entries ≡ Some e.1 =
              sym (lookup-lookup_entry (same_key key) c.entries) ∙ ap (option_map (λ (e : EntryKey × X). e.1)) found in
              let own : key ≡ gone.0 = ap (λ (e : EntryKey × X). e.0) (Some-same
              (ap (λ o. option_map_or (λ old. Some (key, old)) o (slice_get c.entries (c.cap - 1))) (sym has) ∙ went)) in
              let named = same_key_exact key e.0 (Contains-lookup_entry (same_key key) c.entries e found).1 in
              let all : (pair : ℕ × ℕ) → contains pair_cmp more pair ≡ true → contains pair_cmp less pair ≡ true = λ pair.
              stay pair (λ ledger entry.
              let first : pair.0 ≡ key.ledger = ledger ∙ ap (λ (k : EntryKey). k.ledger) (sym own) in
              let second : pair.1 ≡ key.entry = entry ∙ ap (λ (k : EntryKey). k.entry) (sym own) in
              λ i. (first i, second i)) in (
                all (pair_of e.0) (subst (λ (k : EntryKey). contains pair_cmp more (pair_of k) ≡ true) named there),
                each (λ f. contains pair_cmp more (pair_of f.0) ≡ true) (λ f. contains pair_cmp less (pair_of f.0) ≡ true)
                    (λ f. all (pair_of f.0)) (remove_entry (same_key key) c.entries)
                    (each_removed (λ f. contains pair_cmp more (pair_of f.0) ≡ true) (same_key key) c.entries listed),
              )

      pub listed_pushed_in : (new : LruCache EntryKey X) → new ≡ lru_cache (put_entries same_key c key payload) c.cap → AreListedRecents new.entries less
      listed_pushed_in new is = subst (λ (t : LruCache EntryKey X). AreListedRecents t.entries less) (sym is) listed_pushed

-- one entry of a ledger and its pair were removed
module _ {X : Type 0} (initial old new : LruCache EntryKey X) (pairs less : BTreeSet (ℕ × ℕ)) (ledger entry : ℕ) where
  pub one_dropped : new ≡ lru_cache (remove_entry (same_key (record { ledger = ledger; entry = entry })) old.entries) old.cap
      → IsDistinct same_key (keys_of old.entries) → Updates pair_cmp pairs less (ledger, entry) false → AreListedRecents old.entries pairs
      → filter (λ e. not (e.0.ledger == ledger)) old.entries ≡ filter (λ e. not (e.0.ledger == ledger)) initial.entries → old.cap ≡ initial.cap
      → AreListedRecents new.entries less × (filter (λ e. not (e.0.ledger == ledger)) new.entries ≡ filter (λ e. not (e.0.ledger == ledger)) initial.entries)
      × (new.cap ≡ initial.cap)
  one_dropped is distinct goes listed same cap =
      let key : EntryKey = record { ledger = ledger; entry = entry } in (
        subst (λ (t : LruCache EntryKey X). AreListedRecents t.entries less) (sym is) (listed_less old.entries pairs less key listed distinct goes),
        ap (λ (t : LruCache EntryKey X). filter (λ e. not (e.0.ledger == ledger)) t.entries) is
            ∙ filter_removed (λ k. not (k.ledger == ledger)) key old.entries (ap not (eq-eqb ledger ledger refl)) ∙ same,
        ap (λ (t : LruCache EntryKey X). t.cap) is ∙ cap,
      )

-- all entries of a ledger were removed; `f` returns the bytes of a payload
pub all_dropped : {X : Type 0} (f : X → List ℕ) (initial last : LruCache EntryKey X) (now : Recents) (ledger : ℕ)
    → record { entries = seen f initial.entries; most = initial.cap } ≡ now → filter (λ e. not (e.0.ledger == ledger)) last.entries ≡ last.entries
    → filter (λ e. not (e.0.ledger == ledger)) last.entries ≡ filter (λ e. not (e.0.ledger == ledger)) initial.entries → last.cap ≡ initial.cap
    → record { entries = seen f last.entries; most = last.cap } ≡ without_recent now ledger
all_dropped f initial last now ledger seen_now stays same cap =
    let left = sym stays ∙ same in
    (λ i. record { entries = seen f (left i); most = cap i })
    ∙ ap (λ es. record { entries = es; most = initial.cap }) (sym (filter-seen f (λ key. not (key.ledger == ledger)) initial.entries))
    ∙ ap (λ r. without_recent r ledger) seen_now

-- a recent entry has its pair; `f` returns the bytes of a payload
pub recent_listed : {X : Type 0} (f : X → List ℕ) (c : LruCache EntryKey X) (pairs : BTreeSet (ℕ × ℕ)) (key : EntryKey) (now : Recents)
    → record { entries = seen f c.entries; most = c.cap } ≡ now → AreListedRecents c.entries pairs → IsSome (recent_of now key)
    → contains pair_cmp pairs (pair_of key) ≡ true
recent_listed f c pairs key now seen_now listed held =
    found_listed c.entries pairs key listed (sym (is_some-option_map f (lookup (same_key key) c.entries))
    ∙ ap is_some (sym (lookup-map_values f (same_key key) c.entries)) ∙ ap (λ r. is_some (recent_of r key)) seen_now ∙ held)
