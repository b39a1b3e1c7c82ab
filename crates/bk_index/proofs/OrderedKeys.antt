-- The first and the last of sorted pairs that pass a test are those of the least and the greatest
-- key that the map has there.
use Rattle.std.proofs.Common.{◌≡◌, ◌⊎◌, inl, inr, ℕ, zero, suc, ◌-◌, ◌<◌, ◌≤◌, Bool, true, false, cond, not, leb, List, [], ◌∷◌, length, Option, Some, None, IsSome, is_some, slice_get, option_map}
use Rattle.std.proofs.Common.{refl, sym, ap, subst, ◌∙◌, arith}
use mathlib.Core.Bool.{false≢true}
use Rattle.std.specs.declared.cmp.Ordering.TheVariants.{Less, Equal, Greater}
use Rattle.std.specs.Ordering.{nat_cmp, ordering_then, eq_by_cmp, is_lt}
use Rattle.std.specs.Bool.{IsTrue}
use Rattle.std.specs.Cmp.{Equal-is, tied_itself}
use Rattle.std.specs.List.{AllByRecursion, filter}
use Rattle.std.specs.FinMap.{FinMap, find, is_sorted, from_sorted}
use Rattle.std.specs.FinMap as finite
use Rattle.std.proofs.lemmas.Bool.{leb-true, le-leb}
use Rattle.std.proofs.lemmas.Cmp.{ranked}
use Rattle.bk_record.specs.Key.{EntryKey, key_cmp}
use Rattle.bk_record.proofs.Keys.{key_cmp_total, key_cmp_antisymmetric}
use Rattle.bk_record.proofs.SortedPairs.{Some-same}
use Rattle.bk_index.specs.Pages.{all_pairs}
use Rattle.bk_index.proofs.CountedPages.{get_seen}
use Rattle.bk_index.proofs.CutPairs.{each_weaker, head_below, sorted_back}

-- ---- the order of keys

-- a key of a smaller ledger, or an entry of the ledger up to another one
abbrev pub IsUpTo : EntryKey → EntryKey → Type 0
IsUpTo a b = (a.ledger < b.ledger) ⊎ ((a.ledger ≡ b.ledger) × (a.entry ≤ b.entry))

less_upto : (a b : EntryKey) → key_cmp a b ≡ Less → IsUpTo a b
less_upto a b =
    elim (nat_cmp a.ledger b.ledger) as (λ r. r ≡ nat_cmp a.ledger b.ledger → ordering_then r (nat_cmp a.entry b.entry) ≡ Less → IsUpTo a b) [
      | Less ↦ λ is _. let below : a.ledger < b.ledger = ranked a.ledger b.ledger Less is in inl below
      | Equal ↦ λ is rest.
          let same : a.ledger ≡ b.ledger = ranked a.ledger b.ledger Equal is in
          let under : a.entry < b.entry = ranked a.entry b.entry Less (sym rest) in
          inr (same, omega arith)
      | Greater ↦ λ _ none. cc
    ] refl

pub not_before : (a b : EntryKey) → is_lt (key_cmp a b) ≡ false → IsUpTo b a
not_before a b =
    elim (nat_cmp a.ledger b.ledger) as (λ r. r ≡ nat_cmp a.ledger b.ledger → is_lt (ordering_then r (nat_cmp a.entry b.entry)) ≡ false → IsUpTo b a) [
      | Less ↦ λ _ none. absurd (false≢true (sym none))
      | Equal ↦ λ is.
          let same : a.ledger ≡ b.ledger = ranked a.ledger b.ledger Equal is in
          elim (nat_cmp a.entry b.entry) as (λ r. r ≡ nat_cmp a.entry b.entry → is_lt r ≡ false → IsUpTo b a) [
            | Less ↦ λ _ none. absurd (false≢true (sym none))
            | Equal ↦ λ at _. let equal : a.entry ≡ b.entry = ranked a.entry b.entry Equal at in inr (sym same, omega arith)
            | Greater ↦ λ at _. let above : b.entry < a.entry = ranked a.entry b.entry Greater at in inr (sym same, omega arith)
          ] refl
      | Greater ↦ λ is _. let above : b.ledger < a.ledger = ranked a.ledger b.ledger Greater is in inl above
    ] refl

pub less_of : (a b : EntryKey) → is_lt (key_cmp a b) ≡ true → key_cmp a b ≡ Less
less_of a b = elim (key_cmp a b) as (λ r. is_lt r ≡ true → r ≡ Less) [
  | Less ↦ λ _. refl
  | Equal ↦ λ none. absurd (false≢true none)
  | Greater ↦ λ none. absurd (false≢true none)
]

strictly : (a b : EntryKey) → a.ledger ≡ b.ledger → key_cmp a b ≡ Less → b.entry ≤ a.entry → ⊥
strictly a b same =
    elim (nat_cmp a.ledger b.ledger) as (λ r. r ≡ nat_cmp a.ledger b.ledger → ordering_then r (nat_cmp a.entry b.entry) ≡ Less → b.entry ≤ a.entry → ⊥) [
      | Less ↦ λ is _ _. let below : a.ledger < b.ledger = ranked a.ledger b.ledger Less is in omega arith
      | Equal ↦ λ _ rest order. let under : a.entry < b.entry = ranked a.entry b.entry Less (sym rest) in omega arith
      | Greater ↦ λ _ none _. cc
    ] refl

before_not : (a b : EntryKey) → is_lt (key_cmp a b) ≡ true → IsUpTo b a → ⊥
before_not a b before upto =
    let less = less_of a b before in
    elim (less_upto a b less) [
      | inl below ↦ elim upto [ inl above ↦ omega arith | inr same ↦ omega (arith, same.0) ]
      | inr own ↦ elim upto [ inl above ↦ omega (arith, own.0) | inr same ↦ strictly a b own.0 less same.1 ]
    ]

pub upto_ledger : (a b : EntryKey) → IsUpTo a b → a.ledger ≤ b.ledger
upto_ledger a b (inl below) = omega arith
upto_ledger a b (inr rest) = omega (arith, rest.0)

pub upto_entry : (a b : EntryKey) → a.ledger ≡ b.ledger → IsUpTo a b → a.entry ≤ b.entry
upto_entry a b same (inl below) = absurd (omega arith)
upto_entry a b same (inr rest) = rest.1

-- ---- pairs that pass a test

module _ {X : Type 0} where
  -- a property of every key holds of a key that is found
  each_found : (P : EntryKey → Type 0) (es : List (EntryKey × X)) (k : EntryKey) → AllByRecursion (λ e. P e.0) es → IsSome (find key_cmp k es) → P k
  each_found P [] k each there = absurd (false≢true there)
  each_found P (e ∷ es) k each there =
      elim (eq_by_cmp key_cmp k e.0) as (λ b. eq_by_cmp key_cmp k e.0 ≡ b → IsSome (cond b (Some e.1) (find key_cmp k es)) → P k) [
        | true ↦ λ tied _. subst P (sym (key_cmp_antisymmetric k e.0 ((Equal-is (key_cmp k e.0)).0 tied))) each.0
        | false ↦ λ _ behind. each_found P es k each.1 behind
      ] refl there

  first_or_later : (e : EntryKey × X) (xs : List (EntryKey × X)) (i : ℕ) (x : EntryKey × X) → slice_get (e ∷ xs) i ≡ Some x → (e ≡ x) ⊎ ((j : ℕ) × (slice_get xs j ≡ Some x))
  first_or_later e xs zero x at = inl (Some-same at)
  first_or_later e xs (suc i) x at = inr (i, at)

  more_found : (k : EntryKey) (e : EntryKey × X) (es : List (EntryKey × X)) → IsSome (find key_cmp k es) → IsSome (find key_cmp k (e ∷ es))
  more_found k e es there = elim (eq_by_cmp key_cmp k e.0) as (λ b. IsSome (cond b (Some e.1) (find key_cmp k es))) [ true ↦ refl | false ↦ there ]

  all_found : (es : List (EntryKey × X)) → AllByRecursion (λ y. IsSome (find key_cmp y.0 es)) es
  all_found [] = tt
  all_found (e ∷ es) = (rw (tied_itself key_cmp_total e.0) refl, each_weaker _ _ (λ d there. more_found d.0 e es there) es (all_found es))

  module _ (p : EntryKey → Bool) where
    -- a pair that passes is found, and has the properties of all
    passing : (P : EntryKey × X → Type 0) (es : List (EntryKey × X)) (i : ℕ) (x : EntryKey × X) → AllByRecursion P es
        → slice_get (filter (λ e. p e.0) es) i ≡ Some x → P x
    passing P [] i x each at = cc
    passing P (e ∷ es) i x each at =
        elim (p e.0) as (λ b. slice_get (cond b (e ∷ filter (λ e. p e.0) es) (filter (λ e. p e.0) es)) i ≡ Some x → P x) [
          | true ↦ λ here. elim (first_or_later e (filter (λ e. p e.0) es) i x here) [
            | inl same ↦ subst P same each.0
            | inr later ↦ passing P es later.0 x each.1 later.1
          ]
          | false ↦ λ there. passing P es i x each.1 there
        ] at

    passes : (es : List (EntryKey × X)) (i : ℕ) (x : EntryKey × X) → slice_get (filter (λ e. p e.0) es) i ≡ Some x → p x.0 ≡ true
    passes [] i x at = cc
    passes (e ∷ es) i x at =
        elim (p e.0) as (λ b. p e.0 ≡ b → slice_get (cond b (e ∷ filter (λ e. p e.0) es) (filter (λ e. p e.0) es)) i ≡ Some x → p x.0 ≡ true) [
          | true ↦ λ is here. elim (first_or_later e (filter (λ e. p e.0) es) i x here) [
            | inl same ↦ ap (λ (y : EntryKey × X). p y.0) (sym same) ∙ is
            | inr later ↦ passes es later.0 x later.1
          ]
          | false ↦ λ _ there. passes es i x there
        ] refl at

    held : (es : List (EntryKey × X)) (i : ℕ) (x : EntryKey × X) → slice_get (filter (λ e. p e.0) es) i ≡ Some x → IsSome (find key_cmp x.0 es)
    held es i x at = passing (λ y. IsSome (find key_cmp y.0 es)) es i x (all_found es) at

    none_pass : (es : List (EntryKey × X)) → filter (λ e. p e.0) es ≡ [] → AllByRecursion (λ e. p e.0 ≡ false) es
    none_pass [] none = tt
    none_pass (e ∷ es) none =
        elim (p e.0) as (λ b. p e.0 ≡ b → cond b (e ∷ filter (λ e. p e.0) es) (filter (λ e. p e.0) es) ≡ []
        → (p e.0 ≡ false) × AllByRecursion (λ e. p e.0 ≡ false) es) [
          | true ↦ λ _ empty. cc
          | false ↦ λ is empty. (is, none_pass es empty)
        ] refl none

    -- the first pair that passes has the least key that does
    first_least : (es : List (EntryKey × X)) → IsTrue (is_sorted key_cmp es) → (x : EntryKey × X) → slice_get (filter (λ e. p e.0) es) 0 ≡ Some x
        → AllByRecursion (λ e. (p e.0 ≡ false) ⊎ IsUpTo x.0 e.0) es
    first_least [] sorted x at = tt
    first_least (e ∷ es) sorted x at =
        elim (p e.0) as (λ b. p e.0 ≡ b → slice_get (cond b (e ∷ filter (λ e. p e.0) es) (filter (λ e. p e.0) es)) 0 ≡ Some x
        → ((p e.0 ≡ false) ⊎ IsUpTo x.0 e.0) × AllByRecursion (λ e. (p e.0 ≡ false) ⊎ IsUpTo x.0 e.0) es) [
          | true ↦ λ _ here. subst (λ (y : EntryKey × X). ((p e.0 ≡ false) ⊎ IsUpTo y.0 e.0) × AllByRecursion (λ e. (p e.0 ≡ false) ⊎ IsUpTo y.0 e.0) es)
              (Some-same here)
              (inr (inr (refl, omega arith)), each_weaker _ _ (λ d less. inr (less_upto e.0 d.0 less)) es (head_below key_cmp e es sorted))
          | false ↦ λ is there. (inl is, first_least es (sorted_back key_cmp (e ∷ []) es sorted) x there)
        ] refl at

    -- one step of the lemma below, at a pair that passes
    last_step : (e : EntryKey × X) (es : List (EntryKey × X)) → IsTrue (is_sorted key_cmp (e ∷ es)) → (x : EntryKey × X) (rest : List (EntryKey × X))
        → filter (λ e. p e.0) es ≡ rest
        → (slice_get (filter (λ e. p e.0) es) (length (filter (λ e. p e.0) es) - 1) ≡ Some x → AllByRecursion (λ e. (p e.0 ≡ false) ⊎ IsUpTo e.0 x.0) es)
        → slice_get (e ∷ rest) (length (e ∷ rest) - 1) ≡ Some x → ((p e.0 ≡ false) ⊎ IsUpTo e.0 x.0) × AllByRecursion (λ e. (p e.0 ≡ false) ⊎ IsUpTo e.0 x.0) es
    last_step e es sorted x [] none later at = (
      inr (subst (λ (y : EntryKey × X). IsUpTo e.0 y.0) (Some-same at) (inr (refl, omega arith))),
      each_weaker _ _ (λ d lacks. inl lacks) es (none_pass es none),
    )
    last_step e es sorted x (d ∷ ds) is later at =
        let next : length (e ∷ d ∷ ds) - 1 ≡ suc (length (d ∷ ds) - 1) = omega arith in
        let behind : slice_get (d ∷ ds) (length (d ∷ ds) - 1) ≡ Some x = ap (slice_get (e ∷ d ∷ ds)) (sym next) ∙ at in
        let there : slice_get (filter (λ e. p e.0) es) (length (filter (λ e. p e.0) es) - 1) ≡ Some x =
        ap (λ (l : List (EntryKey × X)). slice_get l (length l - 1)) is ∙ behind in (
          inr (passing (λ y. IsUpTo e.0 y.0) es _ x (each_weaker _ _ (λ y less. less_upto e.0 y.0 less) es (head_below key_cmp e es sorted)) there),
          later there,
        )

    -- the last pair that passes has the greatest key that does
    last_greatest : (es : List (EntryKey × X)) → IsTrue (is_sorted key_cmp es) → (x : EntryKey × X)
        → slice_get (filter (λ e. p e.0) es) (length (filter (λ e. p e.0) es) - 1) ≡ Some x → AllByRecursion (λ e. (p e.0 ≡ false) ⊎ IsUpTo e.0 x.0) es
    last_greatest [] sorted x at = tt
    last_greatest (e ∷ es) sorted x at =
        elim (p e.0) as (λ b. p e.0 ≡ b → slice_get (cond b (e ∷ filter (λ e. p e.0) es) (filter (λ e. p e.0) es))
        (length (cond b (e ∷ filter (λ e. p e.0) es) (filter (λ e. p e.0) es)) - 1) ≡ Some x
        → ((p e.0 ≡ false) ⊎ IsUpTo e.0 x.0) × AllByRecursion (λ e. (p e.0 ≡ false) ⊎ IsUpTo e.0 x.0) es) [
          | true ↦ λ _ here. last_step e es sorted x (filter (λ e. p e.0) es) refl
              (λ there. last_greatest es (sorted_back key_cmp (e ∷ []) es sorted) x there) here
          | false ↦ λ is there. (inl is, last_greatest es (sorted_back key_cmp (e ∷ []) es sorted) x there)
        ] refl at

pub named : {X : Type 0} (k : EntryKey) (o : Option (EntryKey × X)) → Some k ≡ option_map (λ e. e.0) o → (x : EntryKey × X) × (o ≡ Some x) × (k ≡ x.0)
named k None is = cc
named k (Some x) is = (x, refl, Some-same is)

pub unnamed : {X : Type 0} (o : Option (EntryKey × X)) → None ≡ option_map (λ e. e.0) o → o ≡ None
unnamed None is = refl
unnamed (Some x) is = cc

empty_first : {A : Type 0} (xs : List A) → slice_get xs 0 ≡ None → xs ≡ []
empty_first [] none = refl
empty_first (x ∷ xs) none = cc

last_there : {A : Type 0} (x : A) (xs : List A) → slice_get (x ∷ xs) (length (x ∷ xs) - 1) ≡ None → ⊥
last_there x [] none = cc
last_there x (y ∷ ys) none =
    let next : length (x ∷ y ∷ ys) - 1 ≡ suc (length (y ∷ ys) - 1) = omega arith in
    last_there y ys (ap (slice_get (x ∷ y ∷ ys)) (sym next) ∙ none)

pub empty_last : {A : Type 0} (xs : List A) → slice_get xs (length xs - 1) ≡ None → xs ≡ []
empty_last [] none = refl
empty_last (x ∷ xs) none = absurd (last_there x xs none)

-- ---- the keys of a map of pages

module _ {X : Type 0} (pages : List (List (EntryKey × X))) (sorted : IsTrue (is_sorted key_cmp (all_pairs pages))) (m : FinMap key_cmp X)
    (seen : from_sorted (all_pairs pages) ≡ m) where
  among : (P : EntryKey → Type 0) (k : EntryKey) → AllByRecursion (λ e. P e.0) (all_pairs pages) → IsSome (finite.get m k) → P k
  among P k each there = each_found P (all_pairs pages) k each (ap is_some (get_seen pages sorted m seen k) ∙ there)

  not_true : (b : Bool) → not b ≡ false → b ≡ true
  not_true true is = refl
  not_true false is = cc

  not_false : (b : Bool) → not b ≡ true → b ≡ false
  not_false true is = cc
  not_false false is = refl

  -- the first key that is not before an entry
  module _ (ledger from : ℕ) where
    abbrev is_from : EntryKey → Bool
    is_from k = not (is_lt (key_cmp k (record { ledger = ledger; entry = from })))

    abbrev first_key_from : Option EntryKey
    first_key_from = option_map (λ e. e.0) (slice_get (filter (λ e. is_from e.0) (all_pairs pages)) 0)

    pub no_key : None ≡ first_key_from → (k : EntryKey) → IsSome (finite.get m k) → IsUpTo (record { ledger = ledger; entry = from }) k → ⊥
    no_key none k there above =
        let all = none_pass is_from (all_pairs pages) (empty_first _ (unnamed _ none)) in
        before_not k (record { ledger = ledger; entry = from }) (not_true _ (among (λ q. is_from q ≡ false) k all there)) above

    module _ (k : EntryKey) (is : Some k ≡ first_key_from) where
      pub first_held : IsSome (finite.get m k)
      first_held =
          let x = named k _ is in
          ap is_some (sym (get_seen pages sorted m seen k)) ∙ rw x.2 (held is_from (all_pairs pages) 0 x.0 x.1)

      pub first_from_start : IsUpTo (record { ledger = ledger; entry = from }) k
      first_from_start =
          let x = named k _ is in
          not_before k (record { ledger = ledger; entry = from }) (not_false _ (rw x.2 (passes is_from (all_pairs pages) 0 x.0 x.1)))

      pub first_key_least : (q : EntryKey) → IsSome (finite.get m q) → IsUpTo (record { ledger = ledger; entry = from }) q → IsUpTo k q
      first_key_least q there above =
          let x = named k _ is in
          rw x.2 (elim (among (λ d. (is_from d ≡ false) ⊎ IsUpTo x.0.0 d) q (first_least is_from (all_pairs pages) sorted x.0 x.1) there) [
            | inl fails ↦ absurd (before_not q (record { ledger = ledger; entry = from }) (not_true _ fails) above)
            | inr order ↦ order
          ])

  -- the last key of the ledgers up to one
  module _ (ledger : ℕ) where
    abbrev is_within : EntryKey → Bool
    is_within k = leb k.ledger ledger

    abbrev last_key_upto : Option EntryKey
    last_key_upto = option_map (λ e. e.0)
        (slice_get (filter (λ e. is_within e.0) (all_pairs pages)) (length (filter (λ e. is_within e.0) (all_pairs pages)) - 1))

    lacks : (k : EntryKey) → is_within k ≡ false → k.ledger ≤ ledger → ⊥
    lacks k fails under = false≢true (sym fails ∙ le-leb k.ledger ledger under)

    pub no_last : None ≡ last_key_upto → (k : EntryKey) → IsSome (finite.get m k) → k.ledger ≤ ledger → ⊥
    no_last none k there under =
        let all = none_pass is_within (all_pairs pages) (empty_last _ (unnamed _ none)) in
        lacks k (among (λ q. is_within q ≡ false) k all there) under

    module _ (k : EntryKey) (is : Some k ≡ last_key_upto) where
      pub last_held : IsSome (finite.get m k)
      last_held =
          let x = named k _ is in
          ap is_some (sym (get_seen pages sorted m seen k)) ∙ rw x.2 (held is_within (all_pairs pages) _ x.0 x.1)

      pub last_within : k.ledger ≤ ledger
      last_within =
          let x = named k _ is in
          leb-true k.ledger ledger (rw x.2 (passes is_within (all_pairs pages) _ x.0 x.1))

      pub last_key_greatest : (q : EntryKey) → IsSome (finite.get m q) → q.ledger ≤ ledger → IsUpTo q k
      last_key_greatest q there under =
          let x = named k _ is in
          rw x.2 (elim (among (λ d. (is_within d ≡ false) ⊎ IsUpTo d x.0.0) q (last_greatest is_within (all_pairs pages) sorted x.0 x.1) there) [
            | inl fails ↦ absurd (lacks q fails under)
            | inr order ↦ order
          ])
