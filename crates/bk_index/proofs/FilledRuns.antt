-- Runs that are put into an index: one that goes on behind another, and runs without a common key
-- in two orders.
use Rattle.std.proofs.Common.{◌≡◌, ◌⊎◌, inl, inr, ℕ, zero, suc, ◌+◌, ◌-◌, ◌*◌, ◌<◌, List, [], ◌∷◌, ◌++◌, length, get_or, set, take, Option, Some, refl, sym, ap, subst, ◌∙◌, arith}
use Rattle.std.specs.FinMap as map
use Rattle.std.specs.List.{Contains, AllAdjacentBelow}
use Rattle.std.specs.List.Sorted.{IsPermutation}
use Rattle.std.proofs.lemmas.Bool.{cases_lt}
use Rattle.std.proofs.lemmas.List.{get_or_default, take_all, take_more, take_more_set, length-set}
use Rattle.std.proofs.lemmas.List.Elements.{Contains-append_cases, Contains-append_left, Contains-append_right, Contains-push, Contains-push_cases}
use Rattle.std.proofs.lemmas.List.Sorted.{Contains-permutation, IsPermutation-sym}
use Rattle.bk_record.specs.Key.{EntryKey}
use Rattle.bk_record.specs.Location.{Place}
use Rattle.bk_record.specs.Keyed.{Places}
use Rattle.bk_record.proofs.Keys.{key_cmp_total, key_cmp_antisymmetric}
use Rattle.bk_record.proofs.Maps.{key_cases, get-insert_here, get-insert_else}
use Rattle.bk_index.specs.Runs.{with_run, key_of_run, place_of_run}
use Rattle.bk_index.specs.Building.{with_runs, RunEndsBefore, RunGoesOn}
use Rattle.bk_index.specs.declared.builder.PlacedRun.{PlacedRun}
use Rattle.bk_index.proofs.Runs.{with_one_more}

-- ---- a run that goes on behind another

-- the first keys of a run, then the others
run_appended : (m : Places) (k : EntryKey) (p : Place) (s a b : ℕ)
    → with_run (with_run m k p s a) (key_of_run k a) (place_of_run p s a) s b ≡ with_run m k p s (a + b)
run_appended m k p s a zero = let none : a ≡ a + zero = omega arith in ap (with_run m k p s) none
run_appended m k p s a (suc b) =
    let entry : (k.entry + a) + 1 ≡ k.entry + (a + 1) = omega arith in
    let at : (p.at + a * s) + s ≡ p.at + (a + 1) * s = omega arith in
    let count : (a + 1) + b ≡ a + suc b = omega arith in
    (λ i. with_run (sym (with_one_more m k p s a) i) (record { ledger = k.ledger; entry = entry i }) (record { log = p.log; at = at i }) s b)
    ∙ run_appended m k p s (a + 1) b
    ∙ ap (with_run m k p s) count

-- a run longer by one that goes on behind it
abbrev pub longer : PlacedRun → PlacedRun → PlacedRun
longer last run = record last { count = last.count + run.count }

pub with_runs_push : (runs : List PlacedRun) (run : PlacedRun) (m : Places)
    → with_runs m (runs ++ run ∷ []) ≡ with_run (with_runs m runs) run.first run.place run.size run.count
with_runs_push [] run m = refl
with_runs_push (first ∷ runs) run m = with_runs_push runs run (with_run m first.first first.place first.size first.count)

run_joined : (m : Places) (last run : PlacedRun) → RunGoesOn last run
    → with_run m last.first last.place last.size (last.count + run.count)
    ≡ with_run (with_run m last.first last.place last.size last.count) run.first run.place run.size run.count
run_joined m last run on =
    sym (run_appended m last.first last.place last.size last.count run.count)
    ∙ (λ i. with_run (with_run m last.first last.place last.size last.count)
    (record { ledger = on.ledger i; entry = on.entry i })
    (record { log = on.log i; at = on.at i }) (on.size i) run.count)

-- the last run of a list becomes longer
pub last_joined : (runs : List PlacedRun) (n : ℕ) (last run : PlacedRun) → length runs ≡ n + 1 → last ≡ get_or runs n last → RunGoesOn last run
    → (m : Places) → with_runs m (set runs n (longer last run)) ≡ with_run (with_runs m runs) run.first run.place run.size run.count
last_joined runs n last run many is on m =
    let begun : with_runs m (set runs n (longer last run))
    ≡ with_run (with_runs m (take n runs)) last.first last.place last.size (last.count + run.count) =
    ap (with_runs m) (sym (take_all (n + 1) (set runs n (longer last run)) (omega (arith, length-set runs n (longer last run))))
    ∙ take_more_set runs n (longer last run) (omega arith))
    ∙ with_runs_push (take n runs) (longer last run) m in
    let before : with_run (with_runs m (take n runs)) last.first last.place last.size last.count ≡ with_runs m runs =
    sym (with_runs_push (take n runs) last m)
    ∙ ap (λ (r : PlacedRun). with_runs m (take n runs ++ r ∷ [])) is
    ∙ ap (with_runs m) (sym (take_more runs n last (omega arith)) ∙ take_all (n + 1) runs (omega arith)) in
    begun ∙ run_joined (with_runs m (take n runs)) last run on
    ∙ ap (λ (index : Places). with_run index run.first run.place run.size run.count) before

-- ---- what runs give for a key

-- a run gives a key the place of its entry, or leaves it what the index had
abbrev RunGives : Places → EntryKey → Place → ℕ → ℕ → EntryKey → Type 0
RunGives m k p s n q =
    ((i : ℕ) × (i < n) × (q ≡ key_of_run k i) × (map.get (with_run m k p s n) q ≡ Some (place_of_run p s i)))
    ⊎ (((i : ℕ) → i < n → q ≡ key_of_run k i → ⊥) × (map.get (with_run m k p s n) q ≡ map.get m q))

run_gives : (m : Places) (k : EntryKey) (p : Place) (s n : ℕ) (q : EntryKey) → RunGives m k p s n q
run_gives m k p s zero q = inr ((λ i less is. absurd (omega arith)), refl)
run_gives m k p s (suc n) q =
    let next : suc n ≡ n + 1 = omega arith in
    let more : with_run m k p s (suc n) ≡ map.insert (with_run m k p s n) (key_of_run k n) (place_of_run p s n) =
    ap (with_run m k p s) next ∙ with_one_more m k p s n in
    let got : map.get (with_run m k p s (suc n)) q ≡ map.get (map.insert (with_run m k p s n) (key_of_run k n) (place_of_run p s n)) q =
    ap (λ (index : Places). map.get index q) more in
    elim (key_cases key_cmp_total key_cmp_antisymmetric q (key_of_run k n)) [
      | inl here ↦ inl (
        n,
        omega arith,
        here,
        got ∙ ap (map.get (map.insert (with_run m k p s n) (key_of_run k n) (place_of_run p s n))) here
            ∙ get-insert_here key_cmp_total key_cmp_antisymmetric (with_run m k p s n) (key_of_run k n) (place_of_run p s n),
      )
      | inr other ↦ let kept : map.get (with_run m k p s (suc n)) q ≡ map.get (with_run m k p s n) q =
          got ∙ get-insert_else key_cmp_total key_cmp_antisymmetric (with_run m k p s n) (key_of_run k n) (place_of_run p s n) q other.1 in
          elim (run_gives m k p s n q) [
            | inl had ↦ inl (had.0, omega (arith, had.1), had.2, kept ∙ had.3)
            | inr none ↦ inr (
              (λ i less is. elim (cases_lt i n) [
                | inl below ↦ none.0 i below is
                | inr from ↦ let same : i ≡ n = omega (arith, less, from) in other.1 (is ∙ ap (key_of_run k) same)
              ]),
              kept ∙ none.1,
            )
          ]
    ]

-- a run of the list has the key, and this is its place
record FoundIn (runs : List PlacedRun) (found : Option Place) (q : EntryKey) : Type 0 where
  run : PlacedRun
  at : ℕ
  listed : Contains runs run
  within : at < run.count
  key : q ≡ key_of_run run.first at
  place : found ≡ Some (place_of_run run.place run.size at)

abbrev NoneHas : List PlacedRun → EntryKey → Type 0
NoneHas runs q = (run : PlacedRun) (at : ℕ) → Contains runs run → at < run.count → q ≡ key_of_run run.first at → ⊥

runs_give : (runs : List PlacedRun) (m : Places) (q : EntryKey)
    → FoundIn runs (map.get (with_runs m runs) q) q ⊎ (NoneHas runs q × (map.get (with_runs m runs) q ≡ map.get m q))
runs_give [] m q = inr ((λ run at listed within key. absurd (omega (arith, listed.1))), refl)
runs_give (r ∷ runs) m q =
    elim (runs_give runs (with_run m r.first r.place r.size r.count) q) [
      | inl later ↦ inl (record {
        run = later.run;
        at = later.at;
        listed = Contains-append_right (r ∷ []) runs later.run later.listed;
        within = later.within;
        key = later.key;
        place = later.place;
      })
      | inr none ↦ elim (run_gives m r.first r.place r.size r.count q) [
        | inl here ↦ inl (record {
          run = r;
          at = here.0;
          listed = Contains-append_left (r ∷ []) runs r (Contains-push [] r);
          within = here.1;
          key = here.2;
          place = none.1 ∙ here.3;
        })
        | inr never ↦ inr (
          (λ run at listed within key. elim (Contains-append_cases (r ∷ []) runs run listed) [
            | inl first ↦ elim (Contains-push_cases [] r run first) [
              | inl never_listed ↦ absurd (omega (arith, never_listed.1))
              | inr same ↦ never.0 at (subst (λ (x : PlacedRun). at < x.count) (sym same) within)
                  (key ∙ ap (λ (x : PlacedRun). key_of_run x.first at) (sym same))
            ]
            | inr rest ↦ none.0 run at rest within key
          ]),
          none.1 ∙ never.1,
        )
      ]
    ]

-- ---- runs that end one before another

ends_before_trans : (r s t : PlacedRun) → RunEndsBefore r s → RunEndsBefore s t → RunEndsBefore r t
ends_before_trans r s t first second = elim first [
  | inl a ↦ elim second [ inl b ↦ inl (omega (arith, a, b)) | inr b ↦ inl (omega (arith, a, b.0)) ]
  | inr a ↦ elim second [ inl b ↦ inl (omega (arith, a.0, b)) | inr b ↦ inr (a.0 ∙ b.0, omega (arith, a.1, b.1)) ]
]

-- they have no common key
no_common : (r s : PlacedRun) (q : EntryKey) (i j : ℕ) → RunEndsBefore r s → i < r.count → q ≡ key_of_run r.first i → q ≡ key_of_run s.first j → ⊥
no_common r s q i j before within is also =
    let ledgers : r.first.ledger ≡ s.first.ledger = ap (λ (k : EntryKey). k.ledger) (sym is ∙ also) in
    let entries : r.first.entry + i ≡ s.first.entry + j = ap (λ (k : EntryKey). k.entry) (sym is ∙ also) in
    elim before [ inl less ↦ absurd (omega (arith, less, ledgers)) | inr upto ↦ absurd (omega (arith, upto.1, entries, within)) ]

module _ (runs : List PlacedRun) (up : AllAdjacentBelow RunEndsBefore runs (length runs)) where
  far : (i n : ℕ) (d : PlacedRun) → i + suc n < length runs → RunEndsBefore (get_or runs i d) (get_or runs (i + suc n) d)
  far i zero d less =
      let next : i + 1 ≡ i + suc zero = omega arith in
      subst (λ (j : ℕ). RunEndsBefore (get_or runs i d) (get_or runs j d)) next (up i d (omega (arith, less)))
  far i (suc n) d less =
      let next : (i + suc n) + 1 ≡ i + suc (suc n) = omega arith in
      subst (λ (j : ℕ). RunEndsBefore (get_or runs i d) (get_or runs j d)) next
      (ends_before_trans (get_or runs i d) (get_or runs (i + suc n) d) (get_or runs ((i + suc n) + 1) d) (far i n d (omega (arith, less)))
      (up (i + suc n) d (omega (arith, less))))

  in_turn : (r s : PlacedRun) (i j : ℕ) → i < j → j < length runs → get_or runs i r ≡ r → get_or runs j s ≡ s → RunEndsBefore r s
  in_turn r s i j less within is also =
      let n = j - suc i in
      let at : i + suc n ≡ j = omega (arith, less) in
      let second : get_or runs (i + suc n) r ≡ s = ap (λ (k : ℕ). get_or runs k r) at ∙ get_or_default runs j r s within ∙ also in
      subst (λ (x : PlacedRun). RunEndsBefore x s) is
      (subst (λ (x : PlacedRun). RunEndsBefore (get_or runs i r) x) second (far i n r (omega (arith, at, within))))

  -- so only one run has a key
  same_run : (r s : PlacedRun) (q : EntryKey) (i j : ℕ) → Contains runs r → Contains runs s → i < r.count → q ≡ key_of_run r.first i
      → j < s.count → q ≡ key_of_run s.first j → r ≡ s
  same_run r s q i j listed also within is inside key = elim (cases_lt listed.0 also.0) [
    | inl less ↦ absurd (no_common r s q i j (in_turn r s listed.0 also.0 less also.1 listed.2 also.2) within is key)
    | inr upto ↦ elim (cases_lt also.0 listed.0) [
      | inl less ↦ absurd (no_common s r q j i (in_turn s r also.0 listed.0 less listed.1 also.2 listed.2) inside key is)
      | inr from ↦ let at : listed.0 ≡ also.0 = omega (arith, upto, from) in
          sym listed.2 ∙ ap (λ (k : ℕ). get_or runs k r) at ∙ get_or_default runs also.0 r s also.1 ∙ also.2
    ]
  ]

-- runs without a common key give the same in any order
pub same_runs : (xs ys : List PlacedRun) → IsPermutation xs ys → AllAdjacentBelow RunEndsBefore ys (length ys) → (m : Places) → with_runs m ys ≡ with_runs m xs
same_runs xs ys moved up m = map.same_map key_cmp_total key_cmp_antisymmetric (with_runs m ys) (with_runs m xs) (λ q. elim (runs_give ys m q) [
  | inl found ↦ elim (runs_give xs m q) [
    | inl also ↦ let listed = Contains-permutation xs ys also.run moved also.listed in
        let same : found.run ≡ also.run = same_run ys up found.run also.run q found.at also.at found.listed listed found.within found.key also.within also.key in
        let entries : found.run.first.entry + found.at ≡ also.run.first.entry + also.at = ap (λ (k : EntryKey). k.entry) (sym found.key ∙ also.key) in
        let first : found.run.first.entry ≡ also.run.first.entry = ap (λ (r : PlacedRun). r.first.entry) same in
        let at : found.at ≡ also.at = omega (arith, entries, first) in
        found.place ∙ (λ i. Some (place_of_run (same i).place (same i).size (at i))) ∙ sym also.place
    | inr none ↦ absurd (none.0 found.run found.at (Contains-permutation ys xs found.run (IsPermutation-sym xs ys moved) found.listed) found.within found.key)
  ]
  | inr none ↦ elim (runs_give xs m q) [
    | inl also ↦ absurd (none.0 also.run also.at (Contains-permutation xs ys also.run moved also.listed) also.within also.key)
    | inr gone ↦ none.1 ∙ sym gone.1
  ]
])
