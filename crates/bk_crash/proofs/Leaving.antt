-- What is left of the logs one after another, and of the removed files.
use Rattle.std.proofs.Common.{◌≡◌, inl, inr, ℕ, ◌<◌, ◌≤◌, Bool, true, false, cond, suc, List, [], ◌∷◌, ◌++◌, map, length, take, drop, get_or, Option, Some, None, option_map, IsSome, Vec, Global}
use Rattle.std.proofs.Common.{refl, sym, ap, ◌∙◌, subst, append_assoc, arith, length-append, length-drop, length-take, leb, leb-true}
use Rattle.std.proofs.Math.Decide.{dec_le}
use Rattle.std.proofs.Math.Seq.{take-append_seam, get_or-append_seam}
use Rattle.std.specs.Vec.{with_items}
use Rattle.std.proofs.lemmas.List.{with_items_is, take_all, take-take, length-take-le, take-append-le, length-map, get_or-map, get_or-take, map-append, append-nil}
use Rattle.std.proofs.lemmas.Option.{none-some}
use Rattle.std.proofs.lemmas.Bool.{false≢true}
use Rattle.std.proofs.lemmas.Map.Views.{tells_apart}
use Rattle.std.proofs.lemmas.Map.Keys.{below_from_sorted}
use Rattle.std.specs.List.Sorted.{IsStrictlySortedBy}
use Rattle.std.specs.Ordering.{nat_cmp, eq_by_cmp, is_eq}
use Rattle.std.specs.declared.cmp.Ordering.{Ordering}
use Rattle.std.specs.declared.cmp.Ordering.TheVariants.{Less, Equal, Greater}
use Rattle.std.proofs.lemmas.Slice.{drop-append-drop}
use Rattle.std.specs.Cmp.{nat_cmp_total}
use Rattle.std.specs.Map.{keys_of, lookup}
use Rattle.std.specs.BTreeMap.{is_at}
use Rattle.std.specs.Option.{is_some}
use Rattle.std.specs.FinMap as finite
use Rattle.std.specs.FinMap.{find, get-from_entries}
use Rattle.bk_record.specs.Files.{Files, header_length}
use Rattle.bk_record.specs.Longer.{IsLonger}
use Rattle.bk_record.proofs.NumberMaps.{get-entries}
use Rattle.bk_record.proofs.Longer.{longer_same, longer_append, longer_trans}
use Rattle.bk_disk.specs.Disk.{patched_file}
use Rattle.bk_disk.specs.Logs.{listed}
use Rattle.bk_log.proofs.Gains.{longer_patch}
use Rattle.bk_manifest_disk.proofs.Fronts.{longer_fronts}
use Rattle.bk_store.specs.Crash.{IsCut, IsLeft, MayLeave}
use Rattle.bk_crash.proofs.Damage.{cut_take}
use Rattle.bk_crash.specs.Damage.{IsDamaged}
use Rattle.bk_crash.specs.Leaving.{HasSynced, IsLeftOf, IsBackOf, IsBack, IsSpoiled, IsBegun, IsPutBack, by_id}
use Rattle.bk_crash.specs.AllLogs.{logs_of, files_of, gone_of, AreSynced, ArePutBack}
use Rattle.bk_crash.specs.declared.written.Written.{Written}
use Rattle.bk_crash.specs.Noting.{NotedLog}

-- ---- one file

cut_same : (file : List ℕ) → IsCut file file
cut_same file =
    let all : take (length file) file ≡ file = take_all (length file) file (omega arith) in
    record { within = omega arith; front = ap (take 8) (sym all); behind = ap (drop 20) (sym all) }

pub cut_of_take : (count : ℕ) (file : List ℕ) → IsCut file (take count file)
cut_of_take count file = cut_take count file file (cut_same file)

-- A cut whose header was patched is a cut, with as many bytes after its header.
module _ (file left bytes : List ℕ) (twelve : length bytes ≡ 12) where
  patched_long : 20 ≤ length left → IsCut file left → IsCut file (take 8 left ++ bytes ++ drop 20 left)
  patched_long long cut =
      let eight : length (take 8 left) ≡ 8 = length-take-le 8 left (omega (arith, long)) in
      let head = take 8 left ++ bytes in
      let twenty : length head ≡ 20 = omega (arith, length-append (take 8 left) bytes, eight, twelve) in
      let size : length (take 8 left ++ bytes ++ drop 20 left) ≡ length left =
      omega (arith, length-append head (drop 20 left), length-drop 20 left, twenty, long) in
      let back : (n : ℕ) → n ≡ length left → take n file ≡ take (length left) file = λ n is. ap (λ m. take m file) is in
      record {
        within = omega (arith, size, cut.within);
        front = take-append-le 8 head (drop 20 left) (omega (arith, twenty)) ∙ take-append-le 8 (take 8 left) bytes (omega (arith, eight))
            ∙ take-take 8 8 left (omega arith) ∙ cut.front
            ∙ ap (take 8) (sym (back _ size));
        behind = drop-append-drop 20 left head 20 (omega arith) twenty ∙ cut.behind ∙ ap (drop 20) (sym (back _ size));
      }

  pub cut_patched : IsCut file left → IsCut file (patched_file left bytes)
  cut_patched cut = elim (leb 20 (length left)) as (λ b. leb 20 (length left) ≡ b → IsCut file (cond b (take 8 left ++ bytes ++ drop 20 left) left)) [
    | true ↦ λ long. patched_long (leb-true 20 (length left) long) cut
    | false ↦ λ _. cut
  ] refl

  pub longer_patched : (front : List ℕ) → IsLonger front left → IsLonger front (patched_file left bytes)
  longer_patched front longer = elim (dec_le 20 (length left)) [
    | yes long ↦ longer_trans front left (patched_file left bytes) longer (longer_patch left bytes twelve long)
    | no short ↦ subst (λ b. IsLonger front (cond b (take 8 left ++ bytes ++ drop 20 left) left)) (sym (short_is short)) longer
  ] where
    short_is : ¬ (20 ≤ length left) → leb 20 (length left) ≡ false
    short_is short = elim (leb 20 (length left)) as (λ b. leb 20 (length left) ≡ b → b ≡ false) [
      | true ↦ λ long. absurd (short (leb-true 20 (length left) long))
      | false ↦ λ _. refl
    ] refl

-- A prefix of a log, at least as long as its synced part, is left of it.
pub log_left : (log : NotedLog) (least count : ℕ) → HasSynced log.synced log.bytes (take least log.bytes) → least ≤ count
    → IsLeftOf log (Some (take count log.bytes))
log_left log least count has order = (cut_of_take count log.bytes, kept log.synced has) where
  kept : (o : Option ℕ) → HasSynced o log.bytes (take least log.bytes) → HasSynced o log.bytes (take count log.bytes)
  kept None _ = tt
  kept (Some synced) has = longer_trans (take synced log.bytes) (take least log.bytes) (take count log.bytes) has
      (longer_fronts least count log.bytes log.bytes order (longer_same log.bytes))

-- At least the synced bytes; any number if nothing was synced.
pub has_synced : (o : Option ℕ) (least synced : ℕ) (bytes : List ℕ) → o ≡ Some synced → least ≡ synced → HasSynced o bytes (take least bytes)
has_synced o least synced bytes is same =
    subst (λ o. HasSynced o bytes (take least bytes)) (sym is) (subst (λ n. IsLonger (take synced bytes) (take n bytes)) (sym same) (longer_same (take synced bytes)))

pub has_nothing : (o : Option ℕ) (bytes left : List ℕ) → o ≡ None → HasSynced o bytes left
has_nothing o bytes left none = subst (λ o. HasSynced o bytes left) (sym none) tt

-- The header may have other bytes.
pub log_spoiled : (log : NotedLog) (left now : List ℕ) → IsSpoiled left now → IsLeftOf log (Some left) → IsLeftOf log (Some now)
log_spoiled log left now (inl same) of = subst (λ l. IsLeftOf log (Some l)) (sym same) of
log_spoiled log left now (inr other) of =
    subst (λ l. IsLeftOf log (Some l)) (sym other.2) (cut_patched log.bytes left other.0 other.1 of.0, kept log.synced of.1) where
      kept : (o : Option ℕ) → HasSynced o log.bytes left → HasSynced o log.bytes (patched_file left other.0)
      kept None _ = tt
      kept (Some synced) has = longer_patched log.bytes left other.0 other.1 (take synced log.bytes) has

-- A prefix of a log with all synced bytes, and maybe other bytes in its header, is left of it.
pub begun_left : (log : NotedLog) (least : ℕ) (left : List ℕ) → HasSynced log.synced log.bytes (take least log.bytes) → IsBegun log least left
    → IsLeftOf log (Some left)
begun_left log least left has begun = log_spoiled log (take begun.0 log.bytes) left begun.2 (log_left log least begun.0 has begun.1)

-- ---- damage

longer_of_take : (n : ℕ) (file : List ℕ) → IsLonger (take n file) file
longer_of_take n file = elim (dec_le n (length file)) [
  | yes within ↦ subst (IsLonger (take n file)) (take_all (length file) file (omega arith)) (longer_fronts n (length file) file file within (longer_same file))
  | no past ↦ subst (λ f. IsLonger f file) (sym (take_all n file (omega (arith, past)))) (longer_same file)
]

-- The header of a cut is a cut of the header.
cut_head : (file left : List ℕ) → IsCut file left → IsCut (take header_length file) (take header_length left)
cut_head file left cut =
    let part = cut_take header_length file left cut in
    let size : length (take header_length left) ≤ header_length = omega (arith, length-take header_length left) in
    let same : take (length (take header_length left)) (take header_length file) ≡ take (length (take header_length left)) file =
    take-take (length (take header_length left)) header_length file size in
    record {
      within = omega (arith, part.within, size, length-take header_length file);
      front = part.front ∙ ap (take 8) (sym same);
      behind = part.behind ∙ ap (drop 20) (sym same);
    }

module _ (bytes left : List ℕ) (synced : ℕ) (cut : IsCut bytes left) (longer : IsLonger (take synced bytes) left) where
  -- Without bytes after the synced part.
  pub as_it_is : IsDamaged (take synced bytes) bytes left
  as_it_is = record { begins = longer_of_take synced bytes; stands = longer; headed = cut_head bytes left cut }

  -- With other bytes after a part that has a header and all synced bytes.
  pub damaged_behind : (n : ℕ) (more : List ℕ) → synced ≤ n → header_length ≤ n → header_length ≤ length left
      → IsDamaged (take synced bytes) bytes (take n left ++ more)
  damaged_behind n more enough headed long =
      let front : IsLonger (take synced bytes) (take n left) =
      subst (λ f. IsLonger f (take n left)) (take-take synced synced bytes (omega arith)) (longer_fronts synced n (take synced bytes) left enough longer) in
      let size : header_length ≤ length (take n left) = omega (arith, length-take n left, headed, long) in
      let head : take header_length (take n left ++ more) ≡ take header_length left =
      take-append-le header_length (take n left) more size ∙ take-take header_length n left headed in
      record {
        begins = longer_of_take synced bytes;
        stands = longer_trans (take synced bytes) (take n left) (take n left ++ more) front (longer_append (take n left) more);
        headed = subst (IsCut (take header_length bytes)) (sym head) (cut_head bytes left cut);
      }

length_patched : (file bytes : List ℕ) → length bytes ≡ 12 → length (patched_file file bytes) ≡ length file
length_patched file bytes twelve = elim (leb 20 (length file)) as (λ b. leb 20 (length file) ≡ b → length (cond b (take 8 file ++ bytes ++ drop 20 file) file) ≡ length file) [
  | true ↦ λ long.
      let least : 20 ≤ length file = leb-true 20 (length file) long in
      omega (arith, least, length-append (take 8 file ++ bytes) (drop 20 file), length-append (take 8 file) bytes, length-take-le 8 file (omega (arith, least)), length-drop 20 file, twelve)
  | false ↦ λ _. refl
] refl

pub length_spoiled : (file now : List ℕ) → IsSpoiled file now → length now ≡ length file
length_spoiled file now (inl same) = ap length same
length_spoiled file now (inr other) = ap length other.2 ∙ length_patched file other.0 other.1

-- A prefix of a log with other bytes in its patched header.
pub spoiled_in_place : (log : NotedLog) (least count : ℕ) (bytes : Vec ℕ Global) (now : List ℕ) → least ≤ count → bytes.items ≡ take count log.bytes
    → IsSpoiled bytes.items now → IsBegun log least (with_items bytes now).items
spoiled_in_place log least count bytes now order same spoiled =
    let size = length_spoiled bytes.items now spoiled in (
      count,
      order,
      subst (λ l. IsSpoiled (take count log.bytes) l) (sym (with_items_is bytes now (omega (arith, size, bytes.ok.0))))
          (subst (λ file. IsSpoiled file now) same spoiled),
    )

-- ---- look-up in a list that grows

abbrev pub or_else : {X : Type 0} → Option X → Option X → Option X
or_else None other = other
or_else (Some x) other = Some x

or_none : {X : Type 0} (o : Option X) → or_else o None ≡ o
or_none None = refl
or_none (Some x) = refl

find-push : {X : Type 0} (es : List (ℕ × X)) (k : ℕ) (v : X) (q : ℕ)
    → find nat_cmp q (es ++ (k, v) ∷ []) ≡ or_else (find nat_cmp q es) (cond (eq_by_cmp nat_cmp q k) (Some v) None)
find-push [] k v q = refl
find-push (e ∷ es) k v q = elim (eq_by_cmp nat_cmp q e.0) as (λ b. cond b (Some e.1) (find nat_cmp q (es ++ (k, v) ∷ []))
    ≡ or_else (cond b (Some e.1) (find nat_cmp q es)) (cond (eq_by_cmp nat_cmp q k) (Some v) None)) [
      | true ↦ refl
      | false ↦ find-push es k v q
    ]

-- A list, possibly with one more pair.
abbrev pub pushed : {X : Type 0} → List (ℕ × X) → ℕ → Option X → List (ℕ × X)
pushed es k None = es
pushed es k (Some v) = es ++ (k, v) ∷ []

find-pushed : {X : Type 0} (es : List (ℕ × X)) (k : ℕ) (o : Option X) (q : ℕ)
    → find nat_cmp q (pushed es k o) ≡ or_else (find nat_cmp q es) (cond (eq_by_cmp nat_cmp q k) o None)
find-pushed es k None q = elim (eq_by_cmp nat_cmp q k) as (λ b. find nat_cmp q es ≡ or_else (find nat_cmp q es) (cond b None None)) [
  | true ↦ sym (or_none (find nat_cmp q es))
  | false ↦ sym (or_none (find nat_cmp q es))
]
find-pushed es k (Some v) q = find-push es k v q

find-map : {X Y : Type 0} (f : X → Y) (es : List (ℕ × X)) (q : ℕ) → find nat_cmp q (map (λ e. (e.0, f e.1)) es) ≡ option_map f (find nat_cmp q es)
find-map f [] q = refl
find-map f (e ∷ es) q = elim (eq_by_cmp nat_cmp q e.0) as (λ b. cond b (Some (f e.1)) (find nat_cmp q (map (λ e. (e.0, f e.1)) es))
    ≡ option_map f (cond b (Some e.1) (find nat_cmp q es))) [
      | true ↦ refl
      | false ↦ find-map f es q
    ]

-- The result of a look-up in a map of the entries.
look : {X : Type 0} (es : List (ℕ × X)) (q : ℕ) → find nat_cmp q es ≡ lookup (is_at (nat_cmp q)) es
look es q = sym (get-from_entries nat_cmp_total es q) ∙ get-entries es q

pub there_is : {X : Type 0} (es : List (ℕ × X)) (q : ℕ) → true ≡ is_some (lookup (is_at (nat_cmp q)) es) → IsSome (find nat_cmp q es)
there_is es q told = ap is_some (look es q) ∙ sym told

pub there_is_none : {X : Type 0} (es : List (ℕ × X)) (q : ℕ) → false ≡ is_some (lookup (is_at (nat_cmp q)) es) → find nat_cmp q es ≡ None
there_is_none {X} es q told = none (find nat_cmp q es) (ap is_some (look es q) ∙ sym told) where
  none : (o : Option X) → is_some o ≡ false → o ≡ None
  none None _ = refl
  none (Some x) it = absurd (false≢true (sym it))

-- One more file in a list of files.
pub listed_more : (files now : List (ℕ × Vec ℕ Global)) (id : ℕ) (file : Vec ℕ Global) → now ≡ files ++ (id, file) ∷ []
    → listed now ≡ listed files ++ (id, file.items) ∷ []
listed_more files now id file more = ap listed more ∙ map-append (λ f. (f.0, f.1.items)) files ((id, file) ∷ [])

-- A key of an ascending list does not occur before its position.
apart_numbers : (a b : ℕ) → b < a → eq_by_cmp nat_cmp a b ≡ false
apart_numbers a b below = go (nat_cmp a b) refl where
  go : (r : Ordering) → nat_cmp a b ≡ r → is_eq r ≡ false
  go Less e = refl
  go Equal e = absurd (omega (arith, below, finite.nat_cmp-IsAntisymmetric a b e))
  go Greater e = refl

find_none : {X : Type 0} (q : ℕ) (es : List (ℕ × X)) → ((k : ℕ) (d : ℕ × X) → k < length es → (get_or es k d).0 < q) → find nat_cmp q es ≡ None
find_none q [] below = refl
find_none q (e ∷ es) below =
    ap (λ b. cond b (Some e.1) (find nat_cmp q es)) (apart_numbers q e.0 (below 0 e (omega arith))) ∙ find_none q es (λ k d low. below (suc k) d (omega (arith, low)))

find_at : {X : Type 0} (es : List (ℕ × X)) (i : ℕ) (d : ℕ × X) → IsStrictlySortedBy nat_cmp (keys_of es) → i < length es
    → find nat_cmp (get_or es i d).0 (take i es) ≡ None
find_at {X} es i d rising low = find_none (get_or es i d).0 (take i es) (λ k d' before.
    let below : k < i = omega (arith, before, length-take i es) in
    let there : k < length es = omega (arith, below, low) in
    let id : ℕ × X → ℕ = λ e. e.0 in
    let order = below_from_sorted (keys_of es) k i 0 rising below (omega (arith, low, length-map es id)) in
    let first : get_or (keys_of es) k 0 ≡ (get_or (take i es) k d').0 = get_or-map id es k d' 0 there ∙ ap id (sym (get_or-take i es k d' below)) in
    let second : get_or (keys_of es) i 0 ≡ (get_or es i d).0 = get_or-map id es i d 0 low in
    omega (arith, order, first, second))

find_before : {X : Type 0} (front behind : List (ℕ × X)) (e : ℕ × X) → IsStrictlySortedBy nat_cmp (keys_of (front ++ e ∷ behind))
    → find nat_cmp e.0 front ≡ None
find_before front behind e rising =
    let all = front ++ e ∷ behind in
    let here : get_or all (length front) e ≡ e = get_or-append_seam front e behind e in
    let part : take (length front) all ≡ front = take-append_seam front (e ∷ behind) in
    let none = find_at all (length front) e rising (omega (arith, length-append front (e ∷ behind))) in
    ap (λ d. find nat_cmp d.0 front) (sym here) ∙ ap (find nat_cmp (get_or all (length front) e).0) (sym part) ∙ none

-- ---- logs one after another

-- The relation holds of each log with this id and what is left of it.
module _ (IsOf : ℕ → NotedLog → Option (List ℕ) → Type 0) where
  -- What is left at an id after these logs.
  abbrev pub IsLeftSoFar : ℕ → Option NotedLog → Option (List ℕ) → Type 0
  IsLeftSoFar id None left = left ≡ None
  IsLeftSoFar id (Some log) left = IsOf id log left

  one_more : (id : ℕ) (front : Option NotedLog) (left : Option (List ℕ)) (tied : Bool) (log : NotedLog) (o : Option (List ℕ)) → (tied ≡ true → front ≡ None)
      → IsLeftSoFar id front left → (tied ≡ true → IsOf id log o) → IsLeftSoFar id (or_else front (cond tied (Some log) None)) (or_else left (cond tied o None))
  one_more id (Some w) left true log o apart is of = absurd (none-some w (sym (apart refl)))
  one_more id (Some w) left false log o apart is of = subst (IsOf id w) (sym (or_none left)) is
  one_more id None left true log o apart is of = subst (λ l. IsOf id log (or_else l o)) (sym is) (of refl)
  one_more id None left false log o apart is of = or_none left ∙ is

  abbrev pub AreLeftSoFar : List (ℕ × NotedLog) → List (ℕ × List ℕ) → Type 0
  AreLeftSoFar logs left = (id : ℕ) → IsLeftSoFar id (find nat_cmp id logs) (find nat_cmp id left)

  pub none_left : AreLeftSoFar [] []
  none_left id = refl

  log_more : (front behind : List (ℕ × NotedLog)) (log : ℕ × NotedLog) (left : List (ℕ × List ℕ)) (o : Option (List ℕ))
      → IsStrictlySortedBy nat_cmp (keys_of (front ++ log ∷ behind)) → IsOf log.0 log.1 o → AreLeftSoFar front left
      → AreLeftSoFar (front ++ log ∷ []) (pushed left log.0 o)
  log_more front behind log left o rising of so_far id =
      let apart : eq_by_cmp nat_cmp id log.0 ≡ true → find nat_cmp id front ≡ None = λ tied.
      ap (λ q. find nat_cmp q front) (tells_apart finite.nat_cmp-IsAntisymmetric id log.0 tied) ∙ find_before front behind log rising in
      let own : eq_by_cmp nat_cmp id log.0 ≡ true → IsOf id log.1 o = λ tied.
      subst (λ q. IsOf q log.1 o) (sym (tells_apart finite.nat_cmp-IsAntisymmetric id log.0 tied)) of in
      subst (λ f. IsLeftSoFar id f (find nat_cmp id (pushed left log.0 o))) (sym (find-push front log.0 log.1 id))
      (subst (IsLeftSoFar id (or_else (find nat_cmp id front) (cond (eq_by_cmp nat_cmp id log.0) (Some log.1) None))) (sym (find-pushed left log.0 o id))
      (one_more id (find nat_cmp id front) (find nat_cmp id left) (eq_by_cmp nat_cmp id log.0) log.1 o apart (so_far id) own))

  -- Loop invariant: some of the logs are done, the rest are not.
  pub record Came (rest all : List (ℕ × NotedLog)) (left : List (ℕ × Vec ℕ Global)) : Type 0 where
    pub front : List (ℕ × NotedLog)
    pub whole : all ≡ front ++ rest
    pub so_far : AreLeftSoFar front (listed left)

  pub none_came : (all : List (ℕ × NotedLog)) → Came all all []
  none_came all = record { front = []; whole = refl; so_far = none_left }

  came_on : (rest behind all : List (ℕ × NotedLog)) (log : ℕ × NotedLog) (left now : List (ℕ × Vec ℕ Global)) (o : Option (List ℕ))
      → IsStrictlySortedBy nat_cmp (keys_of all) → rest ≡ log ∷ behind → Came rest all left → IsOf log.0 log.1 o → listed now ≡ pushed (listed left) log.0 o
      → Came behind all now
  came_on rest behind all log left now o rising is came of more =
      let whole : all ≡ came.front ++ log ∷ behind = came.whole ∙ ap (λ (r : List (ℕ × NotedLog)). came.front ++ r) is in
      record {
        front = came.front ++ log ∷ [];
        whole = whole ∙ sym (append_assoc came.front (log ∷ []) behind);
        so_far = subst (AreLeftSoFar (came.front ++ log ∷ [])) (sym more)
            (log_more came.front behind log (listed left) o (subst (λ l. IsStrictlySortedBy nat_cmp (keys_of l)) whole rising) of came.so_far);
      }

  -- The next log leaves a file.
  pub came_with : (rest behind all : List (ℕ × NotedLog)) (log : ℕ × NotedLog) (left now : List (ℕ × Vec ℕ Global)) (file : Vec ℕ Global)
      → IsStrictlySortedBy nat_cmp (keys_of all) → rest ≡ log ∷ behind → Came rest all left → IsOf log.0 log.1 (Some file.items)
      → now ≡ left ++ (log.0, file) ∷ [] → Came behind all now
  came_with rest behind all log left now file rising is came of more =
      came_on rest behind all log left now (Some file.items) rising is came of (listed_more left now log.0 file more)

  -- The next log leaves no file.
  pub came_without : (rest behind all : List (ℕ × NotedLog)) (log : ℕ × NotedLog) (left : List (ℕ × Vec ℕ Global))
      → IsStrictlySortedBy nat_cmp (keys_of all) → rest ≡ log ∷ behind → Came rest all left → IsOf log.0 log.1 None → Came behind all left
  came_without rest behind all log left rising is came of = came_on rest behind all log left left None rising is came of refl

  -- All logs are done if none remain.
  pub all_came : (rest all : List (ℕ × NotedLog)) (left : List (ℕ × Vec ℕ Global)) → rest ≡ [] → Came rest all left → AreLeftSoFar all (listed left)
  all_came rest all left none came =
      let whole : all ≡ came.front = came.whole ∙ ap (λ (r : List (ℕ × NotedLog)). came.front ++ r) none ∙ append-nil came.front in
      subst (λ l. AreLeftSoFar l (listed left)) (sym whole) came.so_far

-- ---- removed files one after another

module _ (IsOf : List ℕ → Option (List ℕ) → Type 0) where
  back_more : (log : Option NotedLog) (removed before left : Option (List ℕ)) (tied : Bool) (file : List ℕ) (o : Option (List ℕ))
      → (tied ≡ true → log ≡ None) → (tied ≡ true → removed ≡ None) → IsPutBack IsOf log removed before left → (tied ≡ true → IsOf file o)
      → IsPutBack IsOf log (or_else removed (cond tied (Some file) None)) before (or_else left (cond tied o None))
  back_more (Some w) removed before left true file o free apart is of = absurd (none-some w (sym (free refl)))
  back_more (Some w) removed before left false file o free apart is of = or_none left ∙ is
  back_more None removed before left true file o free apart is of = λ none.
      subst (λ g. IsBack IsOf (or_else g (Some file)) (or_else left o)) (sym (apart refl))
      (subst (λ l. IsOf file (or_else l o)) (sym (subst (λ g. IsBack IsOf g left) (apart refl) (is none))) (of refl))
  back_more None removed before left false file o free apart is of = λ none.
      subst (λ g. IsBack IsOf g (or_else left None)) (sym (or_none removed)) (subst (IsBack IsOf removed) (sym (or_none left)) (is none))

  back_past : (log : Option NotedLog) (removed before left : Option (List ℕ)) (tied : Bool) (file : List ℕ) → (tied ≡ true → IsSome log)
      → IsPutBack IsOf log removed before left → IsPutBack IsOf log (or_else removed (cond tied (Some file) None)) before left
  back_past (Some w) removed before left tied file held is = is
  back_past None removed before left true file held is = absurd (false≢true (held refl))
  back_past None removed before left false file held is = λ none. subst (λ g. IsBack IsOf g left) (sym (or_none removed)) (is none)

-- The relation holds of each removed file with this id and what is back of it.
module _ (IsOf : ℕ → List ℕ → Option (List ℕ) → Type 0) where
  abbrev pub AreBackSoFar : List (ℕ × NotedLog) → List (ℕ × List ℕ) → List (ℕ × List ℕ) → List (ℕ × List ℕ) → Type 0
  AreBackSoFar logs gone before left = (id : ℕ) → IsPutBack (IsOf id) (find nat_cmp id logs) (find nat_cmp id gone) (find nat_cmp id before) (find nat_cmp id left)

  pub none_back : (logs : List (ℕ × NotedLog)) (before : List (ℕ × List ℕ)) → AreBackSoFar logs [] before before
  none_back logs before id = start (find nat_cmp id logs) where
    start : (log : Option NotedLog) → IsPutBack (IsOf id) log None (find nat_cmp id before) (find nat_cmp id before)
    start None = λ none. none
    start (Some w) = refl

  -- Loop invariant: some of the removed files are done, the rest are not.
  pub record CameBack (logs : List (ℕ × NotedLog)) (rest all : List (ℕ × Vec ℕ Global)) (before left : List (ℕ × Vec ℕ Global)) : Type 0 where
    pub front : List (ℕ × Vec ℕ Global)
    pub whole : all ≡ front ++ rest
    pub so_far : AreBackSoFar logs (listed front) (listed before) (listed left)

  pub none_came_back : (logs : List (ℕ × NotedLog)) (all before : List (ℕ × Vec ℕ Global)) → CameBack logs all all before before
  none_came_back logs all before = record { front = []; whole = refl; so_far = none_back logs (listed before) }

  module _ (logs : List (ℕ × NotedLog)) (rest behind all : List (ℕ × Vec ℕ Global)) (file : ℕ × Vec ℕ Global) (before left : List (ℕ × Vec ℕ Global))
      (rising : IsStrictlySortedBy nat_cmp (keys_of all)) (is : rest ≡ file ∷ behind) (came : CameBack logs rest all before left) where
    whole_is : all ≡ came.front ++ file ∷ behind
    whole_is = came.whole ∙ ap (λ (r : List (ℕ × Vec ℕ Global)). came.front ++ r) is

    gone_more : (id : ℕ) → find nat_cmp id (listed (came.front ++ file ∷ []))
        ≡ or_else (find nat_cmp id (listed came.front)) (cond (eq_by_cmp nat_cmp id file.0) (Some file.1.items) None)
    gone_more id = ap (find nat_cmp id) (listed_more came.front (came.front ++ file ∷ []) file.0 file.1 refl) ∙ find-push (listed came.front) file.0 file.1.items id

    same_id : (id : ℕ) → eq_by_cmp nat_cmp id file.0 ≡ true → id ≡ file.0
    same_id id tied = tells_apart finite.nat_cmp-IsAntisymmetric id file.0 tied

    first_here : find nat_cmp file.0 (listed came.front) ≡ None
    first_here = find-map (λ v. v.items) came.front file.0
        ∙ ap (option_map (λ v. v.items)) (find_before came.front behind file (subst (λ l. IsStrictlySortedBy nat_cmp (keys_of l)) whole_is rising))

    back_on : (now : List (ℕ × Vec ℕ Global)) (o : Option (List ℕ)) → find nat_cmp file.0 logs ≡ None → IsOf file.0 file.1.items o
        → listed now ≡ pushed (listed left) file.0 o → CameBack logs behind all before now
    back_on now o free of more = record {
      front = came.front ++ file ∷ [];
      whole = whole_is ∙ sym (append_assoc came.front (file ∷ []) behind);
      so_far = λ id.
          subst (λ g. IsPutBack (IsOf id) (find nat_cmp id logs) g (find nat_cmp id (listed before)) (find nat_cmp id (listed now))) (sym (gone_more id))
          (subst (IsPutBack (IsOf id) (find nat_cmp id logs) (or_else (find nat_cmp id (listed came.front)) (cond (eq_by_cmp nat_cmp id file.0) (Some file.1.items) None))
          (find nat_cmp id (listed before))) (sym (ap (find nat_cmp id) more ∙ find-pushed (listed left) file.0 o id))
          (back_more (IsOf id) (find nat_cmp id logs) (find nat_cmp id (listed came.front)) (find nat_cmp id (listed before)) (find nat_cmp id (listed left))
          (eq_by_cmp nat_cmp id file.0) file.1.items o
          (λ tied. ap (λ q. find nat_cmp q logs) (same_id id tied) ∙ free)
          (λ tied. ap (λ q. find nat_cmp q (listed came.front)) (same_id id tied) ∙ first_here)
          (came.so_far id) (λ tied. subst (λ q. IsOf q file.1.items o) (sym (same_id id tied)) of)));
    }

    -- The file is back.
    pub back_with : (now : List (ℕ × Vec ℕ Global)) (bytes : Vec ℕ Global) → find nat_cmp file.0 logs ≡ None → IsOf file.0 file.1.items (Some bytes.items)
        → now ≡ left ++ (file.0, bytes) ∷ [] → CameBack logs behind all before now
    back_with now bytes free of more = back_on now (Some bytes.items) free of (listed_more left now file.0 bytes more)

    -- The file is not back.
    pub back_without : find nat_cmp file.0 logs ≡ None → IsOf file.0 file.1.items None → CameBack logs behind all before left
    back_without free of = back_on left None free of refl

    -- There is a log with its id, so it is not back.
    pub back_beside : IsSome (find nat_cmp file.0 logs) → CameBack logs behind all before left
    back_beside held = record {
      front = came.front ++ file ∷ [];
      whole = whole_is ∙ sym (append_assoc came.front (file ∷ []) behind);
      so_far = λ id.
          subst (λ g. IsPutBack (IsOf id) (find nat_cmp id logs) g (find nat_cmp id (listed before)) (find nat_cmp id (listed left))) (sym (gone_more id))
          (back_past (IsOf id) (find nat_cmp id logs) (find nat_cmp id (listed came.front)) (find nat_cmp id (listed before)) (find nat_cmp id (listed left))
          (eq_by_cmp nat_cmp id file.0) file.1.items
          (λ tied. subst (λ q. IsSome (find nat_cmp q logs)) (sym (same_id id tied)) held) (came.so_far id));
    }

  pub all_came_back : (logs : List (ℕ × NotedLog)) (rest all before left : List (ℕ × Vec ℕ Global)) → rest ≡ [] → CameBack logs rest all before left
      → AreBackSoFar logs (listed all) (listed before) (listed left)
  all_came_back logs rest all before left none came =
      let whole : all ≡ came.front = came.whole ∙ ap (λ (r : List (ℕ × Vec ℕ Global)). came.front ++ r) none ∙ append-nil came.front in
      subst (λ l. AreBackSoFar logs (listed l) (listed before) (listed left)) (sym whole) came.so_far

-- ---- all of it

at : {X : Type 0} (es : List (ℕ × X)) (q : ℕ) → finite.get (finite.from_entries {R = nat_cmp} es) q ≡ find nat_cmp q es
at es q = get-from_entries nat_cmp_total es q

-- The value at a key of a mapped map.
pub get-mapped : {X Y : Type 0} (f : X → Y) (es : List (ℕ × X)) (q : ℕ)
    → finite.get (finite.from_entries {R = nat_cmp} (map (λ e. (e.0, f e.1)) es)) q ≡ option_map f (finite.get (finite.from_entries {R = nat_cmp} es) q)
get-mapped f es q = at (map (λ e. (e.0, f e.1)) es) q ∙ find-map f es q ∙ ap (option_map f) (sym (at es q))

module _ (written : Written) where
  abbrev pub logs : List (ℕ × NotedLog)
  logs = written.logs.entries

  abbrev pub gone : List (ℕ × List ℕ)
  gone = map (λ e. (e.0, e.1.items)) written.gone.entries

  pub all_back : (IsOf : ℕ → List ℕ → Option (List ℕ) → Type 0) (before left : List (ℕ × Vec ℕ Global)) → AreBackSoFar IsOf logs gone (listed before) (listed left)
      → ArePutBack IsOf written before left
  all_back IsOf before left back id =
      rw (at logs id) (rw (at gone id) (rw (at (listed before) id) (rw (at (listed left) id) (back id))))

  pub file_at : (id : ℕ) → finite.get (files_of written) id ≡ option_map (λ log. log.bytes) (finite.get (logs_of written) id)
  file_at id = get-mapped (λ log. log.bytes) logs id

  -- What is left at an id at the end, for a relation on logs and one on removed files.
  module _ (IsOf : ℕ → NotedLog → Option (List ℕ) → Type 0) (IsBackFrom : ℕ → List ℕ → Option (List ℕ) → Type 0) where
    abbrev pub IsLeftAt : ℕ → Option NotedLog → Option (List ℕ) → Option (List ℕ) → Type 0
    IsLeftAt id (Some log) removed now = IsOf id log now
    IsLeftAt id None removed now = IsBack (IsBackFrom id) removed now

    module _ (before left : List (ℕ × Vec ℕ Global)) (so_far : AreLeftSoFar IsOf logs (listed before)) (back : ArePutBack IsBackFrom written before left) where
      ends : (id : ℕ) (log : Option NotedLog) (removed old now : Option (List ℕ)) → IsLeftSoFar IsOf id log old → IsPutBack (IsBackFrom id) log removed old now
          → IsLeftAt id log removed now
      ends id (Some log) removed old now is put = subst (IsOf id log) (sym put) is
      ends id None removed old now is put = put is

      pub left_at : (id : ℕ) → IsLeftAt id (finite.get (logs_of written) id) (finite.get (gone_of written) id) (finite.get (by_id left) id)
      left_at id = ends id (finite.get (logs_of written) id) (finite.get (gone_of written) id) (finite.get (by_id before) id) (finite.get (by_id left) id)
          (rw (at logs id) (rw (at (listed before) id) (so_far id))) (back id)

  -- ---- what is left if bytes are kept as written

  -- A log with synced bytes still exists.
  stands_of : (log : NotedLog) (synced : ℕ) (now : Option (List ℕ)) → log.synced ≡ Some synced → IsLeftOf log now
      → (file : List ℕ) × (now ≡ Some file) × IsLonger (take synced log.bytes) file
  stands_of log synced None is none = absurd (none-some synced (sym none ∙ is))
  stands_of log synced (Some file) is of = (file, refl, subst (λ o. HasSynced o log.bytes file) is of.1)

  module _ (before left : List (ℕ × Vec ℕ Global)) (so_far : AreLeftSoFar (λ id. IsLeftOf) logs (listed before)) (back : ArePutBack (λ id. IsBackOf) written before left) where
    each_left : (id : ℕ) (file : List ℕ) (log : Option NotedLog) (removed now : Option (List ℕ)) → finite.get (logs_of written) id ≡ log
        → finite.get (gone_of written) id ≡ removed → now ≡ Some file → IsLeftAt (λ id. IsLeftOf) (λ id. IsBackOf) id log removed now
        → IsLeft (files_of written) (gone_of written) id file
    each_left id file (Some log) removed now there was is of = inl (
      log.bytes,
      file_at id ∙ ap (option_map (λ log. log.bytes)) there,
      (subst (IsLeftOf log) is of).0,
    )
    each_left id file None (Some old) now there was is of = inr (
      old,
      file_at id ∙ ap (option_map (λ log. log.bytes)) there,
      was,
      subst (IsBackOf old) is of,
    )
    each_left id file None None now there was is of = absurd (none-some file (sym of ∙ is))

    pub all_left : (kept : Files) → AreSynced written kept → MayLeave (files_of written) (gone_of written) kept (by_id left)
    all_left kept synced = record {
      stands = λ id file is.
          let one = synced.each id file is in
          let of = subst (λ o. IsLeftAt (λ id. IsLeftOf) (λ id. IsBackOf) id o (finite.get (gone_of written) id) (finite.get (by_id left) id)) one.2
          (left_at (λ id. IsLeftOf) (λ id. IsBackOf) before left so_far back id) in
          let now = stands_of one.0 one.1 (finite.get (by_id left) id) one.3 of in
          (now.0, now.1, longer_trans file (take one.1 one.0.bytes) now.0 one.4 now.2);
      each = λ id file is.
          each_left id file (finite.get (logs_of written) id) (finite.get (gone_of written) id) (finite.get (by_id left) id) refl refl is
          (left_at (λ id. IsLeftOf) (λ id. IsBackOf) before left so_far back id);
    }
