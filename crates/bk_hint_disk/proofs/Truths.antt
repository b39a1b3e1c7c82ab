-- Hints stay true while logs grow and hints go.
use Rattle.std.proofs.Common.{◌≡◌, ◌≢◌, ◌∙◌, inl, inr, ℕ, zero, suc, ◌+◌, ◌-◌, ◌<◌, ◌≤◌, List, [], ◌∷◌, ◌++◌, length, get_or, take, drop, Some, None, Result, Ok, Err, Bool, true, false, leb, if◌then◌else◌, refl, sym, ap, subst, arith, append_assoc, length-append, length-drop}
use Rattle.std.specs.Option.{option_map_or}
use Rattle.std.specs.Cmp.{nat_cmp_total}
use Rattle.std.specs.FinMap as map
use Rattle.std.specs.FinMap.{nat_cmp-IsAntisymmetric}
use Rattle.std.proofs.lemmas.Option.{none-some}
use Rattle.std.proofs.lemmas.Bool.{leb-true}
use Rattle.std.proofs.lemmas.List.{append-nil, drop-append-le, drop-drop, length-take-le}
use Rattle.std.proofs.Math.Seq.{drop-append-add}
use Rattle.bk_record.specs.Files.{Files}
use Rattle.bk_record.specs.Longer.{IsLonger}
use Rattle.bk_record.proofs.Longer.{longer_same, longer_append}
use Rattle.bk_record.proofs.Maps.{key_cases, get-insert_cases, get-insert_else, get-remove_here, get-remove_else}
use Rattle.bk_disk.specs.Blocks.{HasPrefix}
use Rattle.bk_disk.specs.Disk.{files_after_append, files_after_patch, patched_file, Lists, Measures, Appends, Patches, Syncs, Reads, Views, Creates, Removes}
use Rattle.bk_disk.specs.declared.fault.DiskFault.{DiskFault}
use Rattle.bk_disk.specs.declared.fault.DiskFault.TheVariants.{Disk, Exists, NoLog, PastEnd, TooLong, Memory}
use Rattle.bk_hint.specs.declared.facts.LogFacts.{LogFacts}
use Rattle.bk_hint.specs.declared.listed.Listed.{Listed}
use Rattle.bk_hint.specs.Entries.{origin, past, AreFrom}
use Rattle.bk_hint.specs.Hint.{IsHint}
use Rattle.bk_hint_view.specs.Rows.{head_of, AreRecords}
use Rattle.bk_hint_disk.specs.Truth.{AreTrue}

-- ---- a record stays where its log grows

front_longer : (file now head : List ℕ) (p : ℕ) → IsLonger file now → 1024 ≤ p → 0 < length head → HasPrefix (drop p file) head → HasPrefix (drop p now) head
front_longer file now head p longer headed some front =
    let k = p - 1024 in
    let rest = drop 1024 file in
    let at : 1024 + k ≡ p = omega arith in
    let here : (l : List ℕ) → drop k (drop 1024 l) ≡ drop p l = λ l. drop-drop k 1024 l ∙ ap (λ (n : ℕ). drop n l) (omega arith) in
    let long : length head ≤ length (drop p file) = omega (arith, ap length front.1, length-append head front.0) in
    let within : k ≤ length rest = omega (arith, long, length-drop p file, length-drop 1024 file) in (
      front.0 ++ longer.behind,
      sym (here now) ∙ ap (drop k) longer.is ∙ drop-append-le k rest longer.behind within
          ∙ ap (λ (l : List ℕ). l ++ longer.behind) (here file ∙ front.1) ∙ append_assoc head front.0 longer.behind,
    )

head_long : (entry : Listed) → length (head_of entry) ≡ 20
unfolding head_of
head_long entry = refl

-- no payload is before the least position
payload_behind : (from : ℕ) (entries : List Listed) → AreFrom from entries → (k : ℕ) (d : Listed) → k < length entries → from ≤ (get_or entries k d).at
payload_behind from [] each k d within = absurd (omega arith)
payload_behind from (x ∷ xs) each zero d within = each.1.0
payload_behind from (x ∷ xs) each (suc k) d within = omega (arith, each.1.0, payload_behind (past x) xs each.1.1 k d (omega arith))

records_longer : (file now hint : List ℕ) (facts : LogFacts) (entries : List Listed) → IsLonger file now → IsHint hint facts entries → AreRecords file entries → AreRecords now entries
records_longer file now hint facts entries longer is are k d within =
    let entry = get_or entries k d in
    let behind : 1028 ≤ entry.at = payload_behind (past origin) entries (subst (AreFrom (past origin)) (sym is.entries_are) is.sound.in_order) k d within in
    front_longer file now (head_of entry) (entry.at - 4) longer (omega arith) (omega (arith, head_long entry)) (are k d within)

-- ---- logs that are longer than before, or as before, or gone

pub record GrewFrom (old new : Files) : Type 0 where
  pub each : (log : ℕ) (now : List ℕ) → map.get new log ≡ Some now → (file : List ℕ) × (map.get old log ≡ Some file) × IsLonger file now

pub true_grew : (hints old new : Files) → GrewFrom old new → AreTrue hints old → AreTrue hints new
true_grew hints old new grew holds log hint now has is facts entries listed =
    let was = grew.each log now is in
    records_longer was.0 now hint facts entries was.2 listed (holds log hint was.0 has was.1 facts entries listed)

grew_same : (old : Files) → GrewFrom old old
grew_same old = record { each = λ log now is. (now, is, longer_same now) }

pub grew_equal : (old new : Files) → new ≡ old → GrewFrom old new
grew_equal old new same = subst (λ (f : Files). GrewFrom old f) (sym same) (grew_same old)

grew_insert : (old : Files) (log : ℕ) (file now : List ℕ) → map.get old log ≡ Some file → IsLonger file now → GrewFrom old (map.insert old log now)
grew_insert old log file now there longer = record {
  each = λ q w is. elim (get-insert_cases nat_cmp_total nat_cmp-IsAntisymmetric old log now q w is) [
    | inl here ↦ (file, ap (map.get old) here.0 ∙ there, subst (IsLonger file) here.1 longer)
    | inr apart ↦ (w, apart.1, longer_same w)
  ];
}

after_append : (old : Files) (log : ℕ) (piece : List ℕ) → GrewFrom old (files_after_append old log piece)
after_append old log piece = elim (map.get old log) as (λ o. map.get old log ≡ o → GrewFrom old (option_map_or (λ file. map.insert old log (file ++ piece)) o old)) [
  | None ↦ λ none. grew_same old
  | Some file ↦ λ there. grew_insert old log file (file ++ piece) there (longer_append file piece)
] refl

pub appends_grew : {T : Type 0} (old new : Files) (log : ℕ) (piece : List ℕ) (result : Result T DiskFault) → Appends old log piece result new → GrewFrom old new
appends_grew old new log piece (Ok x) turn = subst (λ (f : Files). GrewFrom old f) (sym turn.3) (after_append old log piece)
appends_grew old new log piece (Err Disk) turn = subst (λ (f : Files). GrewFrom old f) (sym turn.1) (after_append old log (take turn.0 piece))
appends_grew old new log piece (Err NoLog) turn = grew_equal old new turn.1
appends_grew old new log piece (Err TooLong) turn = grew_equal old new turn.3
appends_grew old new log piece (Err Memory) turn = grew_equal old new turn.3
appends_grew old new log piece (Err Exists) turn = absurd turn
appends_grew old new log piece (Err PastEnd) turn = absurd turn

-- what a log had stays behind its header where twelve bytes are written at 8
longer_patched : (file bytes : List ℕ) → 20 ≤ length file → length bytes ≡ 12 → IsLonger file (take 8 file ++ bytes ++ drop 20 file)
longer_patched file bytes long twelve =
    let front = take 8 file ++ bytes in
    let size : length front ≡ 20 = length-append (take 8 file) bytes ∙ omega (arith, twelve, length-take-le 8 file (omega (arith, long))) in
    let there : 1024 ≡ length front + 1004 = omega (arith, size) in
    record {
      behind = [];
      is = ap (λ n. drop n (front ++ drop 20 file)) there ∙ drop-append-add front (drop 20 file) 1004 ∙ drop-drop 1004 20 file ∙ sym (append-nil (drop 1024 file));
    }

patched_longer : (file bytes : List ℕ) → length bytes ≡ 12 → IsLonger file (patched_file file bytes)
patched_longer file bytes twelve =
    elim (leb 20 (length file)) as (λ b. leb 20 (length file) ≡ b → IsLonger file (if b then take 8 file ++ bytes ++ drop 20 file else file)) [
      | true ↦ λ long. longer_patched file bytes (leb-true 20 (length file) long) twelve
      | false ↦ λ short. longer_same file
    ] refl

after_patch : (old : Files) (log : ℕ) (bytes : List ℕ) → length bytes ≡ 12 → GrewFrom old (files_after_patch old log bytes)
after_patch old log bytes twelve = elim (map.get old log) as (λ o. map.get old log ≡ o → GrewFrom old (option_map_or (λ file. map.insert old log (patched_file file bytes)) o old)) [
  | None ↦ λ none. grew_same old
  | Some file ↦ λ there. grew_insert old log file (patched_file file bytes) there (patched_longer file bytes twelve)
] refl

pub patches_grew : {T : Type 0} (old new : Files) (log : ℕ) (bytes : List ℕ) (result : Result T DiskFault) → length bytes ≡ 12 → Patches old log bytes result new → GrewFrom old new
patches_grew old new log bytes (Ok x) twelve turn = subst (λ (f : Files). GrewFrom old f) (sym turn.3) (after_patch old log bytes twelve)
patches_grew old new log bytes (Err Disk) twelve turn = subst (λ (f : Files). GrewFrom old f) (sym turn.2) (after_patch old log turn.0 turn.1)
patches_grew old new log bytes (Err NoLog) twelve turn = grew_equal old new turn.1
patches_grew old new log bytes (Err PastEnd) twelve turn = grew_equal old new turn.3
patches_grew old new log bytes (Err Memory) twelve turn = grew_equal old new turn.3
patches_grew old new log bytes (Err Exists) twelve turn = absurd turn
patches_grew old new log bytes (Err TooLong) twelve turn = absurd turn

pub removes_grew : {T : Type 0} (old new : Files) (log : ℕ) (result : Result T DiskFault) → Removes old log result new → GrewFrom old new
removes_grew old new log (Ok x) turn = subst (λ (f : Files). GrewFrom old f) (sym turn.1) (record {
  each = λ q now is. elim (key_cases nat_cmp_total nat_cmp-IsAntisymmetric q log) [
    | inl here ↦ absurd (none-some now (sym (get-remove_here nat_cmp_total nat_cmp-IsAntisymmetric old log) ∙ ap (map.get (map.remove old log)) (sym here) ∙ is))
    | inr apart ↦ (now, sym (get-remove_else nat_cmp_total nat_cmp-IsAntisymmetric old log q apart.1) ∙ is, longer_same now)
  ];
})
removes_grew old new log (Err Disk) turn = grew_equal old new turn
removes_grew old new log (Err NoLog) turn = grew_equal old new turn.1
removes_grew old new log (Err Memory) turn = grew_equal old new turn.1
removes_grew old new log (Err Exists) turn = absurd turn
removes_grew old new log (Err PastEnd) turn = absurd turn
removes_grew old new log (Err TooLong) turn = absurd turn

-- ---- hints that go, and logs that are made

hint_left : (hints : Files) (log q : ℕ) (hint : List ℕ) → map.get (map.remove hints log) q ≡ Some hint → (q ≢ log) × (map.get hints q ≡ Some hint)
hint_left hints log q hint is = elim (key_cases nat_cmp_total nat_cmp-IsAntisymmetric q log) [
  | inl here ↦ absurd (none-some hint (sym (get-remove_here nat_cmp_total nat_cmp-IsAntisymmetric hints log) ∙ ap (map.get (map.remove hints log)) (sym here) ∙ is))
  | inr apart ↦ (apart.1, sym (get-remove_else nat_cmp_total nat_cmp-IsAntisymmetric hints log q apart.1) ∙ is)
]

pub true_fewer : (hints files : Files) (log : ℕ) → AreTrue hints files → AreTrue (map.remove hints log) files
true_fewer hints files log holds q hint file has is = holds q hint file (hint_left hints log q hint has).1 is

true_made : (hints files : Files) (log : ℕ) (now : List ℕ) → AreTrue hints files → AreTrue (map.remove hints log) (map.insert files log now)
true_made hints files log now holds q hint file has is =
    let left = hint_left hints log q hint has in
    holds q hint file left.1 (sym (get-insert_else nat_cmp_total nat_cmp-IsAntisymmetric files log now q left.0) ∙ is)

pub creates_true : {T : Type 0} (hints old new : Files) (log : ℕ) (result : Result T DiskFault) → Creates old log result new → AreTrue hints old → AreTrue (map.remove hints log) new
creates_true hints old new log (Ok x) turn holds = subst (AreTrue (map.remove hints log)) (sym turn.1) (true_made hints old log [] holds)
creates_true hints old new log (Err Disk) turn holds = true_grew _ old new (grew_equal old new turn) (true_fewer hints old log holds)
creates_true hints old new log (Err Exists) turn holds = true_grew _ old new (grew_equal old new turn.1) (true_fewer hints old log holds)
creates_true hints old new log (Err Memory) turn holds = true_grew _ old new (grew_equal old new turn.1) (true_fewer hints old log holds)
creates_true hints old new log (Err NoLog) turn holds = absurd turn
creates_true hints old new log (Err PastEnd) turn holds = absurd turn
creates_true hints old new log (Err TooLong) turn holds = absurd turn

-- ---- calls that change no file

pub lists_grew : {T : Type 0} (ids : T → List ℕ) (old new : Files) (result : Result T DiskFault) → Lists ids old result new → GrewFrom old new
lists_grew ids old new (Ok found) turn = grew_equal old new turn.1
lists_grew ids old new (Err Disk) turn = grew_equal old new turn
lists_grew ids old new (Err Memory) turn = grew_equal old new turn
lists_grew ids old new (Err Exists) turn = absurd turn
lists_grew ids old new (Err NoLog) turn = absurd turn
lists_grew ids old new (Err PastEnd) turn = absurd turn
lists_grew ids old new (Err TooLong) turn = absurd turn

pub measures_grew : (old new : Files) (log : ℕ) (result : Result ℕ DiskFault) → Measures old log result new → GrewFrom old new
measures_grew old new log (Ok n) turn = grew_equal old new turn.3
measures_grew old new log (Err Disk) turn = grew_equal old new turn
measures_grew old new log (Err NoLog) turn = grew_equal old new turn.1
measures_grew old new log (Err Memory) turn = grew_equal old new turn.1
measures_grew old new log (Err Exists) turn = absurd turn
measures_grew old new log (Err PastEnd) turn = absurd turn
measures_grew old new log (Err TooLong) turn = absurd turn

pub reads_equal : {T : Type 0} (bytes : T → List ℕ) (old new : Files) (log at n : ℕ) (result : Result T DiskFault) → Reads bytes old log at n result new → new ≡ old
reads_equal bytes old new log at n (Ok found) turn = turn.4
reads_equal bytes old new log at n (Err Disk) turn = turn
reads_equal bytes old new log at n (Err NoLog) turn = turn.1
reads_equal bytes old new log at n (Err PastEnd) turn = turn.3
reads_equal bytes old new log at n (Err Memory) turn = turn.3
reads_equal bytes old new log at n (Err Exists) turn = absurd turn
reads_equal bytes old new log at n (Err TooLong) turn = absurd turn

pub views_equal : {V : Type 0} (bytes : V → List ℕ) (honest : V → Bool) (old new : Files) (log : ℕ) (result : Result V DiskFault) → Views bytes honest old log result new → new ≡ old
views_equal bytes honest old new log (Ok view) turn = turn.2
views_equal bytes honest old new log (Err Disk) turn = turn
views_equal bytes honest old new log (Err NoLog) turn = turn.1
views_equal bytes honest old new log (Err Memory) turn = turn.1
views_equal bytes honest old new log (Err Exists) turn = absurd turn
views_equal bytes honest old new log (Err PastEnd) turn = absurd turn
views_equal bytes honest old new log (Err TooLong) turn = absurd turn

pub syncs_grew : {T : Type 0} (old new : Files) (log : ℕ) (result : Result T DiskFault) → Syncs old log result new → GrewFrom old new
syncs_grew old new log (Ok x) turn = grew_equal old new turn.1
syncs_grew old new log (Err Disk) turn = grew_equal old new turn
syncs_grew old new log (Err NoLog) turn = grew_equal old new turn.1
syncs_grew old new log (Err Memory) turn = grew_equal old new turn.1
syncs_grew old new log (Err Exists) turn = absurd turn
syncs_grew old new log (Err PastEnd) turn = absurd turn
syncs_grew old new log (Err TooLong) turn = absurd turn
