-- A disk that was opened by its manifest: what it shows, and that its records hold.
use Rattle.std.proofs.Common.{◌≡◌, inl, inr, ℕ, ◌≤◌, Bool, true, false, cond, ◌||◌, nat_lt, min, List, [], ◌∷◌, ◌++◌, length, take, Option, Some, None, is_some, option_map, unwrap_or, Result, Err}
use Rattle.std.proofs.Common.{refl, sym, ap, ◌∙◌, subst, arith, append_assoc}
use Rattle.std.proofs.Math.Decide.{dec_le}
use Rattle.std.proofs.lemmas.Bool.{ltb-true, ltb-false}
use Rattle.std.proofs.lemmas.List.{append-nil, take_all, length-take-le}
use Rattle.std.proofs.lemmas.Option.{same_Some, none-some}
use Rattle.std.specs.List.{flat_map}
use Rattle.std.specs.Option.{option_or}
use Rattle.std.specs.Ordering.{nat_cmp, eq_by_cmp, is_eq}
use Rattle.std.specs.Cmp.{nat_cmp_total, tied_itself}
use Rattle.std.specs.FinMap as map
use Rattle.std.specs.FinMap.{nat_cmp-IsAntisymmetric}
use Rattle.bk_record.specs.Files.{Files, file_of}
use Rattle.bk_record.proofs.Maps.{key_cases}
use Rattle.bk_disk.specs.Durable.{IsDurable}
use Rattle.bk_manifest.specs.declared.state.State.{State}
use Rattle.bk_manifest.specs.declared.state.LogState.{LogState}
use Rattle.bk_manifest.specs.declared.state.LogState.TheVariants.{Made, Durable, Removed}
use Rattle.bk_manifest.specs.Fact.{Fact, durable_log}
use Rattle.bk_manifest.specs.State.{the_log, log_state, IsStateOf, SameMeaning}
use Rattle.bk_manifest_disk.specs.declared.lack.Lack.{Lack}
use Rattle.bk_manifest_disk.specs.declared.lack.Lack.TheVariants as lack
use Rattle.bk_manifest.specs.File.{content_of, generation_of}
use Rattle.bk_manifest.specs.Keeping.{facts_found}
use Rattle.bk_manifest_disk.specs.declared.fault.Fault.{Fault}
use Rattle.bk_manifest_disk.specs.declared.fault.Fault.TheVariants as fault
use Rattle.bk_manifest_disk.specs.declared.report.Report.{Report}
use Rattle.bk_manifest_disk.specs.declared.table.Finding.TheVariants.{Shorter, Longer, Whole}
use Rattle.bk_manifest_disk.specs.Table.{recorded}
use Rattle.bk_manifest_disk.specs.Limiting.{LogLimits, shown, shown_files}
use Rattle.bk_manifest_disk.specs.Recording.{promise, Fits, AreRecorded, limit_of}
use Rattle.bk_manifest_disk.specs.Opening.{AreOpened, known, finding_at, hidden_from, adopted_length, reported, listed, row_of, adopted_of, has, as_records, AreSynced, AreLimited, Lacks, LacksBy, reports_by}
use Rattle.bk_manifest_disk.proofs.Shown.{get-shown, shown_is}
use Rattle.bk_manifest_disk.proofs.Recorded.{push_here, push_else, rises_equal, covers}
use Rattle.bk_manifest_disk.proofs.Found.{has_keys}

as_append : (xs ys : List (ℕ × ℕ)) → as_records (xs ++ ys) ≡ as_records xs ++ as_records ys
as_append [] ys = refl
as_append (x ∷ xs) ys = ap (λ l. durable_log x.0 x.1 ∷ l) (as_append xs ys)

-- the last record about a log, if an opening records a length of it
abbrev after_adoption : Option ℕ → Option LogState → Option LogState
after_adoption n s = option_or (option_map Durable n) s

same_both : {X : Type 0} (t : Bool) (x : X) → x ≡ cond t x x
same_both true x = refl
same_both false x = refl

merged : (t h : Bool) (n m : Option ℕ) (s : Option LogState) → (t ≡ true → m ≡ n)
    → cond h (after_adoption n (cond t (after_adoption m s) s)) (cond t (after_adoption m s) s) ≡ cond (t || h) (after_adoption n s) s
merged true true n m s same = ap (λ o. after_adoption n (after_adoption o s)) (same refl) ∙ twice n where
  twice : (o : Option ℕ) → after_adoption o (after_adoption o s) ≡ after_adoption o s
  twice None = refl
  twice (Some k) = refl
merged true false n m s same = ap (λ o. after_adoption o s) (same refl)
merged false true n m s same = refl
merged false false n m s same = refl

same_here : (q log : ℕ) → eq_by_cmp nat_cmp q log ≡ true → q ≡ log
same_here q log tied = elim (key_cases nat_cmp_total nat_cmp-IsAntisymmetric q log) [ inl same ↦ same | inr apart ↦ cc ]

module _ (state : State) (files : Files) where
  adopted_at : ℕ → Option ℕ
  adopted_at log = adopted_length (row_of state files log)

  adopt : ℕ → List Fact
  adopt l = as_records (listed (option_map (λ n. (l, n)) (adopted_at l)))

  one_by : (R : List Fact) (l log : ℕ) (o : Option ℕ) → recorded (R ++ as_records (listed (option_map (λ n. (l, n)) o))) log
      ≡ cond (eq_by_cmp nat_cmp log l) (after_adoption o (recorded R log)) (recorded R log)
  one_by R l log None = ap (λ xs. recorded xs log) (append-nil R) ∙ same_both (eq_by_cmp nat_cmp log l) (recorded R log)
  one_by R l log (Some n) = elim (key_cases nat_cmp_total nat_cmp-IsAntisymmetric log l) [
    | inl same ↦
        let tied : eq_by_cmp nat_cmp log l ≡ true = ap (eq_by_cmp nat_cmp log) (sym same) ∙ ap is_eq (tied_itself nat_cmp_total log) in
        ap (recorded (R ++ durable_log l n ∷ [])) same ∙ push_here R (durable_log l n) l refl
        ∙ sym (ap (λ b. cond b (Some (Durable n)) (recorded R log)) tied)
    | inr apart ↦ push_else R (durable_log l n) l log refl apart.1 ∙ sym (ap (λ b. cond b (Some (Durable n)) (recorded R log)) apart.0)
  ]

  recorded_adopted : (R : List Fact) (logs : List ℕ) (log : ℕ) → recorded (R ++ as_records (adopted_of state files logs)) log
      ≡ cond (has logs log) (after_adoption (adopted_at log) (recorded R log)) (recorded R log)
  unfolding adopted_at adopt
  recorded_adopted R [] log = ap (λ xs. recorded xs log) (append-nil R)
  recorded_adopted R (l ∷ logs) log =
      ap (λ xs. recorded (R ++ xs) log) (as_append (listed (option_map (λ n. (l, n)) (adopted_at l))) (adopted_of state files logs))
      ∙ ap (λ xs. recorded xs log) (sym (append_assoc R (adopt l) (as_records (adopted_of state files logs))))
      ∙ recorded_adopted (R ++ adopt l) logs log
      ∙ ap (λ o. cond (has logs log) (after_adoption (adopted_at log) o) o) (one_by R l log (adopted_at l))
      ∙ merged (eq_by_cmp nat_cmp log l) (has logs log) (adopted_at log) (adopted_at l) (recorded R log) (λ tied. ap adopted_at (sym (same_here log l tied)))

-- ---- one log

fits_at : (kept : Files) (log : ℕ) (s : Option LogState) (file : List ℕ) → ((n : ℕ) → s ≡ Some (Durable n) → n ≤ length file)
    → IsDurable kept log (shown (hidden_from (finding_at s (length file))) file)
    → Fits kept log (after_adoption (adopted_length (finding_at s (length file))) s) (Some (shown (hidden_from (finding_at s (length file))) file))
fits_at kept log None file within has = (omega arith, covers kept log (length file) file has refl)
fits_at kept log (Some Made) file within has = tt
fits_at kept log (Some (Durable d)) file within has = by_tests (nat_lt (length file) d) (nat_lt d (length file)) refl refl has where
  by_tests : (b c : Bool) → nat_lt (length file) d ≡ b → nat_lt d (length file) ≡ c
      → IsDurable kept log (shown (hidden_from (cond b (Shorter d (length file)) (cond c (Longer d (length file)) (Whole (length file))))) file)
      → Fits kept log (after_adoption (adopted_length (cond b (Shorter d (length file)) (cond c (Longer d (length file)) (Whole (length file))))) (Some (Durable d)))
      (Some (shown (hidden_from (cond b (Shorter d (length file)) (cond c (Longer d (length file)) (Whole (length file))))) file))
  by_tests true c short more now = absurd (omega (arith, ltb-true (length file) d short, within d refl))
  by_tests false true short more now =
      let size = length-take-le d file (within d refl) in (omega (arith, size), covers kept log d (take d file) now (sym size))
  by_tests false false short more now = (within d refl, covers kept log d file now (omega (arith, ltb-false d (length file) more, within d refl)))
fits_at kept log (Some (Removed d)) file within has =
    let size = length-take-le (min d (length file)) file (omega arith) in
    (omega (arith, size), covers kept log (min d (length file)) (take (min d (length file)) file) has (sym size))

fits_none : (kept : Files) (log : ℕ) (s : Option LogState) → ((n : ℕ) → s ≡ Some (Durable n) → ⊥) → Fits kept log s None
fits_none kept log None none = tt
fits_none kept log (Some Made) none = tt
fits_none kept log (Some (Durable n)) none = none n refl
fits_none kept log (Some (Removed n)) none = tt

shown_alike : (s : Option LogState) (file : List ℕ) → shown (hidden_from (finding_at s (length file))) file ≡ shown (limit_of s) file
shown_alike None file = refl
shown_alike (Some Made) file = refl
shown_alike (Some (Durable d)) file = by_tests (nat_lt (length file) d) (nat_lt d (length file)) refl refl where
  by_tests : (b c : Bool) → nat_lt (length file) d ≡ b → nat_lt d (length file) ≡ c
      → shown (hidden_from (cond b (Shorter d (length file)) (cond c (Longer d (length file)) (Whole (length file))))) file ≡ take d file
  by_tests true c short more = sym (take_all d file (omega (arith, ltb-true (length file) d short)))
  by_tests false true short more = refl
  by_tests false false short more = sym (take_all d file (omega (arith, ltb-false d (length file) more)))
shown_alike (Some (Removed d)) file = elim (dec_le d (length file)) [
  | yes within ↦ ap (λ n. take n file) (omega (arith, within))
  | no past ↦ take_all (min d (length file)) file (omega (arith, past)) ∙ sym (take_all d file (omega (arith, past)))
]

-- ---- all logs

module _ (state : State) (files : Files) (limits : LogLimits) (reports : List Report) (adopted : List (ℕ × ℕ)) (R : List Fact)
    (limited : AreLimited state files limits reports adopted) (is : IsStateOf R state) where
  known_is : (log : ℕ) → known state log ≡ recorded R log
  known_is log = ap log_state (is (the_log log))

  limit_at : (log : ℕ) (file : List ℕ) → map.get files log ≡ Some file → map.get limits log ≡ hidden_from (finding_at (recorded R log) (length file))
  limit_at log file there =
      limited.hidden log ∙ ap (λ b. cond b (hidden_from (row_of state files log)) None) (has_keys files log ∙ ap is_some there)
      ∙ (λ i. hidden_from (finding_at (known_is log i) (length (unwrap_or (there i) []))))

  pub opened_shows : AreOpened files R (shown_files limits files)
  opened_shows = record { each = λ log. get-shown limits files log ∙ by_file log (map.get files log) refl } where
    by_file : (log : ℕ) (o : Option (List ℕ)) → map.get files log ≡ o → option_map (shown (map.get limits log)) o ≡ option_map (shown (limit_of (recorded R log))) o
    by_file log None none = refl
    by_file log (Some file) there = ap Some (ap (λ l. shown l file) (limit_at log file there) ∙ shown_alike (recorded R log) file)

  pub opened_reports : reports ≡ reports_by R files
  opened_reports = limited.told ∙ (λ i. flat_map (λ log. listed (reported log (finding_at (known_is log i) (length (file_of files log))))) (map.keys files))

  durable_within : (log n : ℕ) (file : List ℕ) → map.get files log ≡ Some file → recorded R log ≡ Some (Durable n) → n ≤ length file
  durable_within log n file there durable =
      let one = limited.durable R is log n (known_is log ∙ durable) in
      let same : one.0 ≡ file = same_Some _ _ (sym one.1 ∙ there) in omega (arith, one.2, ap length same)

  last_of : (log : ℕ) → recorded (R ++ as_records adopted) log ≡ cond (is_some (map.get files log)) (after_adoption (adopted_length (finding_at (recorded R log) (length (file_of files log)))) (recorded R log)) (recorded R log)
  unfolding adopted_at
  last_of log =
      ap (λ xs. recorded (R ++ as_records xs) log) limited.new ∙ recorded_adopted state files R (map.keys files) log
      ∙ ap (λ b. cond b (after_adoption (adopted_length (row_of state files log)) (recorded R log)) (recorded R log)) (has_keys files log)
      ∙ ap (λ s. cond (is_some (map.get files log)) (after_adoption (adopted_length (finding_at s (length (file_of files log)))) (recorded R log)) (recorded R log)) (known_is log)

  module _ (kept gone : Files) (R' : List Fact) (synced : AreSynced (shown_files limits files) kept (map.keys (shown_files limits files))) (none : gone ≡ map.empty)
      (same : (log : ℕ) → recorded R' log ≡ recorded (R ++ as_records adopted) log) where
    fits_by : (log : ℕ) (o : Option (List ℕ)) → map.get files log ≡ o
        → Fits kept log (cond (is_some o) (after_adoption (adopted_length (finding_at (recorded R log) (length (unwrap_or o [])))) (recorded R log)) (recorded R log)) (option_map (shown (map.get limits log)) o)
    fits_by log None absent = fits_none kept log (recorded R log) (λ n durable.
        let one = limited.durable R is log n (known_is log ∙ durable) in absurd (none-some one.0 (sym absent ∙ one.1)))
    fits_by log (Some file) there =
        let limit = limit_at log file there in
        let front = shown_is limits files log file there in
        subst (λ (l : Option ℕ). Fits kept log (after_adoption (adopted_length (finding_at (recorded R log) (length file))) (recorded R log)) (Some (shown l file))) (sym limit)
        (fits_at kept log (recorded R log) file (λ n durable. durable_within log n file there durable)
        (subst (λ (l : Option ℕ). IsDurable kept log (shown l file)) limit
        (synced log (shown (map.get limits log) file) (has_keys (shown_files limits files) log ∙ ap is_some front) front)))

    fits_all : (log : ℕ) → Fits kept log (recorded R' log) (map.get (shown_files limits files) log)
    fits_all log =
        subst (λ o. Fits kept log (recorded R' log) o) (sym (get-shown limits files log))
        (subst (λ s. Fits kept log s (option_map (shown (map.get limits log)) (map.get files log))) (sym (same log ∙ last_of log)) (fits_by log (map.get files log) refl))

    pub opened_recorded : (N : List Fact) → N ≡ [] → AreRecorded (shown_files limits files) kept gone R' N
    opened_recorded N nothing = record {
      each = λ k log. subst (λ xs. Fits kept log (recorded xs log) (map.get (shown_files limits files) log)) (sym (whole k)) (fits_all log);
      rises = λ k log. rises_equal _ _ (ap (λ xs. promise (shown_files limits files) xs log) (whole k));
      back = λ k log file is_back. absurd (none-some file (sym (ap (λ g. map.get g log) none ∙ map.get-empty nat_cmp log) ∙ is_back));
    } where
      whole : (k : ℕ) → R' ++ take k N ≡ R'
      whole k = ap (λ (xs : List Fact). R' ++ take k xs) nothing ∙ ap (λ (xs : List Fact). R' ++ xs) (take_all k [] (omega arith)) ∙ append-nil R'

pub lacks_by : (state : State) (files : Files) (R : List Fact) (l : Lack) → IsStateOf R state → Lacks state files l → LacksBy R files l
lacks_by state files R (lack.Shorter log durable n) is one = (sym (ap log_state (is (the_log log))) ∙ one.0, one.1, one.2)
lacks_by state files R (lack.Missing log durable) is one = (sym (ap log_state (is (the_log log))) ∙ one.0, one.1)

pub same_recorded : (xs ys : List Fact) → SameMeaning xs ys → (log : ℕ) → recorded ys log ≡ recorded xs log
same_recorded xs ys same log = ap log_state (sym (same (the_log log)))

-- an empty file has no records
pub nothing_found : facts_found (content_of []) ≡ []
unfolding content_of generation_of
nothing_found = refl

pub told_lack : {T : Type 0} (t f : Fault) (l : Lack) (r : Result T Fault) → r ≡ Err t → t ≡ f → r ≡ Err (fault.Lack l) → f ≡ fault.Lack l
told_lack t f l r one same is = cc
