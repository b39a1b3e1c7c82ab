-- The logs that an opening finds, one after another.
use Rattle.std.proofs.Common.{◌≡◌, ℕ, ◌≤◌, Bool, true, false, cond, ◌||◌, nat_lt, List, [], ◌∷◌, ◌++◌, length, Option, Some, None, option_map, unwrap_or, is_some, IfNone, IfSome, Err, IsErrOf}
use Rattle.std.proofs.Common.{refl, sym, ap, ◌∙◌, subst, arith, append_assoc}
use Rattle.std.proofs.lemmas.Bool.{ltb-true}
use Rattle.std.proofs.lemmas.List.{append-nil}
use Rattle.std.proofs.lemmas.Option.{same_Some, none-some}
use Rattle.std.specs.List.{flat_map}
use Rattle.std.specs.Option.{option_or}
use Rattle.std.specs.Ordering.{nat_cmp, eq_by_cmp, is_eq}
use Rattle.std.specs.declared.cmp.Ordering.{Ordering}
use Rattle.std.specs.declared.cmp.Ordering.TheVariants.{Less, Equal, Greater}
use Rattle.std.specs.BTreeMap.{get}
use Rattle.std.specs.FinMap as map
use Rattle.std.specs.FinMap.{nat_cmp-IsAntisymmetric}
use Rattle.bk_record.specs.Files.{Files, file_of}
use Rattle.bk_record.proofs.NumberMaps.{same_by_get}
use Rattle.bk_record.proofs.Longer.{longer_trans}
use Rattle.bk_disk.specs.Durable.{IsDurable, DurableGrows}
use Rattle.bk_manifest.specs.Fact.{Fact}
use Rattle.bk_manifest.specs.State.{the_log, log_state, length_of, IsStateOf}
use Rattle.bk_manifest_disk.specs.declared.lack.Lack.{Lack}
use Rattle.bk_manifest_disk.specs.declared.lack.Lack.TheVariants as lack
use Rattle.bk_manifest_disk.specs.declared.fault.Fault.TheVariants as fault
use Rattle.bk_manifest_disk.specs.Table.{Lengths, recorded, AreDurableBytesThere, IsLack}
use Rattle.bk_manifest_disk.specs.Limiting.{LogLimits, AreWithin}
use Rattle.bk_manifest.specs.declared.state.State.{State}
use Rattle.bk_manifest.specs.declared.state.LogState.{LogState}
use Rattle.bk_manifest.specs.declared.state.LogState.TheVariants.{Made, Durable, Removed}
use Rattle.bk_manifest_disk.specs.declared.table.Finding.TheVariants.{Shorter, Longer, Whole}
use Rattle.bk_manifest_disk.specs.declared.looking.Found.{Found}
use Rattle.bk_manifest_disk.specs.Opening.{known, finding_at, hidden_from, adopted_length, reported, listed, row_of, has, HasFound, HasDurableBytes, Lacks, AreSynced}
use Rattle.bk_manifest_disk.specs.Adding.{Adds, IsNew}

has_push : (logs : List ℕ) (log q : ℕ) → has (logs ++ log ∷ []) q ≡ (has logs q || eq_by_cmp nat_cmp q log)
has_push [] log q = by_test (eq_by_cmp nat_cmp q log) where
  by_test : (b : Bool) → (b || false) ≡ b
  by_test true = refl
  by_test false = refl
has_push (x ∷ logs) log q = by_test (eq_by_cmp nat_cmp q x) (has (logs ++ log ∷ []) q) (has logs q) (eq_by_cmp nat_cmp q log) (has_push logs log q) where
  by_test : (a b c d : Bool) → b ≡ (c || d) → (a || b) ≡ ((a || c) || d)
  by_test true b c d is = refl
  by_test false b c d is = is

flat_push : {X Y : Type 0} (f : X → List Y) (xs : List X) (x : X) → flat_map f (xs ++ x ∷ []) ≡ flat_map f xs ++ f x
flat_push f [] x = append-nil (f x)
flat_push f (y ∷ xs) x = ap (λ l. f y ++ l) (flat_push f xs x) ∙ sym (append_assoc (f y) (flat_map f xs) (f x))

ties : (r : Ordering) → is_eq r ≡ true → r ≡ Equal
ties Less it = cc
ties Equal it = refl
ties Greater it = cc

same_here : (q log : ℕ) → eq_by_cmp nat_cmp q log ≡ true → q ≡ log
same_here q log tied = nat_cmp-IsAntisymmetric q log (ties (nat_cmp q log) tied)

some_at : {X : Type 0} (t h : Bool) (x y : Option X) → (t ≡ true → x ≡ y) → cond t x (cond h y None) ≡ cond (h || t) y None
some_at true true x y same = same refl
some_at true false x y same = same refl
some_at false true x y same = refl
some_at false false x y same = refl

or_at : {X : Type 0} (t h : Bool) (x y : Option X) → (t ≡ true → x ≡ y) → cond t (option_or x (cond h y None)) (cond h y None) ≡ cond (h || t) y None
or_at true true None y same = refl
or_at true true (Some x) y same = same refl
or_at true false None y same = same refl
or_at true false (Some x) y same = same refl
or_at false true x y same = refl
or_at false false x y same = refl

pub found_none : (state : State) (files : Files) (found : Found) → IsNew found → HasFound state files [] found
found_none state files found new = record { lengths = new.lengths; limits = new.limits; adopted = new.adopted; reports = new.reports }

pub found_more : (state : State) (files : Files) (logs : List ℕ) (found found' : Found) (log n : ℕ) (file : List ℕ) → HasFound state files logs found → map.get files log ≡ Some file
    → n ≡ length file → Adds found log n (finding_at (known state log) n) found' → HasFound state files (logs ++ log ∷ []) found'
found_more state files logs found found' log n file was there size adds = record {
  lengths = λ q.
      adds.lengths q ∙ ap (cond (eq_by_cmp nat_cmp q log) (Some n)) (was.lengths q)
      ∙ some_at (eq_by_cmp nat_cmp q log) (has logs q) (Some n) (Some (length (file_of files q))) (λ tied. ap Some (long ∙ ap (λ i. length (file_of files i)) (sym (same_here q log tied))))
      ∙ ap (λ b. cond b (Some (length (file_of files q))) None) (sym (has_push logs log q));
  limits = λ q.
      adds.limits q ∙ ap (λ o. cond (eq_by_cmp nat_cmp q log) (option_or (hidden_from (finding_at (known state log) n)) o) o) (was.limits q)
      ∙ or_at (eq_by_cmp nat_cmp q log) (has logs q) (hidden_from (finding_at (known state log) n)) (hidden_from (row_of state files q))
      (λ tied. ap hidden_from row ∙ ap (λ i. hidden_from (row_of state files i)) (sym (same_here q log tied)))
      ∙ ap (λ b. cond b (hidden_from (row_of state files q)) None) (sym (has_push logs log q));
  adopted = adds.adopted ∙ (λ i. was.adopted i ++ listed (option_map (λ d. (log, d)) (adopted_length (row i)))) ∙ sym (flat_push (λ l. listed (option_map (λ d. (l, d)) (adopted_length (row_of state files l)))) logs log);
  reports = adds.reports ∙ (λ i. was.reports i ++ listed (reported log (row i))) ∙ sym (flat_push (λ l. listed (reported l (row_of state files l))) logs log);
} where
  long : n ≡ length (file_of files log)
  long = size ∙ ap length (sym (ap (λ (o : Option (List ℕ)). unwrap_or o []) there))

  row : finding_at (known state log) n ≡ row_of state files log
  row = ap (finding_at (known state log)) long

-- ---- what is hidden is within the file

hidden_within : (s : Option LogState) (n l : ℕ) → hidden_from (finding_at s n) ≡ Some l → l ≤ n
hidden_within None n l is = absurd (none-some l is)
hidden_within (Some Made) n l is = let same : 0 ≡ l = same_Some 0 l is in omega (arith, same)
hidden_within (Some (Durable d)) n l is = by_short (nat_lt n d) (nat_lt d n) refl is where
  by_short : (b c : Bool) → nat_lt d n ≡ c → hidden_from (cond b (Shorter d n) (cond c (Longer d n) (Whole n))) ≡ Some l → l ≤ n
  by_short true c more it = absurd (none-some l it)
  by_short false true more it = let same : d ≡ l = same_Some d l it in omega (arith, same, ltb-true d n more)
  by_short false false more it = absurd (none-some l it)
hidden_within (Some (Removed d)) n l is = let same = same_Some _ l is in omega (arith, same)

-- no removed file is back after a call, if none was before
pub gone_empty : (kept gone kept' gone' : Files) → DurableGrows kept gone kept' gone' → gone ≡ map.empty → gone' ≡ map.empty
gone_empty kept gone kept' gone' more none = same_by_get gone' map.empty (λ q. by_file q (map.get gone' q) refl) where
  by_file : (q : ℕ) (o : Option (List ℕ)) → map.get gone' q ≡ o → o ≡ map.get {R = nat_cmp} map.empty q
  by_file q None is = sym (map.get-empty nat_cmp q)
  by_file q (Some file) is = absurd (none-some file (sym (ap (λ g. map.get g q) none ∙ map.get-empty nat_cmp q) ∙ more.back q file is))

-- ---- the limits of a disk

pub has_keys : (files : Files) (q : ℕ) → has (map.keys files) q ≡ is_some (map.get files q)
has_keys files q = sym (map.contains_key-keys files q)

pub limits_within : (state : State) (files : Files) (limits : LogLimits) → ((q : ℕ) → map.get limits q ≡ cond (has (map.keys files) q) (hidden_from (row_of state files q)) None) → AreWithin limits files
limits_within state files limits hidden = λ q l is. by_file q l (map.get files q) refl (sym (hidden q ∙ ap (λ b. cond b (hidden_from (row_of state files q)) None) (has_keys files q)) ∙ is) where
  by_file : (q l : ℕ) (o : Option (List ℕ)) → map.get files q ≡ o → cond (is_some o) (hidden_from (finding_at (known state q) (length (unwrap_or o [])))) None ≡ Some l
      → (file : List ℕ) × (map.get files q ≡ Some file) × (l ≤ length file)
  by_file q l None none is = absurd (none-some l is)
  by_file q l (Some file) there is = (file, there, hidden_within (known state q) (length file) l is)

-- ---- lengths

measured : (files : Files) (lengths : Lengths) → ((q : ℕ) → get nat_cmp lengths q ≡ cond (has (map.keys files) q) (Some (length (file_of files q))) None)
    → (q : ℕ) → get nat_cmp lengths q ≡ option_map length (map.get files q)
measured files lengths found q = found q ∙ ap (λ b. cond b (Some (length (file_of files q))) None) (has_keys files q) ∙ by_file (map.get files q) where
  by_file : (o : Option (List ℕ)) → cond (is_some o) (Some (length (unwrap_or o []))) None ≡ option_map length o
  by_file None = refl
  by_file (Some file) = refl

module _ (state : State) (files : Files) (lengths : Lengths)
    (found : (q : ℕ) → get nat_cmp lengths q ≡ cond (has (map.keys files) q) (Some (length (file_of files q))) None) (records : List Fact) (is : IsStateOf records state) where
  known_is : (log : ℕ) → known state log ≡ recorded records log
  known_is log = ap log_state (is (the_log log))

  pub bytes_in_files : AreDurableBytesThere records lengths → HasDurableBytes state files
  bytes_in_files there = λ log n durable.
      let one = there log n (ap length_of (sym (known_is log) ∙ durable)) in
      by_file log n (map.get files log) refl one.0 (sym (measured files lengths found log) ∙ one.1) one.2 where
        by_file : (log n : ℕ) (o : Option (List ℕ)) → map.get files log ≡ o → (m : ℕ) → option_map length o ≡ Some m → n ≤ m
            → (file : List ℕ) × (map.get files log ≡ Some file) × (n ≤ length file)
        by_file log n None none m is within = absurd (none-some m is)
        by_file log n (Some file) here m is within = (file, here, omega (arith, same_Some (length file) m is, within))

  durable_of : (s : Option LogState) (n : ℕ) → length_of s ≡ Some n → s ≡ Some (Durable n)
  durable_of None n is = absurd (none-some n is)
  durable_of (Some Made) n is = absurd (none-some n is)
  durable_of (Some (Durable m)) n is = ap (λ k. Some (Durable k)) (same_Some m n is)
  durable_of (Some (Removed m)) n is = absurd (none-some n is)

  pub lack_in_files : (l : Lack) → IsLack records lengths l → Lacks state files l
  lack_in_files (lack.Shorter log durable n) one =
      (known_is log ∙ durable_of (recorded records log) durable one.0, by_file (map.get files log) (sym (measured files lengths found log) ∙ one.1), one.2) where
        by_file : (o : Option (List ℕ)) → option_map length o ≡ Some n → length (unwrap_or o []) ≡ n
        by_file None it = absurd (none-some n it)
        by_file (Some file) it = same_Some _ _ it
  lack_in_files (lack.Missing log durable) one =
      (known_is log ∙ durable_of (recorded records log) durable one.0, by_file (map.get files log) refl (sym (measured files lengths found log) ∙ one.1)) where
        by_file : (o : Option (List ℕ)) → map.get files log ≡ o → option_map length o ≡ None → o ≡ None
        by_file None none it = refl
        by_file (Some file) there it = cc

-- ---- a look-up's answer

pub none_holds : (o : Option Lack) (P : Type 0) → o ≡ None → IfNone o P → P
none_holds None P is holds = holds
none_holds (Some x) P is holds = cc

pub some_holds : (o : Option Lack) (P : Lack → Type 0) (x : Lack) → o ≡ Some x → IfSome o P → P x
some_holds None P x is holds = cc
some_holds (Some y) P x is holds = subst P (same_Some y x is) holds

pub same_lack : {T : Type 0} (x y : Lack) → IsErrOf {T = T} (Err (fault.Lack x)) (fault.Lack y) → x ≡ y
same_lack x y is = cc

-- ---- synced logs, one after another

pub synced_none : (files kept : Files) → AreSynced files kept []
synced_none files kept log file is there = cc

pub synced_more : (files kept gone kept' gone' : Files) (logs : List ℕ) (log : ℕ) → AreSynced files kept logs → DurableGrows kept gone kept' gone' → IsDurable kept' log (file_of files log)
    → AreSynced files kept' (logs ++ log ∷ [])
synced_more files kept gone kept' gone' logs log was more now q file is there =
    by_here (has logs q) (eq_by_cmp nat_cmp q log) refl refl (sym (has_push logs log q) ∙ is) where
      by_here : (h t : Bool) → has logs q ≡ h → eq_by_cmp nat_cmp q log ≡ t → (h || t) ≡ true → IsDurable kept' q file
      by_here true t old tied any =
          let before = was q file old there in
          let after = more.more q before.0 before.1 in
          (after.0, after.1, longer_trans file before.0 after.0 before.2 after.2)
      by_here false true old tied any =
          let here = same_here q log tied in
          subst (λ i. IsDurable kept' i file) (sym here)
          (subst (IsDurable kept' log) (ap (λ (o : Option (List ℕ)). unwrap_or o []) (ap (map.get files) (sym here) ∙ there)) now)
      by_here false false old tied any = cc
