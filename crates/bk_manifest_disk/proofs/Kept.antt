-- The calls of a disk with a manifest: what is recorded, and what is durable.
use Rattle.std.proofs.Common.{◌≡◌, ◌≢◌, ◌⊎◌, inl, inr, ℕ, List, [], ◌∷◌, ◌++◌, length, Option, Some, None, IsNone, IsSome, unwrap_or, Result, Ok, Err}
use Rattle.std.proofs.Common.{refl, sym, ap, ◌∙◌, subst, append_assoc, arith, OnOk, OnErr}
use Rattle.std.proofs.lemmas.Option.{none-some}
use Rattle.std.specs.Cmp.{nat_cmp_total}
use Rattle.std.specs.FinMap as map
use Rattle.std.specs.FinMap.{nat_cmp-IsAntisymmetric}
use Rattle.bk_record.specs.Files.{Files, file_of}
use Rattle.bk_record.proofs.Longer.{longer_trans}
use Rattle.bk_record.proofs.Maps.{key_cases, get-insert_else, get-remove_else, get-remove_here}
use Rattle.bk_disk.specs.Disk.{Measures, Creates, Removes}
use Rattle.bk_disk.specs.Durable.{IsDurable, DurableGrows, SyncDurability, IsDroppedFromDurable, RemoveDurability}
use Rattle.bk_disk.specs.declared.fault.DiskFault.{DiskFault}
use Rattle.bk_disk.specs.declared.fault.DiskFault.TheVariants.{Disk, Exists, NoLog, PastEnd, TooLong, Memory}
use Rattle.bk_manifest.specs.declared.state.LogState.{LogState}
use Rattle.bk_manifest.specs.declared.state.LogState.TheVariants.{Made, Durable, Removed}
use Rattle.bk_manifest.specs.Fact.{Fact}
use Rattle.bk_manifest.specs.State.{the_log, subject_of, log_state, length_of}
use Rattle.bk_manifest_disk.specs.Table.{recorded}
use Rattle.bk_manifest_disk.specs.Recording.{promised, if_there, promise, durable_fronts, Fits, Rises, AreRecorded}
use Rattle.bk_manifest_disk.proofs.Grown.{Alike}
use Rattle.bk_manifest_disk.proofs.Shown.{none_is}
use Rattle.bk_manifest_disk.proofs.Changing.{removal_after, removal_of_grows}
use Rattle.bk_manifest_disk.proofs.Recorded.{push_here, rises_equal, Holds, noted_more, committed, commit_rises, fits_now, alike_rises, recorded_changed}
use Rattle.bk_manifest_disk.proofs.DurableFronts.{fronts_grow, fronts_removal, front_covers}

-- ---- one record

module _ (files kept gone : Files) (R N R' N' : List Fact) (f : Fact) (log : ℕ) (was : AreRecorded files kept gone R N) (holds : Holds files kept R f log) where
  pub after_refusal : R' ≡ R → (N' ≡ N) ⊎ (N' ≡ N ++ f ∷ []) → AreRecorded files kept gone R' N'
  after_refusal same (inl none) = subst (λ xs. AreRecorded files kept gone xs N') (sym same) (subst (AreRecorded files kept gone R) (sym none) was)
  after_refusal same (inr more) =
      subst (λ xs. AreRecorded files kept gone xs N') (sym same) (subst (AreRecorded files kept gone R) (sym more) (noted_more files kept gone R N was f log holds))

  pub after_commit : R' ≡ R ++ (N ++ f ∷ []) → N' ≡ [] → AreRecorded files kept gone R' N'
  after_commit is none =
      subst (λ xs. AreRecorded files kept gone xs N') (sym is)
      (subst (AreRecorded files kept gone (R ++ (N ++ f ∷ []))) (sym none) (committed files kept gone R (N ++ f ∷ []) (noted_more files kept gone R N was f log holds)))

  pub commit_up : R' ≡ R ++ (N ++ f ∷ []) → (q : ℕ) → Rises (promise files R q) (promise files R' q)
  commit_up is q =
      subst (λ xs. Rises (promise files R q) (promise files xs q)) (sym is) (commit_rises files kept gone R (N ++ f ∷ []) (noted_more files kept gone R N was f log holds) q)

pub last_record : (R N R' : List Fact) (f : Fact) (log : ℕ) → R' ≡ R ++ (N ++ f ∷ []) → subject_of f ≡ the_log log → recorded R' log ≡ log_state (Some f)
last_record R N R' f log is about = ap (λ xs. recorded xs log) (is ∙ sym (append_assoc R N (f ∷ []))) ∙ push_here (R ++ N) f log about

pub fronts_alike : (files files' : Files) (R : List Fact) (kept gone kept' gone' : Files) → DurableGrows kept gone kept' gone' → Alike files files'
    → DurableGrows (durable_fronts files R kept) gone (durable_fronts files' R kept') gone'
fronts_alike files files' R kept gone kept' gone' more alike = fronts_grow files files' R R kept gone kept' gone' more (λ log. alike_rises files files' R log alike)

pub fronts_refused : (files files' : Files) (R R' : List Fact) (kept gone kept' gone' : Files) → R' ≡ R → DurableGrows kept gone kept' gone' → Alike files files'
    → DurableGrows (durable_fronts files R kept) gone (durable_fronts files' R' kept') gone'
fronts_refused files files' R R' kept gone kept' gone' same more alike =
    subst (λ xs. DurableGrows (durable_fronts files R kept) gone (durable_fronts files' xs kept') gone') (sym same) (fronts_alike files files' R kept gone kept' gone' more alike)

-- a log whose length cannot be measured, since there is none
pub no_log : (old new : Files) (log : ℕ) (fault : DiskFault) → fault ≡ NoLog → Measures old log (Err fault) new → IsNone (map.get old log) × (new ≡ old)
no_log old new log fault is turn = subst (λ (f : DiskFault). Measures old log (Err f) new) is turn

-- ---- creation

create_others : (files files' : Files) (log : ℕ) (result : Result (Unit {0}) DiskFault) → Creates files log result files' → (q : ℕ) → q ≢ log → map.get files' q ≡ map.get files q
create_others files files' log (Ok x) turn q apart = ap (λ fs. map.get fs q) turn.1 ∙ get-insert_else nat_cmp_total nat_cmp-IsAntisymmetric files log [] q apart
create_others files files' log (Err Disk) turn q apart = ap (λ fs. map.get fs q) turn
create_others files files' log (Err Exists) turn q apart = ap (λ fs. map.get fs q) turn.1
create_others files files' log (Err Memory) turn q apart = ap (λ fs. map.get fs q) turn.1
create_others files files' log (Err NoLog) turn q apart = absurd turn
create_others files files' log (Err PastEnd) turn q apart = absurd turn
create_others files files' log (Err TooLong) turn q apart = absurd turn

module _ (files files' : Files) (log : ℕ) (result : Result (Unit {0}) DiskFault) (turn : Creates files log result files') where
  pub created_recorded : (kept gone kept' gone' : Files) (R N : List Fact) → AreRecorded files kept gone R N → N ≡ [] → recorded R log ≡ Some Made → DurableGrows kept gone kept' gone'
      → AreRecorded files' kept' gone' R N
  created_recorded kept gone kept' gone' R N was none made more =
      subst (AreRecorded files' kept' gone' R) (sym none)
      (recorded_changed files kept gone files' kept' gone' R log (subst (AreRecorded files kept gone R) none was) (create_others files files' log result turn)
      (subst (λ s. Fits kept' log s (map.get files' log)) (sym made) tt) (subst IsSome (sym made) refl) (λ q file apart is. more.more q file is) (λ q file is. inl (more.back q file is)))

  pub created_up : (R R' : List Fact) → IsNone (map.get files log) → ((q : ℕ) → Rises (promise files R q) (promise files R' q)) → (q : ℕ) → Rises (promise files R q) (promise files' R' q)
  created_up R R' none up q = elim (key_cases nat_cmp_total nat_cmp-IsAntisymmetric q log) [
    | inl here ↦ subst (λ o. Rises (if_there o (promised (recorded R q))) (promise files' R' q)) (sym (ap (map.get files) here ∙ none_is (map.get files log) none)) tt
    | inr apart ↦ subst (λ o. Rises (promise files R q) (if_there o (promised (recorded R' q)))) (sym (create_others files files' log result turn q apart.1)) (up q)
  ]

-- ---- removal

fits_removed : (kept kept' : Files) (log n : ℕ) (o : Option (List ℕ)) → Fits kept log (Some (Removed n)) o → Fits kept' log (Some (Removed n)) o
fits_removed kept kept' log n None fits = tt
fits_removed kept kept' log n (Some file) fits = fits

module _ (files files' : Files) (log n : ℕ) (kept gone kept' gone' : Files) (R : List Fact) (was : AreRecorded files kept gone R []) (last : recorded R log ≡ Some (Removed n)) where
  dropped : IsDroppedFromDurable files log kept gone kept' gone' → ((q : ℕ) → q ≢ log → map.get files' q ≡ map.get files q)
      → (map.get files' log ≡ None) ⊎ (map.get files' log ≡ map.get files log) → AreRecorded files' kept' gone' R []
  dropped drops others here = recorded_changed files kept gone files' kept' gone' R log was others
      (subst (λ s. Fits kept' log s (map.get files' log)) (sym last) (elim here [
        | inl none ↦ subst (Fits kept' log (Some (Removed n))) (sym none) tt
        | inr same ↦ subst (Fits kept' log (Some (Removed n))) (sym same)
            (fits_removed kept kept' log n (map.get files log) (subst (λ s. Fits kept log s (map.get files log)) last (fits_now files kept gone R [] was log)))
      ]))
      (subst IsSome (sym last) refl) drops.more (λ q file is. elim (drops.back q file is) [ inl old ↦ inl old | inr now ↦ inr now.0 ])

  unchanged : IsDroppedFromDurable files log kept gone kept' gone' → files' ≡ files → AreRecorded files' kept' gone' R []
  unchanged drops same = dropped drops (λ q apart. ap (λ fs. map.get fs q) same) (inr (ap (λ fs. map.get fs log) same))

  grown : DurableGrows kept gone kept' gone' → IsDroppedFromDurable files log kept gone kept' gone'
  grown more = removal_of_grows files log Disk kept gone kept' gone' more

  removed_recorded_now : (result : Result (Unit {0}) DiskFault) → RemoveDurability files log result kept gone kept' gone' → Removes files log result files' → AreRecorded files' kept' gone' R []
  removed_recorded_now (Ok x) drops turn = dropped drops (λ q apart. ap (λ fs. map.get fs q) turn.1 ∙ get-remove_else nat_cmp_total nat_cmp-IsAntisymmetric files log q apart)
      (inl (ap (λ fs. map.get fs log) turn.1 ∙ get-remove_here nat_cmp_total nat_cmp-IsAntisymmetric files log))
  removed_recorded_now (Err Disk) drops turn = unchanged drops turn
  removed_recorded_now (Err NoLog) drops turn = unchanged (grown drops) turn.1
  removed_recorded_now (Err Memory) drops turn = unchanged (grown drops) turn.1
  removed_recorded_now (Err Exists) drops turn = absurd turn
  removed_recorded_now (Err PastEnd) drops turn = absurd turn
  removed_recorded_now (Err TooLong) drops turn = absurd turn

pub removed_recorded : (files files' : Files) (log n : ℕ) (kept gone kept' gone' : Files) (R N : List Fact) (result : Result (Unit {0}) DiskFault) → AreRecorded files kept gone R N → N ≡ []
    → recorded R log ≡ Some (Removed n) → RemoveDurability files log result kept gone kept' gone' → Removes files log result files' → AreRecorded files' kept' gone' R N
removed_recorded files files' log n kept gone kept' gone' R N result was none last drops turn =
    subst (AreRecorded files' kept' gone' R) (sym none)
    (removed_recorded_now files files' log n kept gone kept' gone' R (subst (AreRecorded files kept gone R) none was) last result drops turn)

pub removal_durable : (files mid files' : Files) (R R' : List Fact) (log : ℕ) (result : Result (Unit {0}) DiskFault) (kept gone kept' gone' kept'' gone'' : Files)
    → mid ≡ files → DurableGrows kept gone kept' gone' → ((q : ℕ) → Rises (promise mid R q) (promise mid R' q))
    → RemoveDurability mid log result kept' gone' kept'' gone'' → Removes mid log result files'
    → RemoveDurability files log result (durable_fronts files R kept) gone (durable_fronts files' R' kept'') gone''
removal_durable files mid files' R R' log result kept gone kept' gone' kept'' gone'' same more up drops turn =
    subst (λ (fs : Files). RemoveDurability fs log result (durable_fronts fs R kept) gone (durable_fronts files' R' kept'') gone'') same
    (removal_after mid log result (durable_fronts mid R kept) gone (durable_fronts mid R' kept') gone' (durable_fronts files' R' kept'') gone''
    (fronts_grow mid mid R R' kept gone kept' gone' more up) (fronts_removal mid files' R' log result kept' gone' kept'' gone'' drops turn))

-- ---- lengths

pub promised_of_length : (s : Option LogState) (n : ℕ) → length_of s ≡ Some n → promised s ≡ Some n
promised_of_length None n is = is
promised_of_length (Some Made) n is = is
promised_of_length (Some (Durable m)) n is = is
promised_of_length (Some (Removed m)) n is = absurd (none-some n is)

-- ---- a sync

module _ (files kept gone : Files) (R N R' N' : List Fact) (f : Fact) (log : ℕ) (was : AreRecorded files kept gone R N) (holds : Holds files kept R f log) where
  pub after_record : (r : Result (Unit {0}) DiskFault) → OnOk r (R' ≡ R ++ (N ++ f ∷ [])) → OnOk r (N' ≡ []) → OnErr r (R' ≡ R) → OnErr r ((N' ≡ N) ⊎ (N' ≡ N ++ f ∷ []))
      → AreRecorded files kept gone R' N'
  after_record (Ok x) is none same noted = after_commit files kept gone R N R' N' f log was holds is none
  after_record (Err e) is none same noted = after_refusal files kept gone R N R' N' f log was holds same noted

  pub record_up : (r : Result (Unit {0}) DiskFault) → OnOk r (R' ≡ R ++ (N ++ f ∷ [])) → OnErr r (R' ≡ R) → (q : ℕ) → Rises (promise files R q) (promise files R' q)
  record_up (Ok x) is same q = commit_up files kept gone R N R' N' f log was holds is q
  record_up (Err e) is same q = rises_equal _ _ (ap (λ xs. promise files xs q) same)

pub sync_by : (files kept : Files) (log : ℕ) (r : Result (Unit {0}) DiskFault) (E : Type 0) → OnOk r E → (E → IsDurable kept log (file_of files log)) → SyncDurability files log r kept
sync_by files kept log (Ok x) E on all = all on
sync_by files kept log (Err e) E on all = tt

module _ (files mid files' : Files) (log n : ℕ) (file : List ℕ) (kept gone kept' gone' : Files) (same : mid ≡ files) (there : map.get mid log ≡ Some file) (last : files' ≡ mid)
    (has : IsDurable kept log (file_of files log)) (more : DurableGrows kept gone kept' gone') where
  file_there : map.get files log ≡ Some file
  file_there = ap (λ fs. map.get fs log) (sym same) ∙ there

  pub now_there : map.get files' log ≡ Some file
  now_there = ap (λ fs. map.get fs log) last ∙ there

  pub synced_file : IsDurable kept' log file
  synced_file =
      let now = more.more log has.0 has.1 in
      subst (IsDurable kept' log) (ap (λ (o : Option (List ℕ)). unwrap_or o []) file_there) (now.0, now.1, longer_trans (file_of files log) has.0 now.0 has.2 now.2)

  pub sync_done : (R : List Fact) → promised (recorded R log) ≡ Some n → n ≡ length file → IsDurable (durable_fronts files' R kept') log (file_of files log)
  sync_done R is size =
      subst (λ (fs : Files). IsDurable (durable_fronts files' R kept') log (file_of fs log)) (last ∙ same)
      (front_covers files' R kept' log n file now_there synced_file is (omega (arith, size)))
